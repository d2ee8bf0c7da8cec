use Rattle.std.proofs.Common.{◌≡◌, ◌++◌, map, drop, flat_map}
use Rattle.dart_syntax.specs.View.{member}
use Rattle.dart_syntax.specs.Text.{member_text}
use Rattle.dart_printer.proofs.unit.print_members.Given as goal

abbrev pub invariant-loop-x : goal.invariant-loop-x
invariant-loop-x l = l.out.items ++ flat_map (member_text l.class) (map member (drop l.x-index l.all)) ≡ l.initial.out.items ++ flat_map (member_text l.class) (map member l.all)

use Rattle.std.proofs.Common.{◌≡◌, ◌++◌, map, drop, flat_map}
use Rattle.dart_syntax.specs.View.{top}
use Rattle.dart_syntax.specs.Text.{top_text}
use Rattle.dart_printer.proofs.unit.print_tops.Given as goal

abbrev pub invariant-loop-x : goal.invariant-loop-x
invariant-loop-x l = l.out.items ++ flat_map top_text (map top (drop l.x-index l.all)) ≡ l.initial.out.items ++ flat_map top_text (map top l.all)

use Rattle.std.proofs.Common.{◌≡◌, ◌++◌, drop}
use Rattle.dart_syntax.specs.Text.{listed, name_text}
use Rattle.dart_printer.specs.Left.{items_left}
use Rattle.dart_printer.proofs.unit.print_names.Given as goal

abbrev pub invariant-loop-i : goal.invariant-loop-i
invariant-loop-i l = l.out.items ++ items_left name_text l.i (drop l.i l.all) ≡ l.initial.out.items ++ listed name_text l.all

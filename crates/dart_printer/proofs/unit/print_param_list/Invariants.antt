use Rattle.std.proofs.Common.{◌≡◌, ◌++◌, map, drop}
use Rattle.dart_syntax.specs.View.{param}
use Rattle.dart_syntax.specs.Text.{listed, param_text}
use Rattle.dart_printer.specs.Left.{items_left}
use Rattle.dart_printer.proofs.unit.print_param_list.Given as goal

abbrev pub invariant-loop-i : goal.invariant-loop-i
invariant-loop-i l = l.out.items ++ items_left param_text l.i (map param (drop l.i l.all)) ≡ l.initial.out.items ++ listed param_text (map param l.all)

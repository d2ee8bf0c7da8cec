use Rattle.std.proofs.Common.{◌≡◌, ◌++◌, drop}
use Rattle.dart_syntax.specs.Text.{units_text}
use Rattle.dart_printer.proofs.words.put_units.Given as goal

abbrev pub invariant-loop-unit : goal.invariant-loop-unit
invariant-loop-unit l = l.out.items ++ units_text (drop l.unit-index l.units) ≡ l.initial.out.items ++ units_text l.units

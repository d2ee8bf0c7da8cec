use Rattle.std.proofs.Common.{◌≡◌, drop}
use Rattle.dart_syntax.specs.Numbers.{value, value_from}
use Rattle.dart_lexer.proofs.number.value.Given as goal

abbrev pub invariant-loop-b : goal.invariant-loop-b
invariant-loop-b l = value_from l.base l.v (drop l.b-index l.digits) ≡ value l.base l.digits

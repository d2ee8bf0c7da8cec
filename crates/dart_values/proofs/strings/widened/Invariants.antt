use Rattle.std.proofs.Common.{◌≡◌, take}
use Rattle.dart_values.proofs.strings.widened.Given as goal

abbrev pub invariant-loop-b : goal.invariant-loop-b
invariant-loop-b l = l.units ≡ take l.b-index l.bytes

use Rattle.std.proofs.Common.{◌≡◌, ◌-◌, ◌^◌, min, take}
use Rattle.dart_sites.specs.Words.{digits_value}
use Rattle.dart_sites.proofs.words.digits_value.Given as goal

abbrev pub invariant-loop-b : goal.invariant-loop-b
invariant-loop-b l = l.value ≡ min (digits_value (take l.b-index l.text)) (2 ^ 64 - 1)

use Rattle.std.proofs.Common.{◌≡◌, drop, map}
use Rattle.dart_syntax.specs.View.{member}
use Rattle.text_names.specs.Reached.{constructor_params}
use Rattle.text_names.proofs.reached.constructor_params.Given as goal

abbrev pub invariant-loop-m : goal.invariant-loop-m
invariant-loop-m l = constructor_params (map member (drop l.m-index l.members)) ≡ constructor_params (map member l.members)

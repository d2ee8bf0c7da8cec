use Rattle.std.proofs.Common.{◌≡◌, replicate}
use Rattle.mega_tests.specs.Chains.{plain_class}
use Rattle.mega_tests.proofs.chains.chain_of.Given as goal

abbrev pub invariant-loop-n : goal.invariant-loop-n
invariant-loop-n l = l.classes ≡ replicate l.n plain_class

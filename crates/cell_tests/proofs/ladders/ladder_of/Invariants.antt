use Rattle.std.proofs.Common.{◌≡◌, ◌∷◌, replicate}
use Rattle.cell_tests.specs.Ladders.{with_member, bare}
use Rattle.cell_tests.proofs.ladders.ladder_of.Given as goal

abbrev pub invariant-loop-n : goal.invariant-loop-n
invariant-loop-n l = l.classes ≡ with_member ∷ bare ∷ replicate l.n with_member

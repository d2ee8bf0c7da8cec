-- The definitions on small lists.
use Rattle.std.proofs.Common.{◌≡◌, ℕ, [], ◌∷◌, Some, None, replicate, refl, arith}
use Rattle.std.proofs.lemmas.Bool.Decides.{nat_tests}
use Rattle.job_deal.specs.Counts.{times, EachOnce, those_below}
use Rattle.job_deal.specs.Results.{put_all}

times-2 : times 2 (2 ∷ 0 ∷ 2 ∷ []) ≡ 2
times-2 = refl

those_below-3 : those_below 3 (4 ∷ 0 ∷ 3 ∷ 2 ∷ []) ≡ 0 ∷ 2 ∷ []
those_below-3 = refl

each_once-3 : EachOnce 3 (2 ∷ 0 ∷ 1 ∷ [])
each_once-3 x = grind (arith, nat_tests)

-- one number twice, and one left out
not_each_once : ¬ EachOnce 2 (0 ∷ 0 ∷ [])
not_each_once once = let zeros = once 0 in absurd (omega arith)

put_all-3 : put_all {T = ℕ} (replicate 3 None) ((2, 30) ∷ (0, 10) ∷ []) ≡ Some 10 ∷ None ∷ Some 30 ∷ []
put_all-3 = refl

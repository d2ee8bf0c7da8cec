-- How often numbers stand in lists.
use Rattle.std.proofs.Common.{◌≡◌, ℕ, ◌+◌, ◌==◌, cond, List, ◌∷◌, ◌++◌, arith}
use Rattle.std.proofs.lemmas.Bool.Decides.{nat_tests}
use Rattle.std.proofs.lemmas.List.Sums.{sum_by-append, sum_by-cons}
use Rattle.job_deal.specs.Counts.{times, once_below}

pub times-cons : (x y : ℕ) (ys : List ℕ) → times x (y ∷ ys) ≡ cond {A = ℕ} (y == x) 1 0 + times x ys
times-cons x y ys = sum_by-cons (λ z. cond (z == x) 1 0) y ys

pub times-append : (x : ℕ) (ys zs : List ℕ) → times x (ys ++ zs) ≡ times x ys + times x zs
times-append x ys zs = sum_by-append (λ z. cond (z == x) 1 0) ys zs

-- the number n stands behind the n numbers below it
pub once_below-more : (x n : ℕ) → once_below x n + cond {A = ℕ} (n == x) 1 0 ≡ once_below x (n + 1)
once_below-more x n = grind (arith, nat_tests)

pub once_below-none : (x : ℕ) → 0 ≡ once_below x 0
once_below-none x = grind (arith, nat_tests)

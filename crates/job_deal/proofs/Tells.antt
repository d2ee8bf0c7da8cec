-- What all numbers drawn say of the jobs.
use Rattle.std.proofs.Common.{◌≡◌, ℕ, ◌<◌, ◌≤◌, cond, ltb, Bool, true, false, List, [], ◌∷◌, length, refl, ap, ◌∙◌, arith}
use Rattle.std.proofs.lemmas.Bool.Decides.{nat_tests}
use Rattle.job_deal.specs.Counts.{times, once_below, EachOnce, those_below}
use Rattle.job_deal.specs.Passes.{AreDealt}
use Rattle.job_deal.proofs.Counts.{times-cons}

-- a number below n stands as often among those below n, and another never
pub times-those_below : (n x : ℕ) (ys : List ℕ) → times x (those_below n ys) ≡ cond {A = ℕ} (ltb x n) (times x ys) 0
times-those_below n x [] = grind (arith, nat_tests)
times-those_below n x (y ∷ ys) = by_test (ltb y n) refl (times-those_below n x ys)
  where
    by_test : (b : Bool) → ltb y n ≡ b → times x (those_below n ys) ≡ cond {A = ℕ} (ltb x n) (times x ys) 0
        → times x (cond b (y ∷ those_below n ys) (those_below n ys)) ≡ cond {A = ℕ} (ltb x n) (times x (y ∷ ys)) 0
    by_test true e rest = grind (arith, nat_tests, times-cons x y (those_below n ys), times-cons x y ys, rest, e)
    by_test false e rest = grind (arith, nat_tests, times-cons x y ys, rest, e)

-- a number that was drawn is below the count of all
drawn_below : (n count : ℕ) → 0 < once_below n count → n < count
drawn_below n count some = grind (arith, nat_tests)

both_once : (x jobs count : ℕ) → jobs ≤ count → cond {A = ℕ} (ltb x jobs) (once_below x count) 0 ≡ once_below x jobs
both_once x jobs count fits = grind (arith, nat_tests)

-- of the first numbers, each once, those of the jobs are all jobs
jobs_once : (jobs : ℕ) (drawn : List ℕ) → EachOnce (length drawn) drawn → jobs ≤ length drawn → EachOnce jobs (those_below jobs drawn)
jobs_once jobs drawn once enough x =
    times-those_below jobs x drawn ∙ (ap (λ (k : ℕ). cond {A = ℕ} (ltb x jobs) k 0) (once x) ∙ both_once x jobs (length drawn) enough)

pub tells : (jobs : ℕ) (drawn : List ℕ) → EachOnce (length drawn) drawn → AreDealt jobs drawn
tells jobs drawn once = record {
  once = once;
  none_left = λ n no_job was_drawn.
      let count = once n in let inside = drawn_below n (length drawn) (omega arith) in jobs_once jobs drawn once (omega arith);
  enough = jobs_once jobs drawn once;
}

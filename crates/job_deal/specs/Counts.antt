-- How often a number stands in a list.
use Rattle.std.specs.Prelude.{◌≡◌, ℕ, List, cond, ltb, ◌==◌, count_by, filter}

-- how often x stands among the numbers
abbrev pub times : ℕ → List ℕ → ℕ
times x numbers = count_by (λ y. y == x) numbers

-- 1 where x is below n, and else 0
abbrev pub once_below : ℕ → ℕ → ℕ
once_below x n = cond (ltb x n) 1 0

-- each number below n stands among the numbers once, and no other does
abbrev pub EachOnce : ℕ → List ℕ → Type 0
EachOnce n numbers = (x : ℕ) → times x numbers ≡ once_below x n

-- the numbers below n, in their order
abbrev pub those_below : ℕ → List ℕ → List ℕ
those_below n numbers = filter (λ x. ltb x n) numbers

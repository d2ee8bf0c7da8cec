-- Sums of numbers over views. Seat i has the view v where `get_elem? views i` is `some v`.
use Rattle.std.proofs.Common.{◌≡◌, ◌≢◌, ℕ, zero, suc, ◌+◌, ◌≤◌, List, [], ◌∷◌, set, sum_by, sym, refl, ap, arith}
use Rattle.std.proofs.lemmas.List.Sums.{sum_by-cons}
use mathlib.Core.Option.{some, some-injective, some-ne-none}
use lib.ListN.{get_elem?}

-- a seat has the view that was put there
pub here-set : {A : Type 0} (l : List A) (i : ℕ) (v w : A) → get_elem? l i ≡ some v → get_elem? (set l i w) i ≡ some w
here-set [] i v w e = absurd (some-ne-none v (sym e))
here-set (x ∷ xs) zero v w e = refl
here-set (x ∷ xs) (suc i) v w e = here-set xs i v w e

module _ {A : Type 0} (f : A → ℕ) where
  -- a view w in the place of v
  pub sum-set : (l : List A) (i : ℕ) (v w : A) → get_elem? l i ≡ some v → sum_by f (set l i w) + f v ≡ sum_by f l + f w
  sum-set [] i v w e = absurd (some-ne-none v (sym e))
  sum-set (x ∷ xs) zero v w e = let is : f x ≡ f v = ap f (some-injective x v e) in omega (arith, sum_by-cons f x xs, sum_by-cons f w xs)
  sum-set (x ∷ xs) (suc i) v w e = let r = sum-set xs i v w e in omega (arith, sum_by-cons f x xs, sum_by-cons f x (set xs i w))

  -- one seat has at most the whole
  pub sum-part : (l : List A) (i : ℕ) (v : A) → get_elem? l i ≡ some v → f v ≤ sum_by f l
  sum-part [] i v e = absurd (some-ne-none v (sym e))
  sum-part (x ∷ xs) zero v e = let is : f x ≡ f v = ap f (some-injective x v e) in omega (arith, sum_by-cons f x xs)
  sum-part (x ∷ xs) (suc i) v e = let r = sum-part xs i v e in omega (arith, sum_by-cons f x xs)

  -- two seats have at most the whole together
  pub sum-two : (l : List A) (i j : ℕ) (v w : A) → get_elem? l i ≡ some v → get_elem? l j ≡ some w → j ≢ i → f v + f w ≤ sum_by f l
  sum-two [] i j v w e g n = absurd (some-ne-none v (sym e))
  sum-two (x ∷ xs) zero zero v w e g n = absurd (n refl)
  sum-two (x ∷ xs) zero (suc j) v w e g n =
      let is : f x ≡ f v = ap f (some-injective x v e) in let r = sum-part xs j w g in omega (arith, sum_by-cons f x xs)
  sum-two (x ∷ xs) (suc i) zero v w e g n =
      let is : f x ≡ f w = ap f (some-injective x w g) in let r = sum-part xs i v e in omega (arith, sum_by-cons f x xs)
  sum-two (x ∷ xs) (suc i) (suc j) v w e g n =
      let r = sum-two xs i j v w e g (λ same. n (ap suc same)) in omega (arith, sum_by-cons f x xs)

module _ {A : Type 0} (f g : A → ℕ) where
  -- where no seat has any of g, and who has none of g has none of f, no seat has any of f
  pub sum-none : (l : List A) → ((i : ℕ) (v : A) → get_elem? l i ≡ some v → g v ≡ 0 → f v ≡ 0) → sum_by g l ≡ 0 → sum_by f l ≡ 0
  sum-none [] h e = refl
  sum-none (x ∷ xs) h e =
      let g_is = sum_by-cons g x xs in let a = h 0 x refl (omega arith) in
      let r = sum-none xs (λ i. h (suc i)) (omega arith) in omega (arith, sum_by-cons f x xs)

  -- who has all of g has all of f, where who has none of g has none of f
  pub sum-one : (l : List A) (i : ℕ) (v : A) → get_elem? l i ≡ some v → sum_by g l ≡ g v → ((j : ℕ) (w : A) → get_elem? l j ≡ some w → g w ≡ 0 → f w ≡ 0) → sum_by f l ≡ f v
  sum-one [] i v e all h = absurd (some-ne-none v (sym e))
  sum-one (x ∷ xs) zero v e all h =
      let is : x ≡ v = some-injective x v e in let same : g x ≡ g v = ap g is in let as_f : f x ≡ f v = ap f is in
      let g_is = sum_by-cons g x xs in let r = sum-none xs (λ j. h (suc j)) (omega arith) in omega (arith, sum_by-cons f x xs)
  sum-one (x ∷ xs) (suc i) v e all h =
      let g_is = sum_by-cons g x xs in let least = sum-part g xs i v e in let none_here = h 0 x refl (omega arith) in
      let r = sum-one xs i v e (omega arith) (λ j. h (suc j)) in omega (arith, sum_by-cons f x xs)

-- Places in lists that stand behind each other, and facts of each item.
use Rattle.std.proofs.Common.{◌≡◌, ℕ, zero, suc, ◌+◌, ◌<◌, Bool, List, [], ◌∷◌, ◌++◌, length, map, Option, None, Some, IsTrue, slice_get, refl, ◌∙◌, ap, subst, arith}
use Rattle.std.specs.List.{AllByRecursion}
use Rattle.program.specs.Whole.{AreDistinct}

-- where an item of two lists stands
pub data Place {A : Type 0} (xs ys : List A) (i : ℕ) (a : A) : Type 0 where
  in_front : i < length xs → slice_get xs i ≡ Some a → Place xs ys i a
  behind : (k : ℕ) → i ≡ length xs + k → slice_get ys k ≡ Some a → Place xs ys i a

pub place_in : {A : Type 0} (xs ys : List A) (i : ℕ) (a : A) → slice_get (xs ++ ys) i ≡ Some a → Place xs ys i a
place_in [] ys i a e = behind i (omega arith) e
place_in (x ∷ xs) ys zero a e = in_front (omega arith) e
place_in (x ∷ xs) ys (suc i) a e = elim (place_in xs ys i a e) [
  | in_front lt f ↦ in_front (omega arith) f
  | behind k is f ↦ behind k (omega arith) f
]

-- a fact of each place of two lists
pub each_both : {A : Type 0} (P : ℕ → Option A → Type 0) (xs ys : List A) → ((i : ℕ) → P i (slice_get xs i)) → ((k : ℕ) → P (length xs + k) (slice_get ys k)) → (i : ℕ) → P i (slice_get (xs ++ ys) i)
each_both P [] ys h k i = let e : 0 + i ≡ i = omega arith in subst (λ n. P n (slice_get ys i)) e (k i)
each_both P (x ∷ xs) ys h k zero = h zero
each_both P (x ∷ xs) ys h k (suc i) =
    each_both (λ j o. P (suc j) o) xs ys (λ j. h (suc j)) (λ j. let e : suc (length xs) + j ≡ suc (length xs + j) = omega arith in subst (λ n. P n (slice_get ys j)) e (k j)) i

-- what is behind the first list
pub get_behind : {A : Type 0} (xs ys : List A) (k : ℕ) → slice_get (xs ++ ys) (length xs + k) ≡ slice_get ys k
get_behind [] ys k = let e : 0 + k ≡ k = omega arith in ap (slice_get ys) e
get_behind (x ∷ xs) ys k = let e : suc (length xs) + k ≡ suc (length xs + k) = omega arith in ap (slice_get (x ∷ (xs ++ ys))) e ∙ get_behind xs ys k

pub get_front : {A : Type 0} (xs ys : List A) (i : ℕ) (a : A) → slice_get xs i ≡ Some a → slice_get (xs ++ ys) i ≡ Some a
get_front [] ys i a e = absurd cc
get_front (x ∷ xs) ys zero a e = e
get_front (x ∷ xs) ys (suc i) a e = get_front xs ys i a e

pub get_map : {A B : Type 0} (f : A → B) (xs : List A) (i : ℕ) (a : A) → slice_get xs i ≡ Some a → slice_get (map f xs) i ≡ Some (f a)
get_map f [] i a e = absurd cc
get_map f (x ∷ xs) zero a e = let is : x ≡ a = cc in ap (λ y. Some (f y)) is
get_map f (x ∷ xs) (suc i) a e = get_map f xs i a e

-- an item of a mapped list comes of an item
pub came_from : {A B : Type 0} (f : A → B) (xs : List A) (i : ℕ) (b : B) → slice_get (map f xs) i ≡ Some b → (a : A) × (slice_get xs i ≡ Some a) × (f a ≡ b)
came_from f [] i b e = absurd cc
came_from f (x ∷ xs) zero b e = let is : f x ≡ b = cc in (x, refl, is)
came_from f (x ∷ xs) (suc i) b e = came_from f xs i b e

-- Facts of each item.

pub all_append : {A : Type 0} (P : A → Type 0) (xs ys : List A) → AllByRecursion P xs → AllByRecursion P ys → AllByRecursion P (xs ++ ys)
all_append P [] ys h k = k
all_append P (x ∷ xs) ys h k = (h.0, all_append P xs ys h.1 k)

pub all_map : {A B : Type 0} (f : A → B) (P : A → Type 0) (Q : B → Type 0) → ((a : A) → P a → Q (f a)) → (xs : List A) → AllByRecursion P xs → AllByRecursion Q (map f xs)
all_map f P Q step [] h = tt
all_map f P Q step (x ∷ xs) h = (step x h.0, all_map f P Q step xs h.1)

pub all_known : {A : Type 0} (P Q : A → Type 0) → ((a : A) → P a → Q a) → (xs : List A) → AllByRecursion P xs → AllByRecursion Q xs
all_known P Q step [] h = tt
all_known P Q step (x ∷ xs) h = (step x h.0, all_known P Q step xs h.1)

pub all_at : {A : Type 0} (P : A → Type 0) (xs : List A) → AllByRecursion P xs → (i : ℕ) (a : A) → slice_get xs i ≡ Some a → P a
all_at P [] h i a e = absurd cc
all_at P (x ∷ xs) h zero a e = let is : x ≡ a = cc in subst P is h.0
all_at P (x ∷ xs) h (suc i) a e = all_at P xs h.1 i a e

-- from each item to each place
pub each_place : {A : Type 0} (P : A → Type 0) (Q : Option A → Type 0) → Q None → ((a : A) → P a → Q (Some a)) → (xs : List A) → AllByRecursion P xs → (i : ℕ) → Q (slice_get xs i)
each_place P Q none some [] h i = none
each_place P Q none some (x ∷ xs) h zero = some x h.0
each_place P Q none some (x ∷ xs) h (suc i) = each_place P Q none some xs h.1 i

-- Two lists of items that differ, of which none of the first is the same as one of the second.
pub differ_both : {A : Type 0} (same : A → A → Bool) → ((a b : A) → IsTrue (same a b) → IsTrue (same b a)) → (xs ys : List A) → AreDistinct same xs → AreDistinct same ys
    → ((i j : ℕ) (a b : A) → slice_get xs i ≡ Some a → slice_get ys j ≡ Some b → IsTrue (same a b) → ⊥) → AreDistinct same (xs ++ ys)
differ_both same swap xs ys front back apart i j a b e f s = elim (place_in xs ys i a e) [
  | in_front lt at ↦ elim (place_in xs ys j b f) [
    | in_front lt_j at_j ↦ front i j a b at at_j s
    | behind k is at_j ↦ absurd (apart i k a b at at_j s)
  ]
  | behind k is at ↦ elim (place_in xs ys j b f) [
    | in_front lt_j at_j ↦ absurd (apart j k b a at_j at (swap a b s))
    | behind l is_l at_j ↦ let same_place : k ≡ l = back k l a b at at_j s in omega arith
  ]
]

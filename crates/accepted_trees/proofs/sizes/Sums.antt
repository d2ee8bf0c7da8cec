-- Sums over lists.
use Rattle.std.proofs.Common.{ℕ, ◌+◌, ◌≤◌, ◌≡◌, List, [], ◌∷◌, ◌++◌, map, refl, ap, arith}
use Rattle.std.specs.Prelude.{sum_by, flat_map}
use Rattle.std.proofs.lemmas.List.Sums.{sum_by-cons}
use Rattle.std.proofs.lemmas.List.Concat.{flat_map-cons}
use Rattle.text_trees.specs.Nodes.{all_nodes}

pub summed : {A : Type 0} (f : A → ℕ) (xs : List A) → sum_by f xs ≡ all_nodes f xs
summed f [] = refl
summed f (x ∷ xs) = omega (arith, sum_by-cons f x xs, summed f xs)

pub sum_of_map : {A B : Type 0} (f : B → ℕ) (g : A → B) (xs : List A) → all_nodes f (map g xs) ≡ all_nodes (λ x. f (g x)) xs
sum_of_map f g [] = refl
sum_of_map f g (x ∷ xs) = omega (arith, sum_of_map f g xs)

pub sum_of_both : {A : Type 0} (f : A → ℕ) (xs ys : List A) → all_nodes f (xs ++ ys) ≡ all_nodes f xs + all_nodes f ys
sum_of_both f [] ys = omega arith
sum_of_both f (x ∷ xs) ys = omega (arith, sum_of_both f xs ys)

-- Each item's list has no greater sum than the item.
pub sum_of_each : {A B : Type 0} (f : B → ℕ) (g : A → List B) (h : A → ℕ) → ((x : A) → all_nodes f (g x) ≤ h x) → (xs : List A) → all_nodes f (flat_map g xs) ≤ all_nodes h xs
sum_of_each f g h each [] = omega arith
sum_of_each f g h each (x ∷ xs) =
    let split = ap (all_nodes f) (flat_map-cons g x xs) in
    omega (arith, split, sum_of_both f (g x) (flat_map g xs), each x, sum_of_each f g h each xs)

pub sum_no_more : {A : Type 0} (f g : A → ℕ) → ((x : A) → f x ≤ g x) → (xs : List A) → all_nodes f xs ≤ all_nodes g xs
sum_no_more f g each [] = omega arith
sum_no_more f g each (x ∷ xs) = omega (arith, each x, sum_no_more f g each xs)

pub sum_same : {A : Type 0} (f g : A → ℕ) → ((x : A) → f x ≡ g x) → (xs : List A) → all_nodes f xs ≡ all_nodes g xs
sum_same f g each [] = refl
sum_same f g each (x ∷ xs) = omega (arith, each x, sum_same f g each xs)

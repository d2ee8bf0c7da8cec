-- What each item of a list keeps.
use Rattle.std.proofs.Common.{◌≡◌, ℕ, zero, suc, List, [], ◌∷◌, ◌++◌, filter_map, flat_map, refl, subst, slice_get}
use Rattle.std.specs.Prelude.{Option, Some, None}
use Rattle.std.specs.List.{cons_option}
use Rattle.text_trees.specs.Written.{Each}

pub each_get : {A : Type 0} (P : A → Type 0) (xs : List A) → Each P xs → (i : ℕ) (x : A) → slice_get xs i ≡ Some x → P x
each_get P [] h i x e = absurd cc
each_get P (y ∷ more) (a, h) zero x e = let same : y ≡ x = cc in subst P same a
each_get P (y ∷ more) (a, h) (suc i) x e = each_get P more h i x e

kept_one : {B : Type 0} (Q : B → Type 0) (o : Option B) (rest : List B) → ((y : B) → o ≡ Some y → Q y) → Each Q rest → Each Q (cons_option o rest)
kept_one Q None rest h e = e
kept_one Q (Some y) rest h e = (h y refl, e)

pub kept_each : {A B : Type 0} (P : A → Type 0) (Q : B → Type 0) (f : A → Option B) (xs : List A) → ((x : A) (y : B) → f x ≡ Some y → P x → Q y) → Each P xs → Each Q (filter_map f xs)
kept_each P Q f [] h e = tt
kept_each P Q f (x ∷ more) h (a, e) = kept_one Q (f x) (filter_map f more) (λ y is. h x y is a) (kept_each P Q f more h e)

pub each_map : {A : Type 0} (P Q : A → Type 0) (xs : List A) → ((x : A) → P x → Q x) → Each P xs → Each Q xs
each_map P Q [] h e = tt
each_map P Q (x ∷ more) h (a, e) = (h x a, each_map P Q more h e)

pub each_two : {A : Type 0} (P Q : A → Type 0) (xs : List A) → Each P xs → Each Q xs → Each (λ x. P x × Q x) xs
each_two P Q [] h k = tt
each_two P Q (x ∷ more) (a, h) (b, k) = ((a, b), each_two P Q more h k)

pub each_append : {A : Type 0} (P : A → Type 0) (xs ys : List A) → Each P (xs ++ ys) → Each P xs × Each P ys
each_append P [] ys h = (tt, h)
each_append P (x ∷ more) ys (a, h) = ((a, (each_append P more ys h).0), (each_append P more ys h).1)

pub each_flat : {A B : Type 0} (P : B → Type 0) (f : A → List B) (xs : List A) → Each P (flat_map f xs) → Each (λ x. Each P (f x)) xs
each_flat P f [] h = tt
each_flat P f (x ∷ more) h = ((each_append P (f x) (flat_map f more) h).0, each_flat P f more (each_append P (f x) (flat_map f more) h).1)

pub each_from : {A : Type 0} (P : A → Type 0) (xs : List A) → ((i : ℕ) (x : A) → slice_get xs i ≡ Some x → P x) → Each P xs
each_from P [] h = tt
each_from P (x ∷ more) h = (h 0 x refl, each_from P more (λ i y e. h (suc i) y e))

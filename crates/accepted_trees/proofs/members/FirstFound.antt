-- The first item of a list that passes a test.
use Rattle.std.proofs.Common.{◌≡◌, ℕ, suc, ◌⊎◌, inl, inr, Bool, true, false, cond, List, [], ◌∷◌, ◌++◌, map, Option, None, Some, slice_get, option_map, if◌then◌else◌, refl, ◌∙◌, ap}
use Rattle.std.specs.Prelude.{flat_map, find}
use Rattle.std.specs.Option.{option_and_then}
use Rattle.dart_meaning.specs.Classes.{first_some}
use Rattle.dart_meaning.specs.Agree.{BothOrNone}
use Rattle.accepted_trees.proofs.classes.Lists.{In, spot}

abbrev pub or_found : {A : Type 0} → Option A → Option A → Option A
or_found None o = o
or_found (Some a) o = Some a

pub find_both : {A : Type 0} (q : A → Bool) (xs ys : List A) → find q (xs ++ ys) ≡ or_found (find q xs) (find q ys)
find_both q [] ys = refl
find_both q (x ∷ xs) ys = elim (q x) as (λ b. cond b (Some x) (find q (xs ++ ys)) ≡ or_found (cond b (Some x) (find q xs)) (find q ys)) [
  | true ↦ refl
  | false ↦ find_both q xs ys
]

pub find_none : {A : Type 0} (q : A → Bool) (xs : List A) → ((a : A) → In a xs → q a ≡ false) → find q xs ≡ None
find_none q [] h = refl
find_none q (x ∷ xs) h = ap (λ b. cond b (Some x) (find q xs)) (h x (inl refl)) ∙ find_none q xs (λ a m. h a (inr m))

pub find_same : {A : Type 0} (q r : A → Bool) (xs : List A) → ((a : A) → In a xs → q a ≡ r a) → find q xs ≡ find r xs
find_same q r [] h = refl
find_same q r (x ∷ xs) h = ap (λ b. cond b (Some x) (find q xs)) (h x (inl refl)) ∙ ap (λ o. cond (r x) (Some x) o) (find_same q r xs (λ a m. h a (inr m)))

pub find_spot : {A : Type 0} (q : A → Bool) (xs : List A) → find q xs ≡ option_and_then (slice_get xs) (spot q xs)
find_spot q [] = refl
find_spot q (x ∷ xs) = elim (q x) as (λ b. cond b (Some x) (find q xs) ≡ option_and_then (slice_get (x ∷ xs)) (if b then Some 0 else option_map suc (spot q xs))) [
  | true ↦ refl
  | false ↦ find_spot q xs ∙ shifted x xs (spot q xs)
]
  where
    shifted : {A : Type 0} (x : A) (xs : List A) (o : Option ℕ) → option_and_then (slice_get xs) o ≡ option_and_then (slice_get (x ∷ xs)) (option_map suc o)
    shifted x xs None = refl
    shifted x xs (Some i) = refl

-- One list of several has what is looked for, or none.
none_or : {A B : Type 0} (q : B → Bool) (f : A → List B) (F : Option B) (xs : List A) → ((a : A) → In a xs → (find q (f a) ≡ None) ⊎ (find q (f a) ≡ F)) → (find q (flat_map f xs) ≡ None) ⊎ (find q (flat_map f xs) ≡ F)
none_or q f F [] each = inl refl
none_or q f F (x ∷ xs) each = elim (none_or q f F xs (λ a m. each a (inr m))) [
  | inl n ↦ elim (each x (inl refl)) [
    | inl e ↦ inl (find_both q (f x) (flat_map f xs) ∙ ap (λ o. or_found o (find q (flat_map f xs))) e ∙ n)
    | inr e ↦ inr (find_both q (f x) (flat_map f xs) ∙ ap (λ o. or_found o (find q (flat_map f xs))) e ∙ ap (or_found F) n ∙ alone F)
  ]
  | inr n ↦ elim (each x (inl refl)) [
    | inl e ↦ inr (find_both q (f x) (flat_map f xs) ∙ ap (λ o. or_found o (find q (flat_map f xs))) e ∙ n)
    | inr e ↦ inr (find_both q (f x) (flat_map f xs) ∙ ap (λ o. or_found o (find q (flat_map f xs))) e ∙ ap (or_found F) n ∙ twice F)
  ]
]
  where
    alone : {B : Type 0} (F : Option B) → or_found F None ≡ F
    alone None = refl
    alone (Some b) = refl

    twice : {B : Type 0} (F : Option B) → or_found F F ≡ F
    twice None = refl
    twice (Some b) = refl

pub find_only : {A B : Type 0} (q : B → Bool) (f : A → List B) (c : A) (xs : List A) → ((a : A) → In a xs → (find q (f a) ≡ None) ⊎ (find q (f a) ≡ find q (f c))) → In c xs → find q (flat_map f xs) ≡ find q (f c)
find_only q f c [] each h = absurd h
find_only q f c (x ∷ xs) each h =
    find_both q (f x) (flat_map f xs) ∙ (elim h [
      | inl is ↦ ap (λ y. or_found (find q (f y)) (find q (flat_map f xs))) is ∙ front (find q (f c)) (find q (flat_map f xs)) (none_or q f (find q (f c)) xs (λ a m. each a (inr m)))
      | inr m ↦ ap (λ o. or_found (find q (f x)) o) (find_only q f c xs (λ a k. each a (inr k)) m) ∙ back (find q (f x)) (find q (f c)) (each x (inl refl))
    ])
  where
    front : {B : Type 0} (F r : Option B) → (r ≡ None) ⊎ (r ≡ F) → or_found F r ≡ F
    front (Some b) r h = refl
    front None r h = elim h [ inl e ↦ e | inr e ↦ e ]

    back : {B : Type 0} (o F : Option B) → (o ≡ None) ⊎ (o ≡ F) → or_found o F ≡ F
    back None F h = refl
    back (Some b) F h = elim h [ inl e ↦ absurd cc | inr e ↦ e ]

-- the first of options, and the first of what they stand for
pub first_both : {A B : Type 0} (R : A → B → Type 0) (o : Option A) (more : List (Option A)) (a b : Option B) → BothOrNone R o a → BothOrNone R (first_some more) b → BothOrNone R (first_some (o ∷ more)) (or_found a b)
first_both R None more None b h k = k
first_both R None more (Some y) b h k = absurd h
first_both R (Some x) more None b h k = absurd h
first_both R (Some x) more (Some y) b h k = h

pub map_flat : {A B C : Type 0} (g : B → C) (f : A → List B) (h : A → List C) (xs : List A) → ((a : A) → In a xs → map g (f a) ≡ h a) → map g (flat_map f xs) ≡ flat_map h xs
map_flat g f h [] same = refl
map_flat g f h (x ∷ xs) same = appended g (f x) (flat_map f xs) ∙ ap (λ ys. ys ++ map g (flat_map f xs)) (same x (inl refl)) ∙ ap (λ ys. h x ++ ys) (map_flat g f h xs (λ a m. same a (inr m)))
  where
    appended : {B C : Type 0} (g : B → C) (xs ys : List B) → map g (xs ++ ys) ≡ map g xs ++ map g ys
    appended g [] ys = refl
    appended g (x ∷ xs) ys = ap (λ zs. g x ∷ zs) (appended g xs ys)

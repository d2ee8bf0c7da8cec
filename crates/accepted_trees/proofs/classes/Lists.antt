-- What is in a list, lists with no item twice, and places in them.
use Rattle.std.proofs.Common.{◌≡◌, ℕ, zero, suc, ◌+◌, ◌≤◌, ◌⊎◌, inl, inr, Bool, true, false, ◌||◌, cond, List, [], ◌∷◌, ◌++◌, length, map, Option, None, Some, slice_get, position, bytes_eq, option_map, refl, sym, ◌∙◌, ap, subst, arith, if◌then◌else◌, add-zero}
use Rattle.std.specs.Prelude.{flat_map, filter_map}
use Rattle.std.specs.List.{position_from, list_any, cons_option}
use Rattle.std.proofs.lemmas.Iterator.Adapters.{position_from-zero}
use Rattle.std.proofs.lemmas.Slice.Eq.{bytes_eq-Decides}

abbrev pub In : {A : Type 0} → A → List A → Type 0
In a [] = ⊥
In a (x ∷ xs) = (x ≡ a) ⊎ In a xs

abbrev pub NoTwice : {A : Type 0} → List A → Type 0
NoTwice [] = Unit {0}
NoTwice (x ∷ xs) = (In x xs → ⊥) × NoTwice xs

-- ---- texts

pub same_text : (a b : List ℕ) → bytes_eq a b ≡ true → a ≡ b
same_text a b e = (bytes_eq-Decides a b).0 e

pub text_self : (a : List ℕ) → bytes_eq a a ≡ true
text_self a = (bytes_eq-Decides a a).1 refl

pub other_text : (a b : List ℕ) → (a ≡ b → ⊥) → bytes_eq a b ≡ false
other_text a b n = elim (bytes_eq a b) as (λ t. bytes_eq a b ≡ t → t ≡ false) [
  | true ↦ λ e. absurd (n (same_text a b e))
  | false ↦ λ e. refl
] refl

pub texts_differ : (a b : List ℕ) → bytes_eq a b ≡ false → a ≡ b → ⊥
texts_differ a b e is = let one : true ≡ false = sym ((bytes_eq-Decides a b).1 is) ∙ e in absurd cc

pub same_or_other : (a b : List ℕ) → (a ≡ b) ⊎ (a ≡ b → ⊥)
same_or_other a b = elim (bytes_eq a b) as (λ t. bytes_eq a b ≡ t → (a ≡ b) ⊎ (a ≡ b → ⊥)) [
  | true ↦ λ e. inl (same_text a b e)
  | false ↦ λ e. inr (texts_differ a b e)
] refl

pub text_swap : (a b : List ℕ) → bytes_eq a b ≡ bytes_eq b a
text_swap a b = elim (same_or_other a b) [
  | inl e ↦ ap (λ x. bytes_eq x b) e ∙ ap (λ x. bytes_eq b x) (sym e)
  | inr n ↦ other_text a b n ∙ sym (other_text b a (λ e. n (sym e)))
]

-- ---- what is in lists

pub in_front : {A : Type 0} (a : A) (xs ys : List A) → In a xs → In a (xs ++ ys)
in_front a [] ys h = absurd h
in_front a (x ∷ xs) ys (inl e) = inl e
in_front a (x ∷ xs) ys (inr m) = inr (in_front a xs ys m)

pub in_back : {A : Type 0} (a : A) (xs ys : List A) → In a ys → In a (xs ++ ys)
in_back a [] ys h = h
in_back a (x ∷ xs) ys h = inr (in_back a xs ys h)

pub in_either : {A : Type 0} (a : A) (xs ys : List A) → In a (xs ++ ys) → In a xs ⊎ In a ys
in_either a [] ys h = inr h
in_either a (x ∷ xs) ys (inl e) = inl (inl e)
in_either a (x ∷ xs) ys (inr m) = elim (in_either a xs ys m) [ inl l ↦ inl (inr l) | inr r ↦ inr r ]

pub in_map : {A B : Type 0} (f : A → B) (a : A) (xs : List A) → In a xs → In (f a) (map f xs)
in_map f a [] h = absurd h
in_map f a (x ∷ xs) (inl e) = inl (ap f e)
in_map f a (x ∷ xs) (inr m) = inr (in_map f a xs m)

pub from_map : {A B : Type 0} (f : A → B) (b : B) (xs : List A) → In b (map f xs) → (a : A) × In a xs × (f a ≡ b)
from_map f b [] h = absurd h
from_map f b (x ∷ xs) (inl e) = (x, inl refl, e)
from_map f b (x ∷ xs) (inr m) = let r = from_map f b xs m in (r.0, inr r.1, r.2)

pub in_flat : {A B : Type 0} (f : A → List B) (b : B) (a : A) (xs : List A) → In a xs → In b (f a) → In b (flat_map f xs)
in_flat f b a [] h k = absurd h
in_flat f b a (x ∷ xs) (inl e) k = in_front b (f x) (flat_map f xs) (subst (λ y. In b (f y)) (sym e) k)
in_flat f b a (x ∷ xs) (inr m) k = in_back b (f x) (flat_map f xs) (in_flat f b a xs m k)

pub from_flat : {A B : Type 0} (f : A → List B) (b : B) (xs : List A) → In b (flat_map f xs) → (a : A) × In a xs × In b (f a)
from_flat f b [] h = absurd h
from_flat f b (x ∷ xs) h = elim (in_either b (f x) (flat_map f xs) h) [
  | inl l ↦ (x, inl refl, l)
  | inr r ↦ let s = from_flat f b xs r in (s.0, inr s.1, s.2)
]

pub in_kept : {A B : Type 0} (f : A → Option B) (b : B) (a : A) (xs : List A) → In a xs → f a ≡ Some b → In b (filter_map f xs)
in_kept f b a [] h k = absurd h
in_kept f b a (x ∷ xs) (inl e) k = subst (λ o. In b (cons_option o (filter_map f xs))) (sym (ap f e ∙ k)) (inl refl)
in_kept f b a (x ∷ xs) (inr m) k = elim (f x) as (λ o. In b (cons_option o (filter_map f xs))) [
  | None ↦ in_kept f b a xs m k
  | Some y ↦ inr (in_kept f b a xs m k)
]

pub from_kept : {A B : Type 0} (f : A → Option B) (b : B) (xs : List A) → In b (filter_map f xs) → (a : A) × In a xs × (f a ≡ Some b)
from_kept {A = A} f b [] h = absurd h
from_kept {A = A} f b (x ∷ xs) h = elim (f x) as (λ o. f x ≡ o → In b (cons_option o (filter_map f xs)) → (a : A) × In a (x ∷ xs) × (f a ≡ Some b)) [
  | None ↦ λ e m. let r = from_kept f b xs m in (r.0, inr r.1, r.2)
  | Some y ↦ λ e m. elim m [
    | inl is ↦ (x, inl refl, e ∙ ap Some is)
    | inr n ↦ let r = from_kept f b xs n in (r.0, inr r.1, r.2)
  ]
] refl h

-- ---- no more items than a list has that holds them all

abbrev without : {A : Type 0} (a : A) (xs : List A) → In a xs → List A
without a [] h = absurd h
without a (x ∷ xs) (inl e) = xs
without a (x ∷ xs) (inr m) = x ∷ without a xs m

length_without : {A : Type 0} (a : A) (xs : List A) (m : In a xs) → length xs ≡ suc (length (without a xs m))
length_without a [] h = absurd h
length_without a (x ∷ xs) (inl e) = refl
length_without a (x ∷ xs) (inr m) = ap suc (length_without a xs m)

in_without : {A : Type 0} (b a : A) (xs : List A) (m : In a xs) → In b xs → (a ≡ b → ⊥) → In b (without a xs m)
in_without b a [] m h n = absurd h
in_without b a (x ∷ xs) (inl e) (inl is) n = absurd (n (sym e ∙ is))
in_without b a (x ∷ xs) (inl e) (inr h) n = h
in_without b a (x ∷ xs) (inr m) (inl is) n = inl is
in_without b a (x ∷ xs) (inr m) (inr h) n = inr (in_without b a xs m h n)

pub no_more : {A : Type 0} (xs ys : List A) → NoTwice xs → ((a : A) → In a xs → In a ys) → length xs ≤ length ys
no_more [] ys n sub = omega arith
no_more (x ∷ xs) ys n sub =
    let m = sub x (inl refl) in
    let rest = no_more xs (without x ys m) n.1 (λ a h. in_without a x ys m (sub a (inr h)) (λ e. n.0 (subst (λ z. In z xs) (sym e) h))) in
    let len = length_without x ys m in
    omega arith

-- ---- lists with no item twice, put together

pub twice_both : {A : Type 0} (xs ys : List A) → NoTwice xs → NoTwice ys → ((a : A) → In a xs → In a ys → ⊥) → NoTwice (xs ++ ys)
twice_both [] ys n m apart = m
twice_both (x ∷ xs) ys n m apart = (
  λ h. elim (in_either x xs ys h) [ inl l ↦ n.0 l | inr r ↦ apart x (inl refl) r ],
  twice_both xs ys n.1 m (λ a h. apart a (inr h)),
)

pub twice_flat : {A B : Type 0} (f : A → List B) (xs : List A) → NoTwice xs → ((a : A) → In a xs → NoTwice (f a)) → ((a c : A) (b : B) → In a xs → In c xs → In b (f a) → In b (f c) → a ≡ c) → NoTwice (flat_map f xs)
twice_flat f [] n each apart = tt
twice_flat f (x ∷ xs) n each apart =
    twice_both (f x) (flat_map f xs) (each x (inl refl)) (twice_flat f xs n.1 (λ a m. each a (inr m)) (λ a c b m k. apart a c b (inr m) (inr k)))
    (λ b h k. let r = from_flat f b xs k in n.0 (subst (λ z. In z xs) (sym (apart x r.0 b (inl refl) (inr r.1) h r.2)) r.1))

pub twice_kept : {A B C : Type 0} (f : A → Option B) (g : A → C) (k : B → C) (xs : List A) → NoTwice (map g xs) → ((a : A) (b : B) → f a ≡ Some b → g a ≡ k b) → NoTwice (map k (filter_map f xs))
twice_kept f g k [] n same = tt
twice_kept f g k (x ∷ xs) n same = elim (f x) as (λ o. f x ≡ o → NoTwice (map k (cons_option o (filter_map f xs)))) [
  | None ↦ λ e. twice_kept f g k xs n.1 same
  | Some y ↦ λ e. (
    λ h. let r = from_map k (k y) (filter_map f xs) h in let s = from_kept f r.0 xs r.1 in n.0 (subst (λ z. In z (map g xs)) (same s.0 r.0 s.2 ∙ r.2 ∙ sym (same x y e)) (in_map g s.0 xs s.1)),
    twice_kept f g k xs n.1 same,
  )
] refl

-- ---- the first place that passes a test

abbrev pub spot : {A : Type 0} → (A → Bool) → List A → Option ℕ
spot q [] = None
spot q (x ∷ xs) = if q x then Some 0 else option_map suc (spot q xs)

pub spot_from : {A : Type 0} (q : A → Bool) (n : ℕ) (xs : List A) → position_from q n xs ≡ option_map (λ i. n + i) (spot q xs)
spot_from q n [] = refl
spot_from q n (x ∷ xs) = elim (q x) as (λ b. cond b (Some n) (position_from q (n + 1) xs) ≡ option_map (λ i. n + i) (if b then Some 0 else option_map suc (spot q xs))) [
  | true ↦ ap Some (sym (add-zero n))
  | false ↦ spot_from q (n + 1) xs ∙ shifted (spot q xs)
]
  where
    one : (i : ℕ) → n + 1 + i ≡ n + suc i
    one i = omega arith

    shifted : (o : Option ℕ) → option_map (λ i. n + 1 + i) o ≡ option_map (λ i. n + i) (option_map suc o)
    shifted None = refl
    shifted (Some i) = ap Some (one i)

plus_none : (o : Option ℕ) → option_map (λ i. 0 + i) o ≡ o
plus_none None = refl
plus_none (Some i) = let e : 0 + i ≡ i = omega arith in ap Some e

pub spot_zero : {A : Type 0} (q : A → Bool) (xs : List A) → position_from q 0 xs ≡ spot q xs
spot_zero q xs = spot_from q 0 xs ∙ plus_none (spot q xs)

pub position_spot : {A : Type 0} (q : A → Bool) (xs : List A) → position q xs ≡ spot q xs
position_spot q xs = position_from-zero q xs ∙ spot_zero q xs

pub get_in : {A : Type 0} (xs : List A) (i : ℕ) (a : A) → slice_get xs i ≡ Some a → In a xs
get_in [] i a e = absurd cc
get_in (x ∷ xs) zero a e = let is : x ≡ a = cc in inl is
get_in (x ∷ xs) (suc i) a e = inr (get_in xs i a e)

pub in_get : {A : Type 0} (xs : List A) (a : A) → In a xs → (i : ℕ) × (slice_get xs i ≡ Some a)
in_get [] a h = absurd h
in_get (x ∷ xs) a (inl e) = (zero, ap Some e)
in_get (x ∷ xs) a (inr m) = let r = in_get xs a m in (suc r.0, r.1)

pub spot_there : {A : Type 0} (q : A → Bool) (a : A) (xs : List A) → In a xs → q a ≡ true → (i : ℕ) × (spot q xs ≡ Some i)
spot_there q a [] h e = absurd h
spot_there q a (x ∷ xs) h e = elim (q x) as (λ b. q x ≡ b → (i : ℕ) × ((if b then Some 0 else option_map suc (spot q xs)) ≡ Some i)) [
  | true ↦ λ t. (0, refl)
  | false ↦ λ f. elim h [
    | inl is ↦ let no_way : true ≡ false = sym e ∙ sym (ap q is) ∙ f in absurd cc
    | inr m ↦ let r = spot_there q a xs m e in (suc r.0, ap (option_map suc) r.1)
  ]
] refl

pub spot_is : {A : Type 0} (q : A → Bool) (xs : List A) (i : ℕ) → spot q xs ≡ Some i → (a : A) × (slice_get xs i ≡ Some a) × (q a ≡ true)
spot_is {A = A} q [] i e = absurd cc
spot_is {A = A} q (x ∷ xs) i e = elim (q x) as (λ b. q x ≡ b → (if b then Some 0 else option_map suc (spot q xs)) ≡ Some i → (a : A) × (slice_get (x ∷ xs) i ≡ Some a) × (q a ≡ true)) [
  | true ↦ λ t is. let zero_is : 0 ≡ i = cc in (x, ap (slice_get (x ∷ xs)) (sym zero_is), t)
  | false ↦ λ f is. (elim (spot q xs) as (λ o. spot q xs ≡ o → option_map suc o ≡ Some i → (a : A) × (slice_get (x ∷ xs) i ≡ Some a) × (q a ≡ true)) [
    | None ↦ λ at same. absurd cc
    | Some j ↦ λ at same. let next : suc j ≡ i = cc in let r = spot_is q xs j at in (r.0, ap (slice_get (x ∷ xs)) (sym next) ∙ r.1, r.2)
  ]) refl is
] refl e

pub spot_none : {A : Type 0} (q : A → Bool) (xs : List A) → ((a : A) → In a xs → q a ≡ false) → spot q xs ≡ None
spot_none q [] h = refl
spot_none q (x ∷ xs) h = ap (λ b. if b then Some 0 else option_map suc (spot q xs)) (h x (inl refl)) ∙ ap (option_map suc) (spot_none q xs (λ a m. h a (inr m)))

pub spot_same : {A : Type 0} (q r : A → Bool) (xs : List A) → ((a : A) → In a xs → q a ≡ r a) → spot q xs ≡ spot r xs
spot_same q r [] h = refl
spot_same q r (x ∷ xs) h =
    ap (λ b. if b then Some 0 else option_map suc (spot q xs)) (h x (inl refl)) ∙ ap (λ o. if r x then Some 0 else option_map suc o) (spot_same q r xs (λ a m. h a (inr m)))

pub spot_map : {A B : Type 0} (q : B → Bool) (f : A → B) (xs : List A) → spot q (map f xs) ≡ spot (λ a. q (f a)) xs
spot_map q f [] = refl
spot_map q f (x ∷ xs) = ap (λ o. if q (f x) then Some 0 else option_map suc o) (spot_map q f xs)

-- the place of a text in a list that has none twice
pub spot_at : (xs : List (List ℕ)) (i : ℕ) (a : List ℕ) → NoTwice xs → slice_get xs i ≡ Some a → spot (bytes_eq a) xs ≡ Some i
spot_at [] i a n e = absurd cc
spot_at (x ∷ xs) zero a n e = let is : x ≡ a = cc in ap (λ b. if b then Some 0 else option_map suc (spot (bytes_eq a) xs)) (ap (bytes_eq a) is ∙ text_self a)
spot_at (x ∷ xs) (suc i) a n e =
    let far = get_in xs i a e in
    let other : bytes_eq a x ≡ false = other_text a x (λ is. n.0 (subst (λ z. In z xs) is far)) in
    ap (λ b. if b then Some 0 else option_map suc (spot (bytes_eq a) xs)) other ∙ ap (option_map suc) (spot_at xs i a n.1 e)

pub any_in : (xs : List (List ℕ)) (a : List ℕ) → In a xs → list_any (bytes_eq a) xs ≡ true
any_in [] a h = absurd h
any_in (x ∷ xs) a (inl e) = let here : bytes_eq a x ≡ true = ap (bytes_eq a) e ∙ text_self a in ap (λ b. b || list_any (bytes_eq a) xs) here
any_in (x ∷ xs) a (inr m) = elim (bytes_eq a x) as (λ b. (b || list_any (bytes_eq a) xs) ≡ true) [ true ↦ refl | false ↦ any_in xs a m ]

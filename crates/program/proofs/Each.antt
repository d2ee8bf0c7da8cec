-- From a test of a list, place by place, to a fact of each place.
use Rattle.std.proofs.Common.{◌≡◌, ℕ, zero, suc, ◌<◌, Bool, true, false, ◌&&◌, not, nat_lt, List, [], ◌∷◌, Option, None, Some, IsTrue, slice_get, take, refl, sym, ap, subst, arith}
use Rattle.std.proofs.lemmas.Bool.Decides.{nat_tests}
use Rattle.std.proofs.lemmas.Str.Ascii.{IsAscii-nil, IsAscii-cons}
use Rattle.std.specs.List.{list_any, list_all}
use Rattle.std.specs.Str.{IsAscii}
use Rattle.program.specs.Whole.{AreDistinct}

pub and_both : (a b : Bool) → IsTrue (a && b) → IsTrue a × IsTrue b
and_both true true h = (refl, refl)
and_both true false h = (refl, h)
and_both false b h = absurd (cc)

pub both_and : (a b : Bool) → IsTrue a → IsTrue b → IsTrue (a && b)
both_and true b h k = k
both_and false b h k = absurd (cc)

-- a fact of each item and its place
abbrev pub Each : {A : Type 0} → (ℕ → Option A → Type 0) → List A → Type 0
Each P [] = Unit {0}
Each P (x ∷ xs) = P 0 (Some x) × Each (λ i o. P (suc i) o) xs

pub each_at : {A : Type 0} (P : ℕ → Option A → Type 0) → ((i : ℕ) → P i None) → (xs : List A) → Each P xs → (i : ℕ) → P i (slice_get xs i)
each_at P none [] e i = none i
each_at P none (x ∷ xs) e zero = e.0
each_at P none (x ∷ xs) e (suc i) = each_at (λ k o. P (suc k) o) (λ k. none (suc k)) xs e.1 i

-- a test of each item and its place
abbrev pub tests : {A : Type 0} → (ℕ → A → Bool) → List A → Bool
tests t [] = true
tests t (x ∷ xs) = t 0 x && tests (λ i y. t (suc i) y) xs

pub tested : {A : Type 0} (t : ℕ → A → Bool) (P : ℕ → Option A → Type 0) → ((i : ℕ) → P i None) → ((i : ℕ) (x : A) → IsTrue (t i x) → P i (Some x)) → (xs : List A) → IsTrue (tests t xs) → (i : ℕ) → P i (slice_get xs i)
tested t P none some [] h i = none i
tested t P none some (x ∷ xs) h zero = some 0 x (and_both (t 0 x) (tests (λ i y. t (suc i) y) xs) h).0
tested t P none some (x ∷ xs) h (suc i) = tested (λ k y. t (suc k) y) (λ k o. P (suc k) o) (λ k. none (suc k)) (λ k y. some (suc k) y) xs (and_both (t 0 x) (tests (λ i y. t (suc i) y) xs) h).1 i

-- No item is the same as a later one.
abbrev pub all_differ : {A : Type 0} → (A → A → Bool) → List A → Bool
all_differ same [] = true
all_differ same (x ∷ xs) = not (list_any (same x) xs) && all_differ same xs

any_at : {A : Type 0} (t : A → Bool) (xs : List A) (i : ℕ) (a : A) → slice_get xs i ≡ Some a → IsTrue (t a) → IsTrue (list_any t xs)
any_at t [] i a e h = absurd (cc)
any_at t (x ∷ xs) zero a e h = let same : x ≡ a = cc in grind (arith, nat_tests)
any_at t (x ∷ xs) (suc i) a e h = let more : IsTrue (list_any t xs) = any_at t xs i a e h in grind (arith, nat_tests)

not_any : {A : Type 0} (same : A → A → Bool) (x : A) (xs : List A) (i : ℕ) (a : A) → slice_get xs i ≡ Some a → IsTrue (same x a) → IsTrue (not (list_any (same x) xs)) → ⊥
not_any same x xs i a e h f = let any : IsTrue (list_any (same x) xs) = any_at (same x) xs i a e h in grind (arith, nat_tests)

pub are_distinct : {A : Type 0} (same : A → A → Bool) → ((a b : A) → IsTrue (same a b) → IsTrue (same b a)) → (xs : List A) → IsTrue (all_differ same xs) → AreDistinct same xs
are_distinct same swap [] h i j a b e f s = absurd (cc)
are_distinct same swap (x ∷ xs) h zero zero a b e f s = refl
are_distinct same swap (x ∷ xs) h zero (suc j) a b e f s =
    let here : x ≡ a = cc in
    absurd (not_any same x xs j b f (subst (λ y. IsTrue (same y b)) (sym here) s) (and_both (not (list_any (same x) xs)) (all_differ same xs) h).0)
are_distinct same swap (x ∷ xs) h (suc i) zero a b e f s =
    let here : x ≡ b = cc in
    absurd (not_any same x xs i a e (subst (λ y. IsTrue (same y a)) (sym here) (swap a b s)) (and_both (not (list_any (same x) xs)) (all_differ same xs) h).0)
are_distinct same swap (x ∷ xs) h (suc i) (suc j) a b e f s =
    ap suc (are_distinct same swap xs (and_both (not (list_any (same x) xs)) (all_differ same xs) h).1 i j a b e f s)

-- all bytes are below 128
pub ascii : (bs : List ℕ) → IsTrue (list_all (λ b. nat_lt b 128) bs) → IsAscii bs
ascii [] h = IsAscii-nil
ascii (b ∷ bs) h =
    let both = and_both (nat_lt b 128) (list_all (λ b. nat_lt b 128) bs) h in
    let less : b < 128 = (let test = both.0 in grind (arith, nat_tests)) in
    IsAscii-cons b bs less (ascii bs both.1)

pub slice_get-take : {A : Type 0} (xs : List A) (n i : ℕ) → i < n → slice_get (take n xs) i ≡ slice_get xs i
slice_get-take xs zero i lt = absurd (omega arith)
slice_get-take [] (suc n) i lt = refl
slice_get-take (x ∷ xs) (suc n) zero lt = refl
slice_get-take (x ∷ xs) (suc n) (suc i) lt = slice_get-take xs n i (omega arith)

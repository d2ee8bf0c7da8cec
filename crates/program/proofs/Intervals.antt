-- In preorder, a class and the classes below it are an interval.
use Rattle.std.proofs.Common.{◌≡◌, ℕ, zero, suc, ◌+◌, ◌-◌, ◌<◌, ◌≤◌, ◌⊎◌, inl, inr, Bool, true, false, ◌||◌, ◌&&◌, nat_eq, nat_lt, ◌∷◌, length, Option, None, Some, IsTrue, ◌↔◌, option_and_then, add-zero, refl, sym, ◌∙◌, ap, subst, arith}
use Rattle.std.proofs.lemmas.Bool.Decides.{nat_tests}
use Rattle.std.proofs.lemmas.Bool.{cases_lt}
use Rattle.std.proofs.lemmas.Option.{slice_get_past}
use Rattle.program.specs.Hierarchy.{Parents, parent_in, chain_from, chain, chain_of, above_chain, is_above, follows, IsPreorder, IsLast}
use Rattle.std.specs.List.{list_any}

abbrev pub Above : Parents → ℕ → ℕ → Type 0
Above up a c = IsTrue (is_above up a c)

and_both : (a b : Bool) → IsTrue (a && b) → IsTrue a × IsTrue b
and_both true true h = (refl, refl)
and_both true false h = (refl, h)
and_both false b h = absurd (cc)

or_either : (a b : Bool) → IsTrue (a || b) → IsTrue a ⊎ IsTrue b
or_either true b h = inl refl
or_either false b h = inr h

or_right : (a b : Bool) → IsTrue b → IsTrue (a || b)
or_right true b h = refl
or_right false b h = h

or_left : (a b : Bool) → IsTrue a → IsTrue (a || b)
or_left true b h = refl
or_left false b h = absurd (cc)

same_number : (a b : ℕ) → IsTrue (nat_eq a b) → a ≡ b
same_number a b h = grind (arith, nat_tests)

self_number : (a : ℕ) → IsTrue (nat_eq a a)
self_number a = grind (arith, nat_tests)

less_number : (a b : ℕ) → IsTrue (nat_lt a b) → a < b
less_number a b h = grind (arith, nat_tests)

module _ (up : Parents) (h : IsPreorder up) where
  no_parent_past : (c : ℕ) → length up ≤ c → parent_in up c ≡ None
  no_parent_past c le = ap (λ (o : Option (Option ℕ)). option_and_then (λ p. p) o) (slice_get_past up c le)

  pub within : (c p : ℕ) → parent_in up c ≡ Some p → c < length up
  within c p e = elim (cases_lt c (length up)) [ inl lt ↦ lt | inr le ↦ let none = no_parent_past c le in absurd (cc) ]

  followed : (c p : ℕ) → parent_in up c ≡ Some p → IsTrue (nat_lt p c && is_above up p (c - 1))
  followed c p e = subst (λ (o : Option ℕ). IsTrue (follows up c o)) e (h.each c (within c p e))

  pub before : (c p : ℕ) → parent_in up c ≡ Some p → p < c
  before c p e = less_number p c (and_both (nat_lt p c) (is_above up p (c - 1)) (followed c p e)).0

  pub beside : (c p : ℕ) → parent_in up c ≡ Some p → Above up p (c - 1)
  beside c p e = (and_both (nat_lt p c) (is_above up p (c - 1)) (followed c p e)).1

  same_bound : (n m c : ℕ) → c < n → c < m → chain_from n up (Some c) ≡ chain_from m up (Some c)
  same_bound zero m c p q = absurd (omega arith)
  same_bound (suc n) zero c p q = absurd (omega arith)
  same_bound (suc n) (suc m) c p q =
      ap (λ xs. c ∷ xs)
      ((elim (parent_in up c) as (λ o. parent_in up c ≡ o → chain_from n up o ≡ chain_from m up o) [
        | None ↦ λ e. refl
        | Some b ↦ λ e. let low : b < c = before c b e in same_bound n m b (omega arith) (omega arith)
      ]) refl)

  -- a class, and then those above it
  pub chain_step : (c : ℕ) → chain up c ≡ c ∷ above_chain up c
  unfolding chain
  chain_step c =
      ap (λ xs. c ∷ xs)
      ((elim (parent_in up c) as (λ o. parent_in up c ≡ o → chain_from c up o ≡ chain_of up o) [
        | None ↦ λ e. refl
        | Some p ↦ λ e. let low : p < c = before c p e in same_bound c (suc p) p low (omega arith)
      ]) refl)

  above_unfold : (a c : ℕ) → is_above up a c ≡ (nat_eq a c || list_any (nat_eq a) (chain_from c up (parent_in up c)))
  unfolding chain
  above_unfold a c = refl

  pub above_self : (c : ℕ) → Above up c c
  above_self c = rw above_unfold (or_left (nat_eq c c) _ (self_number c))

  pub above_step : (a c p : ℕ) → parent_in up c ≡ Some p → is_above up a c ≡ (nat_eq a c || is_above up a p)
  unfolding chain
  above_step a c p e =
      let low : p < c = before c p e in
      ap (λ o. nat_eq a c || list_any (nat_eq a) (chain_from c up o)) e
      ∙ ap (λ xs. nat_eq a c || list_any (nat_eq a) xs) (same_bound c (suc p) p low (omega arith))

  pub above_none : (a c : ℕ) → parent_in up c ≡ None → is_above up a c ≡ (nat_eq a c || false)
  unfolding chain
  above_none a c e = ap (λ o. nat_eq a c || list_any (nat_eq a) (chain_from c up o)) e

  -- a is c, or above the class above c
  pub data How (a c : ℕ) : Type 0 where
    here : a ≡ c → How a c
    further : (p : ℕ) → parent_in up c ≡ Some p → Above up a p → How a c

  pub how : (a c : ℕ) → Above up a c → How a c
  how a c t =
      (elim (parent_in up c) as (λ o. parent_in up c ≡ o → How a c) [
        | None ↦ λ e. elim (or_either (nat_eq a c) false (subst IsTrue (above_none a c e) t)) [ inl s ↦ here (same_number a c s) | inr f ↦ absurd (cc) ]
        | Some p ↦ λ e. elim (or_either (nat_eq a c) (is_above up a p) (subst IsTrue (above_step a c p e) t)) [ inl s ↦ here (same_number a c s) | inr f ↦ further p e f ]
      ]) refl

  pub above_up : (a c p : ℕ) → parent_in up c ≡ Some p → Above up a p → Above up a c
  above_up a c p e t = subst IsTrue (sym (above_step a c p e)) (or_right (nat_eq a c) (is_above up a p) t)

  trans_below : (n a b c : ℕ) → c < n → Above up a b → Above up b c → Above up a c
  trans_below zero a b c lt s t = absurd (omega arith)
  trans_below (suc n) a b c lt s t = elim (how b c t) [
    | here e ↦ subst (λ (k : ℕ). Above up a k) e s
    | further p e f ↦ let low : p < c = before c p e in above_up a c p e (trans_below n a b p (omega arith) s f)
  ]

  pub above_trans : (a b c : ℕ) → Above up a b → Above up b c → Above up a c
  above_trans a b c = trans_below (suc c) a b c (omega arith)

  le_below : (n a c : ℕ) → c < n → Above up a c → a ≤ c
  le_below zero a c lt t = absurd (omega arith)
  le_below (suc n) a c lt t = elim (how a c t) [
    | here e ↦ omega arith
    | further p e f ↦ let low : p < c = before c p e in let more : a ≤ p = le_below n a p (omega arith) f in omega arith
  ]

  pub above_le : (a c : ℕ) → Above up a c → a ≤ c
  above_le a c = le_below (suc c) a c (omega arith)

  -- between a class and one below it stand only classes below it
  pub above_down : (a d : ℕ) → Above up a d → a < d → Above up a (d - 1)
  above_down a d t lt = elim (how a d t) [
    | here e ↦ absurd (omega arith)
    | further p e f ↦ above_trans a p (d - 1) f (beside d p e)
  ]

  down_by : (k a c : ℕ) → Above up a (c + k) → a ≤ c → Above up a c
  down_by zero a c t le = rw add-zero at t
  down_by (suc k) a c t le =
      let one : Above up a (c + suc k - 1) = above_down a (c + suc k) t (omega arith) in
      let same : c + suc k - 1 ≡ c + k = omega arith in
      down_by k a c (subst (λ (n : ℕ). Above up a n) same one) le

  -- the classes below one are an interval
  pub interval : (a c d : ℕ) → Above up a d → a ≤ c → c ≤ d → Above up a c
  interval a c d t le lt =
      let same : d ≡ c + (d - c) = omega arith in
      down_by (d - c) a c (subst (λ (n : ℕ). Above up a n) same t) le

  pub last_interval : (b last a : ℕ) → IsLast up b last → a < length up → Above up b a ↔ ((b ≤ a) × (a ≤ last))
  last_interval b last a is lt = (λ t. (above_le b a t, is.greatest a lt t), λ both. interval b a last is.below both.0 both.1)

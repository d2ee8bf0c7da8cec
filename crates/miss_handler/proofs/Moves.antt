-- What a miss keeps.
use Rattle.std.proofs.Common.{◌≡◌, ◌≢◌, ◌⊎◌, ℕ, ◌+◌, ◌<◌, ◌≤◌, true, false, not, ◌==◌, min, max, List, [], ◌∷◌, ◌++◌, length, IsTrue, nat_lt, if◌then◌else◌, Some, None, ◌∙◌, sym, refl, subst, inl, inr, ⊎_elim, arith}
use Rattle.std.specs.Prelude.{All}
use Rattle.std.proofs.lemmas.Bool.{eqb-false, eq-eqb}
use Rattle.std.proofs.lemmas.Bool.Decides.{nat_tests}
use Rattle.std.proofs.lemmas.List.{nil_from_length, length_push}
use Rattle.std.proofs.lemmas.List.Elements.{All-nil, All-cons, All-append}
use Rattle.std.proofs.lemmas.List.Folds.{list_any-append}
use native.Mathlib.Decide.{dec_le}
use Rattle.program.specs.declared.numbered.Target.{Target}
use Rattle.miss_handler.specs.declared.row.Check.{Check}
use Rattle.miss_handler.specs.declared.state.Advance.{Advance}
use Rattle.miss_handler.specs.declared.state.CallState.{CallState}
use Rattle.miss_handler.specs.declared.state.CallState.TheVariants.{Unlinked, Mono, Single, Cached, Mega}
use Rattle.miss_handler.specs.States.{Receivers, class_id, check, has, covers, Explains, OneTarget, LawfulState, IsRight, Differ, MayHave, Lawful, one_target, advance, range_or, next, row_after, CoversAfter, moves, Move, IsCachedOrMega, Later, Apart, Reached}
use Rattle.miss_handler.proofs.Tests.{one_target_yes, one_target_no, has-append}

one_of_min : (P : ℕ → Type 0) (a b : ℕ) → P a → P b → P (min a b)
one_of_min P a b p q = by_order (dec_le a b)
  where
    by_order : Dec (a ≤ b) → P (min a b)
    by_order (yes h) = subst P (omega arith) p
    by_order (no h) = subst P (omega arith) q

one_of_max : (P : ℕ → Type 0) (a b : ℕ) → P a → P b → P (max a b)
one_of_max P a b p q = by_order (dec_le a b)
  where
    by_order : Dec (a ≤ b) → P (max a b)
    by_order (yes h) = subst P (omega arith) q
    by_order (no h) = subst P (omega arith) p

-- some concrete class from lo to hi has another target
abbrev pub Differs : Receivers → ℕ → ℕ → Target → Type 0
Differs r lo hi t = (d : ℕ) × (lo ≤ d) × (d ≤ hi) × IsTrue (r.concrete d) × (r.resolve d ≢ t)

-- what holds of the range where it has one target, and of the other where it has not
pub range_cases : (P : Advance → Type 0) (r : Receivers) (lo hi : ℕ) (t : Target) (other : Advance)
    → (OneTarget r lo hi t → P (advance (Single (class_id lo) (class_id hi) t) None None)) → (Differs r lo hi t → P other) → P (range_or r lo hi t other)
range_cases P r lo hi t other one more =
    elim (one_target r lo hi t) as (λ b. one_target r lo hi t ≡ b → P (if b then advance (Single (class_id lo) (class_id hi) t) None None else other)) [
      | true ↦ λ e. one (one_target_yes r lo hi t e)
      | false ↦ λ e. more (one_target_no r lo hi t e)
    ] refl

pub next_later : (r : Receivers) (s : CallState) (row : List Check) (c : ℕ) → Later s (next r s row c).state
next_later r Unlinked row c = tt
next_later r (Mono a) row c = range_cases (λ z. Later (Mono a) z.state) r (min a.0 c) (max a.0 c) (r.resolve a.0) _ (λ _. (omega arith, omega arith)) (λ _. tt)
next_later r (Single lo hi t) row c = range_cases (λ z. Later (Single lo hi t) z.state) r (min lo.0 c) (max hi.0 c) t _ (λ _. (omega arith, omega arith, refl)) (λ _. tt)
next_later r Cached row c = elim (nat_lt (length row) 4) as (λ b. IsCachedOrMega (if b then Cached else Mega)) [ true ↦ tt | false ↦ tt ]
next_later r Mega row c = refl

-- the class of the call is explained afterwards
pub next_explains : (r : Receivers) (s : CallState) (row : List Check) (c : ℕ) → Explains (next r s row c).state c
next_explains r Unlinked row c = refl
next_explains r (Mono a) row c = range_cases (λ z. Explains z.state c) r (min a.0 c) (max a.0 c) (r.resolve a.0) _ (λ _. (omega arith, omega arith)) (λ _. tt)
next_explains r (Single lo hi t) row c = range_cases (λ z. Explains z.state c) r (min lo.0 c) (max hi.0 c) t _ (λ _. (omega arith, omega arith)) (λ _. tt)
next_explains r Cached row c = elim (nat_lt (length row) 4) as (λ b. Explains (if b then Cached else Mega) c) [ true ↦ tt | false ↦ tt ]
next_explains r Mega row c = tt

-- a class that the range does not cover is outside of it
outside : (lo hi c : ℕ) (row : List Check) (t : Target) → covers (Single (class_id lo) (class_id hi) t) row c ≡ false → (c < lo) ⊎ (hi < c)
outside lo hi c row t un = by_order (dec_le lo c) (dec_le c hi)
  where
    by_order : Dec (lo ≤ c) → Dec (c ≤ hi) → (c < lo) ⊎ (hi < c)
    by_order (yes h) (yes g) = absurd (grind (arith, nat_tests))
    by_order (yes h) (no g) = inr (omega arith)
    by_order (no h) g = inl (omega arith)

wider : (lo hi c : ℕ) → lo < hi → min lo c < max hi c
wider lo hi c h = omega arith

pub next_lawful_state : (r : Receivers) (s : CallState) (row : List Check) (c : ℕ) → LawfulState r s → covers s row c ≡ false → c < r.classes → LawfulState r (next r s row c).state
next_lawful_state r Unlinked row c l un small = small
next_lawful_state r (Mono a) row c l un small =
    let other = eqb-false c a.0 un in
    range_cases (λ z. LawfulState r z.state) r (min a.0 c) (max a.0 c) (r.resolve a.0) _ (λ one. (omega arith, omega arith, one)) (λ _. tt)
next_lawful_state r (Single lo hi t) row c l un small =
    let below = l.0 in let there = l.1 in
    range_cases (λ z. LawfulState r z.state) r (min lo.0 c) (max hi.0 c) t _ (λ one. (omega arith, omega arith, one)) (λ _. tt)
next_lawful_state r Cached row c l un small = elim (nat_lt (length row) 4) as (λ b. LawfulState r (if b then Cached else Mega)) [ true ↦ tt | false ↦ tt ]
next_lawful_state r Mega row c l un small = tt

-- ---- rows

differ_added : (row : List Check) (c : ℕ) (t : Target) → Differ row → has row c ≡ false → Differ (row ++ check c t ∷ [])
differ_added [] c t d un = (refl, tt)
differ_added (k ∷ row) c t d un =
    let rest : has row c ≡ false = grind (arith, nat_tests) in
    let first = d.0 in
    let both = has-append row c k.class.0 t in
    (grind (arith, nat_tests), differ_added row c t d.1 rest)

right_one : (r : Receivers) (c : ℕ) → c < r.classes → All (IsRight r) (check c (r.resolve c) ∷ [])
right_one r c small = All-cons (IsRight r) (check c (r.resolve c)) [] (small, refl) (All-nil (IsRight r))

-- a lawful state stays lawful when its row is extended lawfully
pub lawful_added : (r : Receivers) (row : List Check) (c : ℕ) → Lawful r Cached row → length row < 4 → has row c ≡ false → c < r.classes → Lawful r Cached (row ++ check c (r.resolve c) ∷ [])
lawful_added r row c l room un small = record {
  named = tt;
  right = All-append (IsRight r) row (check c (r.resolve c) ∷ []) l.right (right_one r c small);
  differ = differ_added row c (r.resolve c) l.differ un;
  size = let more = length_push row (check c (r.resolve c)) in omega arith;
}

-- a lawful site with no checks
lawful_bare : (r : Receivers) (s : CallState) → LawfulState r s → MayHave s 0 → Lawful r s []
lawful_bare r s named size = record { named = named; right = All-nil (IsRight r); differ = tt; size = size }

lawful_one : (r : Receivers) (c : ℕ) → c < r.classes → Lawful r Cached (check c (r.resolve c) ∷ [])
lawful_one r c small = record { named = tt; right = right_one r c small; differ = (refl, tt); size = omega arith }

lawful_two : (r : Receivers) (a c : ℕ) → a < r.classes → c < r.classes → (c == a) ≡ false → Lawful r Cached (check a (r.resolve a) ∷ check c (r.resolve c) ∷ [])
lawful_two r a c there small other = record {
  named = tt;
  right = All-cons (IsRight r) (check a (r.resolve a)) (check c (r.resolve c) ∷ []) (there, refl) (right_one r c small);
  differ = (grind (arith, nat_tests), (refl, tt));
  size = omega arith;
}

-- the site after the adds
abbrev LawfulAfter : Receivers → List Check → Advance → Type 0
LawfulAfter r row a = Lawful r a.state (row_after r row a)

next_lawful_bare : (r : Receivers) (s : CallState) (c : ℕ) → LawfulState r s → MayHave s 0 → covers s [] c ≡ false → c < r.classes → LawfulAfter r [] (next r s [] c)
next_lawful_bare r Unlinked c l size un small = lawful_bare r (Mono (class_id c)) small refl
next_lawful_bare r (Mono a) c l size un small =
    let other = eqb-false c a.0 un in
    range_cases (LawfulAfter r []) r (min a.0 c) (max a.0 c) (r.resolve a.0) _
    (λ one. lawful_bare r (Single (class_id (min a.0 c)) (class_id (max a.0 c)) (r.resolve a.0)) (omega arith, omega arith, one) refl)
    (λ _. lawful_two r a.0 c l small un)
next_lawful_bare r (Single lo hi t) c l size un small =
    let below = l.0 in let there = l.1 in
    range_cases (LawfulAfter r []) r (min lo.0 c) (max hi.0 c) t _
    (λ one. lawful_bare r (Single (class_id (min lo.0 c)) (class_id (max hi.0 c)) t) (omega arith, omega arith, one) refl)
    (λ _. lawful_one r c small)
next_lawful_bare r Cached c l size un small = lawful_one r c small
next_lawful_bare r Mega c l size un small = absurd (omega arith)

next_lawful_cached : (r : Receivers) (row : List Check) (c : ℕ) → Lawful r Cached row → has row c ≡ false → c < r.classes → LawfulAfter r row (next r Cached row c)
next_lawful_cached r row c l un small =
    elim (nat_lt (length row) 4) as (λ b. nat_lt (length row) 4 ≡ b → LawfulAfter r row (advance (if b then Cached else Mega) (Some (class_id c)) None)) [
      | true ↦ λ e. lawful_added r row c l (grind (arith, nat_tests)) un small
      | false ↦ λ e. let few = l.size in record { named = tt; right = l.right; differ = l.differ; size = grind (arith, nat_tests) }
    ] refl

next_lawful_empty : (r : Receivers) (s : CallState) (row : List Check) (c : ℕ) → LawfulState r s → MayHave s 0 → length row ≡ 0 → covers s row c ≡ false → c < r.classes → LawfulAfter r row (next r s row c)
next_lawful_empty r s row c l size empty un small =
    subst (λ z. covers s z c ≡ false → LawfulAfter r z (next r s z c)) (sym (nil_from_length row empty)) (λ still. next_lawful_bare r s c l size still small) un

-- a miss of a lawful site leaves it lawful, once the adds are made
pub next_lawful : (r : Receivers) (s : CallState) (row : List Check) (c : ℕ) → Lawful r s row → covers s row c ≡ false → c < r.classes → LawfulAfter r row (next r s row c)
next_lawful r Unlinked row c l un small = next_lawful_empty r Unlinked row c l.named refl l.size un small
next_lawful r (Mono a) row c l un small = next_lawful_empty r (Mono a) row c l.named refl l.size un small
next_lawful r (Single lo hi t) row c l un small = next_lawful_empty r (Single lo hi t) row c l.named refl l.size un small
next_lawful r Cached row c l un small = next_lawful_cached r row c l un small
next_lawful r Mega row c l un small = l

-- ---- the class of a miss is covered afterwards

has_behind : (row more : List Check) (c : ℕ) → has more c ≡ true → has (row ++ more) c ≡ true
has_behind row more c h = let both = list_any-append (λ k. k.class.0 == c) row more in grind (arith, nat_tests)

abbrev CoveredAfter : Receivers → List Check → ℕ → Advance → Type 0
CoveredAfter r row c a = CoversAfter r row a c

pub next_covers : (r : Receivers) (s : CallState) (row : List Check) (c : ℕ) → CoversAfter r row (next r s row c) c
next_covers r Unlinked row c = refl
next_covers r (Mono a) row c =
    range_cases (CoveredAfter r row c) r (min a.0 c) (max a.0 c) (r.resolve a.0) _ (λ _. (omega arith, omega arith))
    (λ _. has_behind row (check a.0 (r.resolve a.0) ∷ check c (r.resolve c) ∷ []) c (let same = eq-eqb c c refl in grind (arith, nat_tests)))
next_covers r (Single lo hi t) row c =
    range_cases (CoveredAfter r row c) r (min lo.0 c) (max hi.0 c) t _ (λ _. (omega arith, omega arith))
    (λ _. has_behind row (check c (r.resolve c) ∷ []) c (let same = eq-eqb c c refl in grind (arith, nat_tests)))
next_covers r Cached row c =
    elim (nat_lt (length row) 4) as (λ b. CoveredAfter r row c (advance (if b then Cached else Mega) (Some (class_id c)) None)) [
      | true ↦ has_behind row (check c (r.resolve c) ∷ []) c (let same = eq-eqb c c refl in grind (arith, nat_tests))
      | false ↦ refl
    ]
next_covers r Mega row c = refl

-- ---- transitions

pub move_later : (r : Receivers) (s : CallState) (row : List Check) (c : ℕ) (u : CallState) → Move r s row c u → Later s u
move_later r s row c u m = subst (Later s) m.leads (next_later r s row c)

pub move_explains : (r : Receivers) (s : CallState) (row : List Check) (c : ℕ) (u : CallState) → Move r s row c u → Explains u c
move_explains r s row c u m = let P : CallState → Type 0 = λ z. Explains z c in subst P m.leads (next_explains r s row c)

pub move_lawful_state : (r : Receivers) (s : CallState) (row : List Check) (c : ℕ) (u : CallState) → LawfulState r s → c < r.classes → Move r s row c u → LawfulState r u
move_lawful_state r s row c u l small m = subst (LawfulState r) m.leads (next_lawful_state r s row c l m.uncovered small)

apart_more : (r : Receivers) (S T : ℕ → Type 0) → ((c : ℕ) → S c → T c) → Apart r S → Apart r T
apart_more r S T f a = record {
  lo = a.lo;
  hi = a.hi;
  below = a.below;
  lo_called = f a.lo a.lo_called;
  hi_called = f a.hi a.hi_called;
  one = a.one;
  other = a.other;
  one_within = a.one_within;
  other_within = a.other_within;
  one_concrete = a.one_concrete;
  other_concrete = a.other_concrete;
  differ = a.differ;
}

-- what was reached by the classes of a set is reached by those of a greater one
pub reached_more : (r : Receivers) (k : ℕ) (s : CallState) (S T : ℕ → Type 0) → ((c : ℕ) → S c → T c) → Reached r k s S → Reached r k s T
reached_more r k Unlinked S T f h = h
reached_more r k (Mono a) S T f h = (h.0, f a.0 h.1)
reached_more r k (Single lo hi t) S T f h = (h.0, h.1, f lo.0 h.2, f hi.0 h.3)
reached_more r k Cached S T f h = (h.0, h.1, apart_more r S T f h.2)
reached_more r k Mega S T f h = (h.0, h.1, apart_more r S T f h.2)

-- two called classes, and one from the one to the other whose target differs from that of a called class of the range
apart_by : (r : Receivers) (S : ℕ → Type 0) (lo hi a : ℕ) (t : Target) → lo < hi → S lo → S hi → lo ≤ a → a ≤ hi → IsTrue (r.concrete a) → r.resolve a ≡ t → Differs r lo hi t → Apart r S
apart_by r S lo hi a t below l h from to concrete is d = record {
  lo = lo;
  hi = hi;
  below = below;
  lo_called = l;
  hi_called = h;
  one = d.0;
  other = a;
  one_within = (d.1, d.2);
  other_within = (from, to);
  one_concrete = d.3;
  other_concrete = concrete;
  differ = λ e. d.4 (e ∙ is);
}

-- a miss that is no transition leaves the state as it is
pub miss_stays : (r : Receivers) (s : CallState) (row : List Check) (c : ℕ) → moves s row ≡ false → (next r s row c).state ≡ s
miss_stays r Unlinked row c stay = absurd cc
miss_stays r (Mono a) row c stay = absurd cc
miss_stays r (Single lo hi t) row c stay = absurd cc
miss_stays r Cached row c stay = elim (nat_lt (length row) 4) as (λ b. not b ≡ false → (if b then Cached else Mega) ≡ Cached) [ true ↦ λ e. refl | false ↦ λ e. absurd cc ] stay
miss_stays r Mega row c stay = refl

-- a miss that changes the state is a transition
pub move_of : (r : Receivers) (s : CallState) (row : List Check) (c : ℕ) → covers s row c ≡ false → (next r s row c).state ≢ s → Move r s row c (next r s row c).state
move_of r s row c un other = record {
  uncovered = un;
  changes = elim (moves s row) as (λ b. moves s row ≡ b → b ≡ true) [ true ↦ λ e. refl | false ↦ λ e. absurd (other (miss_stays r s row c e)) ] refl;
  leads = refl;
}

module _ (r : Receivers) (S : ℕ → Type 0) (concrete : (c : ℕ) → S c → IsTrue (r.concrete c)) (c : ℕ) (called : S c) where
  -- a transition of a reached state by a class of the set is reached with one more
  pub next_reached : (k : ℕ) (s : CallState) (row : List Check) → LawfulState r s → Reached r k s S → covers s row c ≡ false → moves s row ≡ true → Reached r (k + 1) (next r s row c).state S
  next_reached k Unlinked row l h un go = (omega arith, called)
  next_reached k (Mono a) row l h un go =
      let other = eqb-false c a.0 un in let one = h.0 in
      let low = one_of_min S a.0 c h.1 called in let high = one_of_max S a.0 c h.1 called in
      range_cases (λ z. Reached r (k + 1) z.state S) r (min a.0 c) (max a.0 c) (r.resolve a.0) _
      (λ _. (omega arith, omega arith, low, high))
      (λ d. (omega arith, omega arith, apart_by r S (min a.0 c) (max a.0 c) a.0 (r.resolve a.0) (omega arith) low high (omega arith) (omega arith) (concrete a.0 h.1) refl d))
  next_reached k (Single lo hi t) row l h un go =
      let below = l.0 in let there = l.1 in let least = h.0 in let most = h.1 in
      let low = one_of_min S lo.0 c h.2 called in let high = one_of_max S hi.0 c h.3 called in
      range_cases (λ z. Reached r (k + 1) z.state S) r (min lo.0 c) (max hi.0 c) t _
      (λ _. (omega arith, ⊎_elim (λ (out : c < lo.0). omega arith) (λ (out : hi.0 < c). omega arith) (outside lo.0 hi.0 c row t un), low, high))
      (λ d. (omega arith, omega arith, apart_by r S (min lo.0 c) (max hi.0 c) lo.0 t (omega arith) low high (omega arith) (omega arith) (concrete lo.0 h.2) (l.2 lo.0 (omega arith) (omega arith) (concrete lo.0 h.2)) d))
  next_reached k Cached row l h un go =
      let least = h.0 in let most = h.1 in
      elim (nat_lt (length row) 4) as (λ b. not b ≡ true → Reached r (k + 1) (if b then Cached else Mega) S) [
        | true ↦ λ e. absurd cc
        | false ↦ λ e. (omega arith, omega arith, h.2)
      ] go
  next_reached k Mega row l h un go = absurd cc

  pub move_reached : (k : ℕ) (s : CallState) (row : List Check) (u : CallState) → LawfulState r s → Reached r k s S → Move r s row c u → Reached r (k + 1) u S
  move_reached k s row u l h m = let P : CallState → Type 0 = λ z. Reached r (k + 1) z S in subst P m.leads (next_reached k s row l h m.uncovered m.changes)

-- no more than two transitions for each class
pub reached_few : (r : Receivers) (k : ℕ) (s : CallState) (S : ℕ → Type 0) → LawfulState r s → Reached r k s S → k ≤ r.classes + 2
reached_few r k Unlinked S l h = omega arith
reached_few r k (Mono a) S l h = let one = h.0 in omega arith
reached_few r k (Single lo hi t) S l h = let below = l.0 in let there = l.1 in let most = h.1 in omega arith
reached_few r k Cached S l h = let most = h.1 in omega arith
reached_few r k Mega S l h = let most = h.1 in omega arith

-- Rows of checks, and what a transition leaves of them.
use Rattle.std.proofs.Common.{◌≡◌, ◌≢◌, ◌⊎◌, ℕ, zero, suc, ◌<◌, ◌≤◌, true, false, nat_lt, if◌then◌else◌, min, max, List, [], ◌∷◌, ◌++◌, length, sym, refl, ap, ◌∙◌, subst, ⊎_elim, inl, inr, arith}
use Rattle.std.specs.Prelude.{All, slice_index_or}
use Rattle.std.proofs.lemmas.Bool.Decides.{nat_tests}
use mathlib.Core.Option.{some, some-injective, some-ne-none}
use lib.ListN.{get_elem?}
use Rattle.miss_handler.specs.declared.row.Check.{Check}
use Rattle.miss_handler.specs.declared.state.CallState.{CallState}
use Rattle.miss_handler.specs.declared.state.CallState.TheVariants.{Unlinked, Mono, Single, Cached, Mega}
use Rattle.miss_handler.specs.States.{Receivers, has, Lawful, MayHave, Move}
use Rattle.miss_handler.proofs.Moves.{range_cases, move_lawful_state}
use Rattle.cell_rule.specs.Words.{check_word, IsSmall, no_target}
use Rattle.cell_rule.specs.About.{state_target}
use Rattle.cell_rule.specs.Rule.{row_word}

-- ---- places

pub inside : {A : Type 0} (l : List A) (i : ℕ) (a : A) → get_elem? l i ≡ some a → i < length l
inside [] i a e = absurd (some-ne-none a (sym e))
inside (x ∷ xs) zero a e = omega arith
inside (x ∷ xs) (suc i) a e = let r = inside xs i a e in omega arith

place_or : {A : Type 0} (l : List A) (i : ℕ) (a d : A) → get_elem? l i ≡ some a → slice_index_or l i d ≡ a
place_or [] i a d e = absurd (some-ne-none a (sym e))
place_or (x ∷ xs) zero a d e = some-injective x a e
place_or (x ∷ xs) (suc i) a d e = place_or xs i a d e

-- what holds of all holds of the one at a place
pub all_at : {A : Type 0} (P : A → Type 0) (l : List A) (i : ℕ) (a : A) → All P l → get_elem? l i ≡ some a → P a
all_at P l i a all e = subst P (place_or l i a a e) (all i a (inside l i a e))

-- a check is set at the place, or none from there on
pub row_is : (l : List Check) (i : ℕ) → ((k : Check) × (get_elem? l i ≡ some k) × (row_word l i ≡ check_word k)) ⊎ ((row_word l i ≡ 0) × (length l ≤ i))
row_is [] i = inr (refl, omega arith)
row_is (k ∷ l) zero = inl (k, refl, refl)
row_is (k ∷ l) (suc i) = ⊎_elim (λ (q : (b : Check) × (get_elem? l i ≡ some b) × (row_word l i ≡ check_word b)). inl q)
    (λ (q : (row_word l i ≡ 0) × (length l ≤ i)). inr (q.0, let z = q.1 in omega arith)) (row_is l i)

-- all before i are set, and none from i on
pub filled : (l : List Check) (i : ℕ) → length l ≤ i → ((q : ℕ) → q < i → (k : Check) × (get_elem? l q ≡ some k)) → length l ≡ i
filled l zero le set_all = omega arith
filled l (suc i) le set_all = let a = set_all i (omega arith) in let h = inside l i a.0 a.1 in omega arith

pub word_at : (l : List Check) (i : ℕ) (k : Check) → get_elem? l i ≡ some k → row_word l i ≡ check_word k
word_at [] i k e = absurd (some-ne-none k (sym e))
word_at (b ∷ l) zero k e = ap check_word (some-injective b k e)
word_at (b ∷ l) (suc i) k e = word_at l i k e

pub word_else : (l : List Check) (k : Check) (i : ℕ) → i ≢ length l → row_word (l ++ k ∷ []) i ≡ row_word l i
word_else [] k zero n = absurd (n refl)
word_else [] k (suc i) n = refl
word_else (b ∷ l) k zero n = refl
word_else (b ∷ l) k (suc i) n = word_else l k i (λ e. n (ap suc e))

-- two rows of which the one has at each of its places what the other has
pub row_same : (a b : List Check) → length b ≤ length a → ((q : ℕ) (k : Check) → get_elem? a q ≡ some k → get_elem? b q ≡ some k) → a ≡ b
row_same [] [] le h = refl
row_same [] (y ∷ b) le h = absurd (omega arith)
row_same (x ∷ a) [] le h = absurd (some-ne-none x (sym (h 0 x refl)))
row_same (x ∷ a) (y ∷ b) le h =
    let first : y ≡ x = some-injective y x (h 0 x refl) in let more = row_same a b (omega arith) (λ q k e. h (suc q) k e) in
    λ j. sym first j ∷ more j

pub none_has : (row : List Check) (c : ℕ) → ((q : ℕ) (k : Check) → get_elem? row q ≡ some k → k.class.0 ≢ c) → has row c ≡ false
none_has [] c h = refl
none_has (k ∷ row) c h = let other = h 0 k refl in let more = none_has row c (λ q z e. h (suc q) z e) in grind (arith, nat_tests)

-- ---- transitions

-- the row counts in Cached alone
pub move_over : (r : Receivers) (s : CallState) (a b : List Check) (c : ℕ) (u : CallState) → Move r s a c u → (s ≡ Cached → nat_lt (length a) 4 ≡ false → a ≡ b) → Move r s b c u
move_over r Unlinked a b c u m same = record { uncovered = m.uncovered; changes = m.changes; leads = m.leads }
move_over r (Mono d) a b c u m same = record { uncovered = m.uncovered; changes = m.changes; leads = m.leads }
move_over r (Single lo hi t) a b c u m same = record { uncovered = m.uncovered; changes = m.changes; leads = m.leads }
move_over r Cached a b c u m same = let go = m.changes in subst (λ (z : List Check). Move r Cached z c u) (same refl (grind (arith, nat_tests))) m
move_over r Mega a b c u m same = let go = m.changes in absurd cc

moved_size : (r : Receivers) (s : CallState) (row : List Check) (c : ℕ) (u : CallState) → MayHave s (length row) → Move r s row c u → MayHave u (length row)
moved_size r Unlinked row c u size m = let P : CallState → Type 0 = λ z. MayHave z (length row) in subst P m.leads size
moved_size r (Mono a) row c u size m = let P : CallState → Type 0 = λ z. MayHave z (length row) in
    subst P m.leads (range_cases (λ z. MayHave z.state (length row)) r (min a.0 c) (max a.0 c) (r.resolve a.0) _ (λ _. size) (λ _. omega arith))
moved_size r (Single lo hi t) row c u size m = let P : CallState → Type 0 = λ z. MayHave z (length row) in
    subst P m.leads (range_cases (λ z. MayHave z.state (length row)) r (min lo.0 c) (max hi.0 c) t _ (λ _. size) (λ _. omega arith))
moved_size r Cached row c u size m = let P : CallState → Type 0 = λ z. MayHave z (length row) in
    subst P m.leads (elim (nat_lt (length row) 4) as (λ b. nat_lt (length row) 4 ≡ b → MayHave (if b then Cached else Mega) (length row)) [
      | true ↦ λ e. size
      | false ↦ λ e. grind (arith, nat_tests)
    ] refl)
moved_size r Mega row c u size m = let go = m.changes in absurd cc

-- the new state is lawful with the row as it stands
pub moved_lawful : (r : Receivers) (s : CallState) (row : List Check) (c : ℕ) (u : CallState) → c < r.classes → Lawful r s row → Move r s row c u → Lawful r u row
moved_lawful r s row c u small l m = record { named = move_lawful_state r s row c u l.named small m; right = l.right; differ = l.differ; size = moved_size r s row c u l.size m }

IsMega : CallState → Type 0
IsMega Unlinked = ⊥
IsMega (Mono a) = ⊥
IsMega (Single lo hi t) = ⊥
IsMega Cached = ⊥
IsMega Mega = Unit {0}

-- the class that makes a site Mega stands in no check
pub moved_over : (r : Receivers) (s : CallState) (row : List Check) (c : ℕ) (u : CallState) → Move r s row c u → u ≡ Mega → has row c ≡ false
unfolding IsMega
moved_over r Unlinked row c u m e = absurd (subst IsMega (sym (m.leads ∙ e)) tt)
moved_over r (Mono a) row c u m e =
    absurd (range_cases (λ z. IsMega z.state → ⊥) r (min a.0 c) (max a.0 c) (r.resolve a.0) _ (λ _ z. z) (λ _ z. z) (subst IsMega (sym (m.leads ∙ e)) tt))
moved_over r (Single lo hi t) row c u m e =
    absurd (range_cases (λ z. IsMega z.state → ⊥) r (min lo.0 c) (max hi.0 c) t _ (λ _ z. z) (λ _ z. z) (subst IsMega (sym (m.leads ∙ e)) tt))
moved_over r Cached row c u m e = m.uncovered
moved_over r Mega row c u m e = let go = m.changes in absurd cc

none_small : IsSmall no_target
none_small = omega arith

-- the target of the new state fits its field
pub moved_small : (r : Receivers) (s : CallState) (row : List Check) (c : ℕ) (u : CallState) → ((d : ℕ) → IsSmall (r.resolve d)) → IsSmall (state_target r s) → Move r s row c u → IsSmall (state_target r u)
moved_small r Unlinked row c u small old m = let P : CallState → Type 0 = λ z. IsSmall (state_target r z) in subst P m.leads (small c)
moved_small r (Mono a) row c u small old m = let P : CallState → Type 0 = λ z. IsSmall (state_target r z) in
    subst P m.leads (range_cases (λ z. IsSmall (state_target r z.state)) r (min a.0 c) (max a.0 c) (r.resolve a.0) _ (λ _. old) (λ _. none_small))
moved_small r (Single lo hi t) row c u small old m = let P : CallState → Type 0 = λ z. IsSmall (state_target r z) in
    subst P m.leads (range_cases (λ z. IsSmall (state_target r z.state)) r (min lo.0 c) (max hi.0 c) t _ (λ _. old) (λ _. none_small))
moved_small r Cached row c u small old m = let P : CallState → Type 0 = λ z. IsSmall (state_target r z) in
    subst P m.leads (elim (nat_lt (length row) 4) as (λ b. IsSmall (state_target r (if b then Cached else Mega))) [ true ↦ none_small | false ↦ none_small ])
moved_small r Mega row c u small old m = let go = m.changes in absurd cc

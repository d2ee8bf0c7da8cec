-- What a call does to what is kept.
use Rattle.std.proofs.Common.{◌≡◌, ℕ, ◌≤◌, ◌+◌, Bool, true, false, ◌&&◌, ◌||◌, ◌==◌, List, [], ◌∷◌, sym, refl, ◌∙◌, ap, subst, arith}
use Rattle.std.specs.Prelude.{if◌then◌else◌, fold}
use Rattle.std.proofs.lemmas.Bool.{eqb-true}
use Rattle.program.specs.Parts.{Parts}
use Rattle.miss_handler.specs.declared.row.Check.{Check}
use Rattle.miss_handler.specs.declared.state.CallState.{CallState}
use Rattle.miss_handler.specs.declared.state.CallState.TheVariants.{Unlinked, Mono, Single, Cached, Mega}
use Rattle.miss_handler.specs.States as one
use Rattle.miss_handler.specs.States.{Receivers, covers, moves, SiteCell, called, missed}
use Rattle.miss_handler.specs.Sites.{receivers, selector_of}
use Rattle.miss_handler.proofs.Runs.{after_calls-nil, after_calls-cons, called_cases}
use Rattle.call_cell.specs.Kept.{is_mega, Kept, is_covered, put, with_class, tables_after, after_call, after_calls, classes_at}
use Rattle.call_cell.specs.Laws.{SitesAreAlone}
use Rattle.call_cell.proofs.Keeps.{called_missed}

pub put_same : {A : Type 0} (f : ℕ → A) (s : ℕ) → put f s (f s) ≡ f
put_same f s = λ i x. (pick x (s == x) refl) i
  where
    pick : (x : ℕ) (b : Bool) → (s == x) ≡ b → (if b then f s else f x) ≡ f x
    pick x true e = ap f (eqb-true s x e)
    pick x false e = refl

with_same : (t : ℕ → ℕ → Bool) (q c : ℕ) → t q c ≡ true → with_class t q c ≡ t
with_same t q c there = λ i r d. (pick r d (q == r) (c == d) refl refl) i
  where
    pick : (r d : ℕ) (a b : Bool) → (q == r) ≡ a → (c == d) ≡ b → ((a && b) || t r d) ≡ t r d
    pick r d true true ea eb = sym (ap (λ x. t x d) (sym (eqb-true q r ea)) ∙ ap (t q) (sym (eqb-true c d eb)) ∙ there)
    pick r d true false ea eb = refl
    pick r d false b ea eb = refl

-- a site that covers the class is not megamorphic
covers_few : (s : CallState) (row : List Check) (t : ℕ → ℕ → Bool) (q c : ℕ) → covers s row c ≡ true → tables_after s t q c ≡ t
covers_few Unlinked row t q c e = refl
covers_few (Mono a) row t q c e = refl
covers_few (Single lo hi own) row t q c e = refl
covers_few Cached row t q c e = refl
covers_few Mega row t q c e = absurd cc

pub mega_is : (s : CallState) → is_mega s ≡ true → s ≡ Mega
mega_is Unlinked e = absurd cc
mega_is (Mono a) e = absurd cc
mega_is (Single lo hi own) e = absurd cc
mega_is Cached e = absurd cc
mega_is Mega e = refl

pub tables_not : (s : CallState) (t : ℕ → ℕ → Bool) (q c : ℕ) → is_mega s ≡ false → tables_after s t q c ≡ t
tables_not Unlinked t q c e = refl
tables_not (Mono a) t q c e = refl
tables_not (Single lo hi own) t q c e = refl
tables_not Cached t q c e = refl
tables_not Mega t q c e = absurd cc

pub tables_mega : (s : CallState) (t : ℕ → ℕ → Bool) (q c : ℕ) → is_mega s ≡ true → tables_after s t q c ≡ with_class t q c
tables_mega s t q c e = ap (λ z. tables_after z t q c) (mega_is s e)

-- a megamorphic site stays as it is
mega_stays : (r : Receivers) (cell : SiteCell) (c : ℕ) → cell.state ≡ Mega → called r cell c ≡ cell
mega_stays r cell c is =
    let all : (row : List Check) (k : ℕ) (s : CallState) → s ≡ Mega → called r (record { state = s; row = row; stamp = k }) c ≡ record { state = s; row = row; stamp = k } = λ row k s e.
    subst (λ (z : CallState). called r (record { state = z; row = row; stamp = k }) c ≡ record { state = z; row = row; stamp = k }) (sym e) refl in
    all cell.row cell.stamp cell.state is

-- a covered class changes nothing
pub covered_stays : (p : Parts) (k : Kept) (s c : ℕ) → is_covered p k s c ≡ true → after_call p k (s, c) ≡ k
unfolding after_call
covered_stays p k s c it =
    elim (covers (k.site s).state (k.site s).row c) as (λ b. covers (k.site s).state (k.site s).row c ≡ b → (b || (is_mega (k.site s).state && k.added (selector_of p.sites s) c)) ≡ true → after_call p k (s, c) ≡ k) [
      | true ↦ λ e _. stays (ap (λ b. if b then k.site s else missed (receivers p s) (k.site s) c) e) (covers_few (k.site s).state (k.site s).row k.added (selector_of p.sites s) c e)
      | false ↦ λ e h. let both = both_true (is_mega (k.site s).state) (k.added (selector_of p.sites s) c) h in
          stays (mega_stays (receivers p s) (k.site s) c (mega_is (k.site s).state both.0)) (tables_mega (k.site s).state k.added (selector_of p.sites s) c both.0 ∙ with_same k.added (selector_of p.sites s) c both.1)
    ] refl it
  where
    both_true : (a b : Bool) → (a && b) ≡ true → (a ≡ true) × (b ≡ true)
    both_true true true e = (refl, refl)
    both_true true false e = absurd cc
    both_true false b e = absurd cc

    stays : called (receivers p s) (k.site s) c ≡ k.site s → tables_after (k.site s).state k.added (selector_of p.sites s) c ≡ k.added → after_call p k (s, c) ≡ k
    stays same tables = λ i. record {
      site = (ap (put k.site s) same ∙ put_same k.site s) i;
      added = (ap (λ (z : SiteCell). tables_after z.state k.added (selector_of p.sites s) c) same ∙ tables) i;
    }

-- what is not covered is not covered by the state
pub uncovered_site : (p : Parts) (k : Kept) (s c : ℕ) → is_covered p k s c ≡ false → covers (k.site s).state (k.site s).row c ≡ false
uncovered_site p k s c e = left (covers (k.site s).state (k.site s).row c) (is_mega (k.site s).state && k.added (selector_of p.sites s) c) e
  where
    left : (a b : Bool) → (a || b) ≡ false → a ≡ false
    left true b e = absurd cc
    left false b e = refl

-- what a miss makes of the site and of the tables
pub missed_kept : (p : Parts) (k : Kept) (s c : ℕ) (cell : SiteCell) → covers (k.site s).state (k.site s).row c ≡ false → cell ≡ missed (receivers p s) (k.site s) c
    → after_call p k (s, c) ≡ record { site = put k.site s cell; added = tables_after cell.state k.added (selector_of p.sites s) c }
unfolding after_call
missed_kept p k s c cell un is = let same = called_missed (receivers p s) (k.site s) c un ∙ sym is in λ i. record {
  site = put k.site s (same i);
  added = tables_after (same i).state k.added (selector_of p.sites s) c;
}

-- no stamp falls
pub stamp_rises : (p : Parts) (k : Kept) (s c x : ℕ) → (k.site x).stamp ≤ ((after_call p k (s, c)).site x).stamp
unfolding after_call
stamp_rises p k s c x =
    elim (s == x) as (λ b. (s == x) ≡ b → (k.site x).stamp ≤ (if b then called (receivers p s) (k.site s) c else k.site x).stamp) [
      | true ↦ λ e. subst (λ y. (k.site y).stamp ≤ (called (receivers p s) (k.site s) c).stamp) (eqb-true s x e) (up (receivers p s) (k.site s))
      | false ↦ λ e. omega arith
    ] refl
  where
    up : (r : Receivers) (cell : SiteCell) → cell.stamp ≤ (called r cell c).stamp
    up r cell = called_cases (λ z. cell.stamp ≤ z.stamp) r cell c (λ _. omega arith) (λ _. more (moves cell.state cell.row))
      where
        more : (b : Bool) → cell.stamp ≤ (if b then cell.stamp + 1 else cell.stamp)
        more true = omega arith
        more false = omega arith

pub after_calls-one : (p : Parts) (k : Kept) (call : ℕ × ℕ) → after_calls p k (call ∷ []) ≡ after_call p k call
unfolding after_calls
after_calls-one p k call = refl

called_here : (p : Parts) (k : Kept) (call : ℕ × ℕ) (s : ℕ) → (call.0 == s) ≡ true → (after_call p k call).site s ≡ called (receivers p s) (k.site s) call.1
unfolding after_call
called_here p k call s e = ap (λ b. if b then called (receivers p call.0) (k.site call.0) call.1 else k.site s) e ∙ ap (λ x. called (receivers p x) (k.site x) call.1) (eqb-true call.0 s e)

called_else : (p : Parts) (k : Kept) (call : ℕ × ℕ) (s : ℕ) → (call.0 == s) ≡ false → (after_call p k call).site s ≡ k.site s
unfolding after_call
called_else p k call s e = ap (λ b. if b then called (receivers p call.0) (k.site call.0) call.1 else k.site s) e

after_each : (p : Parts) (k : Kept) (calls : List (ℕ × ℕ)) (s : ℕ) → (fold (after_call p) k calls).site s ≡ one.after_calls (receivers p s) (k.site s) (classes_at s calls)
after_each p k [] s = sym (after_calls-nil (receivers p s) (k.site s))
after_each p k (call ∷ calls) s = after_each p (after_call p k call) calls s ∙ step (call.0 == s) refl
  where
    step : (b : Bool) → (call.0 == s) ≡ b → one.after_calls (receivers p s) ((after_call p k call).site s) (classes_at s calls) ≡ one.after_calls (receivers p s) (k.site s) (if b then call.1 ∷ classes_at s calls else classes_at s calls)
    step true e = ap (λ z. one.after_calls (receivers p s) z (classes_at s calls)) (called_here p k call s e) ∙ sym (after_calls-cons (receivers p s) (k.site s) call.1 (classes_at s calls))
    step false e = ap (λ z. one.after_calls (receivers p s) z (classes_at s calls)) (called_else p k call s e)

pub sites_alone : SitesAreAlone
unfolding after_calls
sites_alone p k calls s = after_each p k calls s

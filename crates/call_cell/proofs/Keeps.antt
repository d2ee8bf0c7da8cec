-- What is true of plain cells, fact by fact, and that calls keep it.
use Rattle.std.proofs.Common.{◌≡◌, ℕ, ◌+◌, ◌*◌, ◌<◌, ◌≤◌, Bool, true, false, ◌==◌, IsTrue, List, [], ◌∷◌, ◌++◌, length, length-set, set, replicate, Option, None, Some, slice_get, sym, refl, ◌∙◌, ap, subst, arith}
use Rattle.std.specs.Prelude.{if◌then◌else◌, ◌&&◌}
use Rattle.std.specs.List.{AllByRecursion}
use Rattle.std.specs.Coded.{le_prop}
use Rattle.std.proofs.Math.Logic.{∥∥₁_elim, ∥∥₁_map}
use Rattle.std.proofs.Math.Bool.{Bool-set}
use Rattle.std.proofs.Math.Nat.{ℕ_set}
use Rattle.std.proofs.Props.{props}
use Rattle.std.proofs.lemmas.Bool.{eqb-true}
use Rattle.std.proofs.lemmas.List.{length-replicate}
use Rattle.program.specs.declared.numbered.Target.{Target}
use Rattle.program.specs.Lookup.{resolve}
use Rattle.program.specs.Parts.{Parts, is_concrete}
use Rattle.program.specs.Program.{parts_of}
use Rattle.program.proofs.Facts.{few_classes}
use Rattle.method_lookup.specs.declared.linked.Linked.{Linked}
use Rattle.miss_handler.specs.declared.state.CallState.{CallState}
use Rattle.miss_handler.specs.declared.state.CallState.TheVariants.{Unlinked, Mono, Single, Cached, Mega}
use Rattle.miss_handler.specs.States.{Receivers, Lawful, LawfulState, checks_of, covers, next, same_target, SiteCell, unlinked, called, missed, alone}
use Rattle.miss_handler.specs.Sites.{receivers, receivers_at, IsNamed}
use Rattle.miss_handler.proofs.Places.{classes_at, concrete_at, concrete_within}
use Rattle.miss_handler.proofs.Runs.{Among, after_calls-nil, after_calls-cons, after_calls-append, alone_lawful, stamp_of_alone}
use Rattle.miss_handler.proofs.Tests.{same_target_yes, same_target-refl}
use Rattle.call_cell.specs.declared.cell.Cell.{Cell}
use Rattle.call_cell.specs.Kept.{site_cell, target_for, IsMonoTarget, HasTarget, HasRoom, WasCalled, IsKept, entry_in}
use Rattle.call_cell.proofs.Rows.{room_after}
use Rattle.call_cell.proofs.Targets.{own_target}
use Rattle.call_cell.proofs.Lists.{get-set, entry_set, entry_none, one_replicate}

-- ---- a site that was called

small_all : (p : Parts) (s : ℕ) (l : List ℕ) → AllByRecursion (λ c. IsTrue ((receivers p s).concrete c)) l → Among (λ c. c < (receivers p s).classes) l
small_all p s [] h = tt
small_all p s (c ∷ l) h = (concrete_within p s c h.0, small_all p s l h.1)

among : (P : ℕ → Type 0) (l : List ℕ) → AllByRecursion P l → Among P l
among P [] h = tt
among P (c ∷ l) h = (h.0, among P l h.1)

with_last : (P : ℕ → Type 0) (l : List ℕ) (c : ℕ) → AllByRecursion P l → P c → AllByRecursion P (l ++ c ∷ [])
with_last P [] c h it = (it, tt)
with_last P (d ∷ l) c h it = (h.0, with_last P l c h.1 it)

called_lawful : (p : Parts) (s : ℕ) (cell : SiteCell) → WasCalled (receivers p s) cell → Lawful (receivers p s) cell.state cell.row
called_lawful p s cell w = let r = receivers p s in subst (λ (z : SiteCell). Lawful r z.state z.row) (sym w.is) (alone_lawful r w.classes (small_all p s w.classes w.concrete))

called_stamp : (p : Parts) (s : ℕ) (cell : SiteCell) → WasCalled (receivers p s) cell → cell.stamp ≤ (receivers p s).classes + 2
called_stamp p s cell w =
    let r = receivers p s in
    subst (λ (z : SiteCell). z.stamp ≤ r.classes + 2) (sym w.is) (stamp_of_alone r w.classes (small_all p s w.classes w.concrete) (among (λ c. IsTrue (r.concrete c)) w.classes w.concrete))

called_more : (r : Receivers) (cell : SiteCell) (c : ℕ) → WasCalled r cell → IsTrue (r.concrete c) → WasCalled r (called r cell c)
called_more r cell c w it = record {
  classes = w.classes ++ c ∷ [];
  concrete = with_last (λ c. IsTrue (r.concrete c)) w.classes c w.concrete it;
  is = ap (λ z. called r z c) w.is ∙ sym (after_calls-append r unlinked w.classes (c ∷ []) ∙ after_calls-cons r (alone r w.classes) c [] ∙ after_calls-nil r (called r (alone r w.classes) c));
}

pub called_missed : (r : Receivers) (cell : SiteCell) (c : ℕ) → covers cell.state cell.row c ≡ false → called r cell c ≡ missed r cell c
called_missed r cell c un = ap (λ b. if b then cell else missed r cell c) un

-- a lawful state names a class of the program
lawful_named : (r : Receivers) (n : ℕ) (s : CallState) → r.classes ≡ n → LawfulState r s → IsNamed n s
lawful_named r n Unlinked e l = tt
lawful_named r n (Mono a) e l = omega arith
lawful_named r n (Single lo hi t) e l = tt
lawful_named r n Cached e l = tt
lawful_named r n Mega e l = tt

named_prop : (n : ℕ) (s : CallState) → IsProp (IsNamed n s)
named_prop n Unlinked = hlevel props
named_prop n (Mono a) = le_prop
named_prop n (Single lo hi t) = hlevel props
named_prop n Cached = hlevel props
named_prop n Mega = hlevel props

-- ---- the facts

module _ (linked : Linked) (cells : List Cell) (tables : List (Option Target)) (sound : ∥ IsKept linked cells tables ∥₁) where
  abbrev pub r_at : ℕ → Receivers
  r_at s = receivers_at linked s

  lawful_at : IsKept linked cells tables → (s : ℕ) (k : Cell) → slice_get cells s ≡ Some k → Lawful (r_at s) k.state (checks_of k.row)
  lawful_at i s k here = called_lawful (parts_of linked.program) s (site_cell k) (i.called s k here)

  concrete_here : (s c : ℕ) → IsTrue (is_concrete linked.program.classes c) → IsTrue ((r_at s).concrete c)
  concrete_here s c it = concrete_at (parts_of linked.program) s c ∙ it

  pub count : length cells ≡ length linked.program.sites
  count = ∥∥₁_elim sound (ℕ_set _ _) (λ i. i.sites)

  pub size : length tables ≡ length linked.program.selectors * length linked.program.classes
  size = ∥∥₁_elim sound (ℕ_set _ _) (λ i. i.size)

  pub named : (s : ℕ) (k : Cell) → slice_get cells s ≡ Some k → IsNamed (length linked.program.classes) k.state
  named s k here = ∥∥₁_elim sound (named_prop (length linked.program.classes) k.state) (λ i. lawful_named (r_at s) (length linked.program.classes) k.state (classes_at (parts_of linked.program) s) (lawful_at i s k here).named)

  pub small_stamp : (s : ℕ) (k : Cell) → slice_get cells s ≡ Some k → k.stamp ≤ 3000
  small_stamp s k here = ∥∥₁_elim sound le_prop (λ i.
      let few = few_classes (parts_of linked.program) linked.program.sound in let all = classes_at (parts_of linked.program) s in
      let most = called_stamp (parts_of linked.program) s (site_cell k) (i.called s k here) in omega arith)

  pub room : (s : ℕ) (k : Cell) (c : ℕ) → slice_get cells s ≡ Some k → IsTrue (is_concrete linked.program.classes c) → covers k.state (checks_of k.row) c ≡ false → HasRoom (r_at s) (checks_of k.row) (next (r_at s) k.state (checks_of k.row) c)
  room s k c here it un = ∥∥₁_elim sound (hlevel props) (λ i.
      room_after (r_at s) k.state (checks_of k.row) c (lawful_at i s k here) un (concrete_within (parts_of linked.program) s c (concrete_here s c it)))

  -- what the site itself has for a class is the class's target
  pub right_own : (s : ℕ) (k : Cell) (c : ℕ) (t : Target) → slice_get cells s ≡ Some k → IsTrue (is_concrete linked.program.classes c) → target_for k.state k.target (checks_of k.row) c ≡ Some t → (covers k.state (checks_of k.row) c ≡ true) × (t ≡ (r_at s).resolve c)
  right_own s k c t here it found =
      let is : IsKept linked cells tables → (covers k.state (checks_of k.row) c ≡ true) × (t ≡ (r_at s).resolve c) = λ i.
      own_target (r_at s) k.state k.target t (checks_of k.row) c (lawful_at i s k here) (i.target s k here) (concrete_here s c it) found in (
        ∥∥₁_elim sound (Bool-set _ _) (λ i. (is i).0),
        same_target_yes t ((r_at s).resolve c) (∥∥₁_elim sound (Bool-set _ _) (λ i. ap (λ u. same_target u ((r_at s).resolve c)) (is i).1 ∙ same_target-refl ((r_at s).resolve c))),
      )

  -- so is what a table has
  pub right_entry : (q c : ℕ) (t : Target) → entry_in (length linked.program.classes) tables q c ≡ Some t → t ≡ resolve (parts_of linked.program) c q
  right_entry q c t found =
      same_target_yes t (resolve (parts_of linked.program) c q) (∥∥₁_elim sound (Bool-set _ _) (λ i. ap (λ u. same_target u (resolve (parts_of linked.program) c q)) (i.right q c t found) ∙ same_target-refl (resolve (parts_of linked.program) c q)))

  -- ---- kept by calls

  -- the site s has the cell k
  one_cell : (P : ℕ → Cell → Type 0) (s : ℕ) (k : Cell) → s < length cells → P s k → ((x : ℕ) (j : Cell) → slice_get cells x ≡ Some j → P x j) → (x : ℕ) (j : Cell) → slice_get (set cells s k) x ≡ Some j → P x j
  one_cell P s k inside here others x j found =
      elim (s == x) as (λ b. (s == x) ≡ b → (if b then Some k else slice_get cells x) ≡ Some j → P x j) [
        | true ↦ λ same is. let e : k ≡ j = cc in subst (P x) e (subst (λ y. P y k) (eqb-true s x same) here)
        | false ↦ λ _ is. others x j is
      ] refl (sym (get-set cells s x k inside) ∙ found)

  pub keeps_cell : (s : ℕ) (k old : Cell) (c : ℕ) → slice_get cells s ≡ Some old → s < length cells → IsTrue (is_concrete linked.program.classes c) → covers old.state (checks_of old.row) c ≡ false
      → site_cell k ≡ missed (r_at s) (site_cell old) c → HasTarget (r_at s) k → ∥ IsKept linked (set cells s k) tables ∥₁
  keeps_cell s k old c here inside it un is target = ∥∥₁_map sound (λ i. record {
    sites = length-set cells s k ∙ i.sites;
    size = i.size;
    called = one_cell (λ x j. WasCalled (r_at x) (site_cell j)) s k inside
        (subst (WasCalled (r_at s)) (called_missed (r_at s) (site_cell old) c un ∙ sym is) (called_more (r_at s) (site_cell old) c (i.called s old here) (concrete_here s c it))) i.called;
    target = one_cell (λ x j. HasTarget (r_at x) j) s k inside target i.target;
    right = i.right;
  })

  pub keeps_entry : (q c : ℕ) (t : Target) → c < length linked.program.classes → q * length linked.program.classes + c < length tables → t ≡ resolve (parts_of linked.program) c q
      → ∥ IsKept linked cells (set tables (q * length linked.program.classes + c) (Some t)) ∥₁
  keeps_entry q c t small inside is = let w = length linked.program.classes in ∥∥₁_map sound (λ i. record {
    sites = i.sites;
    size = length-set tables (q * w + c) (Some t) ∙ i.size;
    called = i.called;
    target = i.target;
    right = λ r d u found. elim (q == r && c == d) as (λ b. (q == r && c == d) ≡ b → (if b then Some t else entry_in w tables r d) ≡ Some u → u ≡ resolve (parts_of linked.program) d r) [
      | true ↦ λ same e. let at = both_true (q == r) (c == d) same in let v : t ≡ u = cc in
          sym v ∙ is ∙ ap (λ x. resolve (parts_of linked.program) x q) (eqb-true c d at.1) ∙ ap (resolve (parts_of linked.program) d) (eqb-true q r at.0)
      | false ↦ λ _ e. i.right r d u e
    ] refl (sym (entry_set w tables q c t small inside r d) ∙ found);
  })
    where
      both_true : (a b : Bool) → (a && b) ≡ true → (a ≡ true) × (b ≡ true)
      both_true true true e = (refl, refl)
      both_true true false e = absurd cc
      both_true false b e = absurd cc

pub kept_first : (linked : Linked) (k : Cell) (n m : ℕ) → site_cell k ≡ unlinked → n ≡ length linked.program.sites → m ≡ length linked.program.selectors * length linked.program.classes → IsKept linked (replicate n k) (replicate m None)
kept_first linked k n m is all_sites all_entries = record {
  sites = length-replicate n k ∙ all_sites;
  size = length-replicate m None ∙ all_entries;
  called = λ s j here. record { classes = []; concrete = tt; is = ap site_cell (sym (one_replicate n s k j here)) ∙ is ∙ sym (after_calls-nil (receivers_at linked s) unlinked) };
  target = λ s j here. subst (λ (x : Cell). HasTarget (receivers_at linked s) x) (one_replicate n s k j here) (bare (receivers_at linked s));
  right = λ q c t here. let none : None ≡ Some t = sym (entry_none (length linked.program.classes) m q c) ∙ here in absurd cc;
}
  where
    bare : (r : Receivers) → HasTarget r k
    bare r = subst (λ (x : CallState). IsMonoTarget r x k.target) (sym (ap (λ (z : SiteCell). z.state) is)) tt

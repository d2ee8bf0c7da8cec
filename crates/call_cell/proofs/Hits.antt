-- Hits, and the cells that are kept, for the program at hand.
use Rattle.std.proofs.Common.{◌≡◌, ℕ, ◌+◌, ◌*◌, ◌<◌, true, false, ◌&&◌, ◌||◌, IsTrue, List, length, set, replicate, Option, None, Some, is_some, option_and_then, slice_get, sym, refl, ◌∙◌, ap, subst, arith}
use Rattle.std.specs.Prelude.{if◌then◌else◌, nat_lt, MatchOption}
use Rattle.std.proofs.lemmas.Bool.Decides.{nat_tests}
use Rattle.program.specs.declared.numbered.Target.{Target}
use Rattle.program.specs.Lookup.{resolve}
use Rattle.program.specs.Parts.{is_concrete}
use Rattle.program.specs.Program.{parts_of}
use Rattle.method_lookup.specs.declared.linked.Linked.{Linked}
use Rattle.miss_handler.specs.declared.row.Check.{Check}
use Rattle.miss_handler.specs.declared.state.CallState.{CallState}
use Rattle.miss_handler.specs.declared.state.CallState.TheVariants.{Unlinked, Mono, Single, Cached, Mega}
use Rattle.miss_handler.specs.States.{checks_of, covers, SiteCell, missed}
use Rattle.miss_handler.specs.Sites.{receivers_at, selector_of}
use Rattle.miss_handler.proofs.Places.{resolve_at, concrete_there}
use Rattle.call_cell.specs.declared.cell.Cell.{Cell}
use Rattle.call_cell.specs.Kept.{AreUnlinked, nothing_kept, is_mega, site_cell, cell_or, site_in, entry_in, kept_in, is_covered, target_for, HasTarget, IsKept, put, with_class}
use Rattle.call_cell.proofs.Targets.{no_target}
use Rattle.call_cell.proofs.Lists.{site_set, added_set, entry_none, site_replicate}
use Rattle.call_cell.proofs.Keeps.{kept_first, count, right_own, right_entry, keeps_cell, keeps_entry}

pub site_here : (cells : List Cell) (s : ℕ) (k : Cell) → slice_get cells s ≡ Some k → site_in cells s ≡ site_cell k
unfolding site_in
site_here cells s k here = ap cell_or here

entry_here : (w : ℕ) (tables : List (Option Target)) (q c : ℕ) (e : Option Target) → c < w → slice_get tables (q * w + c) ≡ Some e → entry_in w tables q c ≡ e
unfolding entry_in
entry_here w tables q c e small here = let low : nat_lt c w ≡ true = grind (arith, nat_tests) in ap (λ b. if b then option_and_then (λ z. z) (slice_get tables (q * w + c)) else None) low ∙ ap (option_and_then (λ z. z)) here

mega_covers : (s : CallState) (row : List Check) (c : ℕ) → is_mega s ≡ true → covers s row c ≡ false
mega_covers Unlinked row c e = absurd cc
mega_covers (Mono a) row c e = absurd cc
mega_covers (Single lo hi t) row c e = absurd cc
mega_covers Cached row c e = absurd cc
mega_covers Mega row c e = refl

-- cells that were made for the program
module _ (made linked : Linked) (cells : List Cell) (tables : List (Option Target)) (same : made ≡ linked) (sound : ∥ IsKept made cells tables ∥₁) where
  pub sound_now : ∥ IsKept linked cells tables ∥₁
  sound_now = subst (λ (l : Linked). ∥ IsKept l cells tables ∥₁) same sound

  pub within : (s : ℕ) → s < length linked.program.sites → s < length cells
  within s inside = omega (arith, count linked cells tables sound_now)

  covered_is : (s c : ℕ) (k : Cell) → slice_get cells s ≡ Some k → is_covered (parts_of linked.program) (kept_in (length linked.program.classes) cells tables) s c
      ≡ (covers k.state (checks_of k.row) c || (is_mega k.state && is_some (entry_in (length linked.program.classes) tables (selector_of linked.program.sites s) c)))
  covered_is s c k here = ap (λ (z : SiteCell). covers z.state z.row c || (is_mega z.state && is_some (entry_in (length linked.program.classes) tables (selector_of linked.program.sites s) c))) (site_here cells s k here)

  -- what a hit says, with tables of so many places
  abbrev pub Told : ℕ → ℕ → ℕ → Option Target → Type 0
  Told w s c o = MatchOption o (is_covered (parts_of linked.program) (kept_in w cells tables) s c ≡ false) (λ t. (is_covered (parts_of linked.program) (kept_in w cells tables) s c ≡ true) × (t ≡ (receivers_at linked s).resolve c))

  told_made : (s c : ℕ) (o : Option Target) → Told (length linked.program.classes) s c o → Told (length made.program.classes) s c o
  told_made s c o told = subst (λ (l : Linked). Told (length l.program.classes) s c o) (sym same) told

  own_now : (s c : ℕ) (k : Cell) (o : Option Target) → slice_get cells s ≡ Some k → IsTrue (is_concrete linked.program.classes c) → is_mega k.state ≡ false → target_for k.state k.target (checks_of k.row) c ≡ o → Told (length linked.program.classes) s c o
  own_now s c k None here it few found =
      covered_is s c k here ∙ ap (λ b. b || (is_mega k.state && is_some (entry_in (length linked.program.classes) tables (selector_of linked.program.sites s) c))) (no_target k.state k.target (checks_of k.row) c found)
      ∙ ap (λ b. b && is_some (entry_in (length linked.program.classes) tables (selector_of linked.program.sites s) c)) few
  own_now s c k (Some t) here it few found =
      let is = right_own linked cells tables sound_now s k c t here it found in
      (covered_is s c k here ∙ ap (λ b. b || (is_mega k.state && is_some (entry_in (length linked.program.classes) tables (selector_of linked.program.sites s) c))) is.0, is.1)

  pub told_own : (s c : ℕ) (k : Cell) (o : Option Target) → slice_get cells s ≡ Some k → IsTrue (is_concrete linked.program.classes c) → is_mega k.state ≡ false → target_for k.state k.target (checks_of k.row) c ≡ o → Told (length made.program.classes) s c o
  told_own s c k o here it few found = told_made s c o (own_now s c k o here it few found)

  entry_covers : (s c : ℕ) (k : Cell) (o : Option Target) → slice_get cells s ≡ Some k → is_mega k.state ≡ true → entry_in (length linked.program.classes) tables (selector_of linked.program.sites s) c ≡ o
      → is_covered (parts_of linked.program) (kept_in (length linked.program.classes) cells tables) s c ≡ is_some o
  entry_covers s c k o here mega found =
      covered_is s c k here ∙ ap (λ b. b || (is_mega k.state && is_some (entry_in (length linked.program.classes) tables (selector_of linked.program.sites s) c))) (mega_covers k.state (checks_of k.row) c mega)
      ∙ ap (λ b. b && is_some (entry_in (length linked.program.classes) tables (selector_of linked.program.sites s) c)) mega ∙ ap is_some found

  entry_now : (s c : ℕ) (k : Cell) (o : Option Target) → slice_get cells s ≡ Some k → is_mega k.state ≡ true → entry_in (length linked.program.classes) tables (selector_of linked.program.sites s) c ≡ o → Told (length linked.program.classes) s c o
  entry_now s c k None here mega found = entry_covers s c k None here mega found
  entry_now s c k (Some t) here mega found =
      (entry_covers s c k (Some t) here mega found, right_entry linked cells tables sound_now (selector_of linked.program.sites s) c t found ∙ sym (resolve_at (parts_of linked.program) s c))

  pub told_entry : (s c : ℕ) (k : Cell) (o : Option Target) → slice_get cells s ≡ Some k → IsTrue (is_concrete linked.program.classes c) → is_mega k.state ≡ true
      → slice_get tables (selector_of linked.program.sites s * length linked.program.classes + c) ≡ Some o → Told (length made.program.classes) s c o
  told_entry s c k o here it mega found =
      told_made s c o (entry_now s c k o here mega (entry_here (length linked.program.classes) tables (selector_of linked.program.sites s) c o (concrete_there linked.program.classes c it) found))

  pub made_cell : (s : ℕ) (k old : Cell) (c : ℕ) → slice_get cells s ≡ Some old → s < length cells → IsTrue (is_concrete linked.program.classes c) → covers (site_in cells s).state (site_in cells s).row c ≡ false
      → site_cell k ≡ missed (receivers_at linked s) (site_in cells s) c → HasTarget (receivers_at linked s) k → ∥ IsKept made (set cells s k) tables ∥₁
  made_cell s k old c here inside it un is target =
      let site = site_here cells s old here in
      subst (λ (l : Linked). ∥ IsKept l (set cells s k) tables ∥₁) (sym same)
      (keeps_cell linked cells tables sound_now s k old c here inside it (ap (λ (z : SiteCell). covers z.state z.row c) (sym site) ∙ un) (is ∙ ap (λ z. missed (receivers_at linked s) z c) site) target)

  pub made_entry : (q c n : ℕ) (t : Target) → c < length linked.program.classes → n ≡ q * length linked.program.classes + c → n < length tables → t ≡ resolve (parts_of linked.program) c q → ∥ IsKept made cells (set tables n (Some t)) ∥₁
  made_entry q c n t small at inside is =
      subst (λ (l : Linked). ∥ IsKept l cells (set tables n (Some t)) ∥₁) (sym same)
      (subst (λ (m : ℕ). ∥ IsKept linked cells (set tables m (Some t)) ∥₁) (sym at) (keeps_entry linked cells tables sound_now q c t small (omega arith) is))

  pub added_now : (q c n : ℕ) (t : Target) → c < length linked.program.classes → n ≡ q * length linked.program.classes + c → n < length tables
      → kept_in (length made.program.classes) cells (set tables n (Some t)) ≡ record { site = site_in cells; added = with_class (kept_in (length made.program.classes) cells tables).added q c }
  added_now q c n t small at inside =
      let tables_now : (λ r d. is_some (entry_in (length linked.program.classes) (set tables n (Some t)) r d)) ≡ with_class (λ r d. is_some (entry_in (length linked.program.classes) tables r d)) q c =
      ap (λ m r d. is_some (entry_in (length linked.program.classes) (set tables m (Some t)) r d)) at ∙ added_set (length linked.program.classes) tables q c t small (omega arith) in
      subst (λ (l : Linked). kept_in (length l.program.classes) cells (set tables n (Some t)) ≡ record { site = site_in cells; added = with_class (kept_in (length l.program.classes) cells tables).added q c }) (sym same)
      (λ i. record { site = site_in cells; added = tables_now i })

-- a cell in its place
pub put_now : (w : ℕ) (cells : List Cell) (tables : List (Option Target)) (s : ℕ) (k : Cell) → s < length cells → kept_in w (set cells s k) tables ≡ record { site = put (site_in cells) s (site_cell k); added = (kept_in w cells tables).added }
put_now w cells tables s k inside = λ i. record { site = site_set cells s k inside i; added = λ q c. is_some (entry_in w tables q c) }

-- cells of a program before any call
pub first_sound : (linked made : Linked) (n m : ℕ) (cells : List Cell) (tables : List (Option Target)) → made ≡ linked → AreUnlinked n cells → tables ≡ replicate m None → n ≡ length linked.program.sites → m ≡ length linked.program.selectors * length linked.program.classes
    → ∥ IsKept made cells tables ∥₁
first_sound linked made n m cells tables same new none all_sites all_entries =
    subst (λ (l : Linked). ∥ IsKept l cells tables ∥₁) (sym same)
    (subst (λ z. ∥ IsKept linked z tables ∥₁) (sym new.1) (subst (λ z. ∥ IsKept linked (replicate n new.0) z ∥₁) (sym none) ∣ kept_first linked new.0 n m new.2 all_sites all_entries ∣₁))

pub first_kept : (w n m : ℕ) (cells : List Cell) (tables : List (Option Target)) → AreUnlinked n cells → tables ≡ replicate m None → kept_in w cells tables ≡ nothing_kept
first_kept w n m cells tables new none = λ i. record {
  site = (ap site_in new.1 ∙ site_replicate n new.0 new.2) i;
  added = λ q c. is_some ((ap (λ z. entry_in w z q c) none ∙ entry_none w m q c) i);
}

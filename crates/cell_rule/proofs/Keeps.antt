-- What each step of the table asks: whatever the table is, it keeps the rule.
use Rattle.std.proofs.Common.{◌≡◌, ◌≢◌, ℕ, ◌+◌, ◌-◌, ◌*◌, ◌<◌, ◌==◌, false, IsTrue, get_or, sym, refl, ap, ◌∙◌, subst, ⊎_elim, inl, arith}
use mathlib.Core.Option.{none, some}
use prog.Atomic.{either}
use lib.ListN.{get_elem?}
use Rattle.atomic_table.proofs.Lists.{exchanged}
use Rattle.atomic_table.specs.Table.{State, step, keeps, Allows}
use Rattle.miss_handler.specs.declared.state.CallState.{CallState}
use Rattle.miss_handler.specs.declared.state.CallState.TheVariants.{Mono}
use Rattle.miss_handler.specs.States.{check, class_id, Reached}
use Rattle.cell_rule.specs.declared.words.Info.{Info}
use Rattle.cell_rule.specs.declared.words.Entry.{Entry}
use Rattle.cell_rule.specs.declared.view.Seen.TheVariants.{Head, Data}
use Rattle.cell_rule.specs.declared.view.View.{View}
use Rattle.list_members.specs.Members.{Has}
use Rattle.cell_rule.specs.Words.{data_word, target_word, check_word, entry_of}
use Rattle.cell_rule.specs.About.{About}
use Rattle.cell_rule.specs.Histories.{call, Known, Called, Moved}
use Rattle.cell_rule.specs.Rule.{head_at, data_at, check_at, Ruled}
use Rattle.cell_rule.specs.Told.{Sat, CheckSeen, opened, saw_head, saw_data, advanced, finished_with, saw_check, claimed, looked}
use Rattle.cell_rule.specs.Steps.{IsCurrent, OthersSeen, CallsIt, CachedSeen}
use Rattle.list_members.proofs.MemberFacts.{each_has}
use Rattle.cell_rule.proofs.Ruling.{looks}
use Rattle.cell_rule.proofs.Effects.{Done, opens_done, head_done, data_done, advance_done, finish_done, check_done, claim_done}

module _ (p : About) (slots id : ℕ) (me : Sat) where
  pub looks_keep : Allows (Ruled p) slots id me 0 (λ n. n) (looked p (step slots 0 0 0 none) me)
  looks_keep s r _ at _ = let ok = r.each_view id me.0 at in (
    me.0,
    keeps,
    tt,
    looks p s r id me at 0 me.0 record { seen = λ _ h. h; asked = λ _ h. h; share = refl } ok,
    (refl, (r.h, record { sound = r.sound; good = r.good; known = ok.known; explained = ok.explained })),
  )

  module _ (x c : ℕ) (l : x < p.sites) (some_share : 0 < me.0.share) where
    pub opens_keep : IsTrue ((p.at x).concrete c) → me.0.pending ≡ false → Allows (Ruled p) slots id me (head_at x) (λ n. n) (opened p x c (step slots (head_at x) 0 0 none) me)
    opens_keep concrete closed s r _ at _ = opens_done p s r id me at x l some_share c concrete closed

    pub head_keeps : Allows (Ruled p) slots id me (head_at x) (λ n. n) (saw_head p x c (step slots (head_at x) 0 0 none) me)
    head_keeps s r _ at _ = head_done p s r id me at x l some_share

    pub data_keeps : IsCurrent x c me.0 → Allows (Ruled p) slots id me (data_at x) (λ n. n) (saw_data p x c (step slots (data_at x) 0 0 none) me)
    data_keeps current s r _ at _ = data_done p s r id me at x l some_share c current.0 current.1

    pub advance_keeps : (k : ℕ) (i i' : Info) (e : Entry) → IsCurrent x c me.0 → Has (Head x k e) me.0.seen → Has (Data x k i) me.0.seen → Moved p x c i i' me.0.seen
        → Allows (Ruled p) slots id me (data_at x) (λ n. either (n == data_word k i) (data_word (k + 1) i') n) (advanced p x c (step slots (data_at x) (data_word k i) (data_word (k + 1) i') none) me)
    advance_keeps k i i' e current has_head has_data moved s r _ at _ =
        let n : ℕ = get_or s.words (data_at x) 0 in let old : ℕ = data_word k i in let new : ℕ = data_word (k + 1) i' in
        exchanged n old new (λ m. Done p s (data_at x) id me m (advanced p x c (step slots (data_at x) old new none) me n))
        (λ hit. let d = advance_done p s r id me at x l some_share c current.0 current.1 k i i' e has_head has_data moved hit in (d.0, d.1, d.2, d.3, (d.4.0, (λ _. d.4.1), λ not. absurd (not hit))))
        (λ miss. let d = data_done p s r id me at x l some_share c current.0 current.1 in (d.0, d.1, d.2, d.3, (d.4.0, (λ hit. absurd (miss hit)), λ _. d.4.1)))

    pub finish_keeps : (k : ℕ) (e : Entry) (i : Info) → Has (Head x k e) me.0.seen → Has (Data x (k + 1) i) me.0.seen
        → Allows (Ruled p) slots id me (head_at x) (λ n. either (n == target_word k e) (target_word (k + 1) (entry_of i)) n) (finished_with p x c (step slots (head_at x) (target_word k e) (target_word (k + 1) (entry_of i)) none) me)
    finish_keeps k e i has_head has_data s r _ at _ =
        let n : ℕ = get_or s.words (head_at x) 0 in let old : ℕ = target_word k e in let new : ℕ = target_word (k + 1) (entry_of i) in
        exchanged n old new (λ m. Done p s (head_at x) id me m (finished_with p x c (step slots (head_at x) old new none) me n))
        (λ hit. let d = finish_done p s r id me at x l some_share k e i has_head has_data hit in (d.0, d.1, d.2, d.3, (d.4.0, (λ _. d.4.1), λ not. absurd (not hit))))
        (λ miss. let d = head_done p s r id me at x l some_share in (d.0, d.1, d.2, d.3, (d.4.0, (λ hit. absurd (miss hit)), λ _. d.4.1)))

    module _ (i : ℕ) (lt : i < 4) where
      -- the place of a check is told by its word
      place : check_at x i - (6 * x + 3) ≡ i
      place = omega arith

      pub check_keeps : Allows (Ruled p) slots id me (check_at x i) (λ n. n) (saw_check p x c (step slots (check_at x i) 0 0 none) me)
      check_keeps = subst (λ (z : ℕ). Allows (Ruled p) slots id me (check_at x i) (λ n. n) (λ n m'. (m'.1 ≡ me.1) × CheckSeen p x z n me.0 m'.0)) (sym place)
          (λ s r _ at _. check_done p s r id me at x l some_share i lt)

      -- what a claim of the check `new` at the place z tells
      abbrev Claims : ℕ → ℕ → ℕ → Sat → Type 0
      Claims z new n m' = (m'.1 ≡ me.1) × (n ≡ 0 → CheckSeen p x z new me.0 m'.0) × (n ≢ 0 → CheckSeen p x z n me.0 m'.0)

      module _ (d : ℕ) (cached : CachedSeen x me.0) (calls : CallsIt x d me.0) (before : OthersSeen x d i me.0) where
        -- the class was called
        pub was_called : (s : State (Unit {0}) View) (r : Ruled p s) → get_elem? s.views id ≡ some me.0 → Called s.views x d
        was_called s r at = ⊎_elim (λ (z : IsCurrent x d me.0). (id, me.0, at, subst (Has (call x d)) (sym z.1) (inl refl)))
            (λ (z : (j : ℕ) × (e : Info) × Has (Data x j e) me.0.seen × (e.state ≡ Mono (class_id d))).
            (let known : Known p r.h (Data x z.0 z.1) = each_has (Known p r.h) me.0.seen (Data x z.0 z.1) z.2 (r.each_view id me.0 at).known in
            let is : ((r.h x).at z.0).state ≡ Mono (class_id d) = ap (λ (y : Info). y.state) (sym known.2) ∙ z.3 in
            (subst (λ (y : CallState). Reached (p.at x) z.0 y (Called s.views x)) is (r.reached x l z.0 known.1)).1)) calls

        claim_here : Allows (Ruled p) slots id me (check_at x i) (λ n. either (n == 0) (check_word (check d ((p.at x).resolve d))) n) (Claims i (check_word (check d ((p.at x).resolve d))))
        claim_here s r _ at _ =
            let n : ℕ = get_or s.words (check_at x i) 0 in let m : ℕ = check_word (check d ((p.at x).resolve d)) in
            exchanged n 0 m (λ q. Done p s (check_at x i) id me q (Claims i m n))
            (λ hit. let e = claim_done p s r id me at x l some_share i d cached.0 cached.1 lt (was_called s r at) cached.2 cached.3 before hit in (e.0, e.1, e.2, e.3, (e.4.0, (λ _. e.4.1), λ not. absurd (not hit))))
            (λ miss. let e = check_done p s r id me at x l some_share i lt in (e.0, e.1, e.2, e.3, (e.4.0, (λ hit. absurd (miss hit)), λ _. e.4.1)))

        pub claim_keeps : Allows (Ruled p) slots id me (check_at x i) (λ n. either (n == 0) (check_word (check d ((p.at x).resolve d))) n) (claimed p x c (step slots (check_at x i) 0 (check_word (check d ((p.at x).resolve d))) none) me)
        claim_keeps = subst (λ (z : ℕ). Allows (Ruled p) slots id me (check_at x i) (λ n. either (n == 0) (check_word (check d ((p.at x).resolve d))) n) (Claims z (check_word (check d ((p.at x).resolve d))))) (sym place) claim_here

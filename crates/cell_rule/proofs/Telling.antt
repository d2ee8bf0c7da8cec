-- From what a step tells of the number found to what it tells of its parts.
use Rattle.std.proofs.Common.{◌≡◌, ℕ, ◌+◌, ◌<◌, false, Option, Some, None, MatchOption, ◌∷◌, sym, refl, ap, ◌∙◌, subst, ⊎_elim, inl, inr, arith}
use native.Mathlib.Decide.{ℕ_discrete}
use mathlib.Core.Logic.{dite}
use Rattle.miss_handler.specs.declared.row.Check.{Check}
use Rattle.miss_handler.specs.States.{Explains}
use Rattle.cell_rule.specs.declared.words.Info.{Info}
use Rattle.cell_rule.specs.declared.words.Entry.{Entry}
use Rattle.cell_rule.specs.declared.view.Seen.{Seen}
use Rattle.cell_rule.specs.declared.view.Seen.TheVariants.{Head, Data, Set, Empty}
use Rattle.cell_rule.specs.declared.view.View.{View}
use Rattle.list_members.specs.Members.{Has}
use Rattle.cell_rule.specs.Words.{entry_of, data_word, target_word, check_word, DataFits, TargetFits, CheckFits, IsDataWord, IsTargetWord, IsCheckWord}
use Rattle.cell_rule.specs.About.{About}
use Rattle.cell_rule.specs.Histories.{Histories, Known}
use Rattle.cell_rule.specs.Told.{Learnt, sees, goes_on, HeadIs, DataIs, HeadSeen, DataSeen, Won, WonAs, CheckSeen}
use Rattle.cell_rule.specs.Steps.{Knows}
use Rattle.list_members.proofs.MemberFacts.{each_has}
use Rattle.cell_rule.proofs.Packs.{data_inj, entry_inj, check_inj, check_some}

module _ (p : About) (x : ℕ) where
  pub head_told : (n : ℕ) (next : Seen → View) (w : View) → HeadIs p x n next w → (k : ℕ) (e : Entry) → TargetFits k e → n ≡ target_word k e → HeadSeen p x k e next w
  head_told n next w h k e fits is = let same = entry_inj h.0 h.1 k e h.3.fits fits (sym h.2 ∙ is) in
      subst (λ (q : ℕ × Entry). HeadSeen p x q.0 q.1 next w) (λ j. (same.0 j, same.1 j)) h.3

  pub head_word : (n : ℕ) (next : Seen → View) (w : View) → HeadIs p x n next w → IsTargetWord n
  head_word n next w h = (h.0, h.1, h.3.fits, h.2)

  pub data_told : (c n : ℕ) (v w : View) → DataIs p x c n v w → (k : ℕ) (i : Info) → DataFits k i → n ≡ data_word k i → DataSeen p x c k i v w
  data_told c n v w h k i fits is = let same = data_inj h.0 h.1 k i h.3.fits fits (sym h.2 ∙ is) in
      subst (λ (q : ℕ × Info). DataSeen p x c q.0 q.1 v w) (λ j. (same.0 j, same.1 j)) h.3

  pub data_is_word : (c n : ℕ) (v w : View) → DataIs p x c n v w → IsDataWord n
  data_is_word c n v w h = (h.0, h.1, h.3.fits, h.2)

  -- what was seen before is known by the history that is told
  was_known : (h : Histories) (v w : View) (s e : Seen) → w.seen ≡ s ∷ v.seen → Learnt p h w → Has e v.seen → Known p h e
  was_known h v w s e is l has = each_has (Known p h) w.seen e (subst (Has e) (sym is) (inr has)) l.known

  now_known : (h : Histories) (v w : View) (s : Seen) → w.seen ≡ s ∷ v.seen → Learnt p h w → Known p h s
  now_known h v w s is l = each_has (Known p h) w.seen s (subst (Has s) (sym is) (inl refl)) l.known

  pub data_seen : (c k : ℕ) (i : Info) (v w : View) → DataSeen p x c k i v w → w.seen ≡ Data x k i ∷ v.seen
  data_seen c k i v w d = ⊎_elim (λ (t : (¬ Explains i.state c) × (w ≡ goes_on v (Data x k i))). ap (λ (z : View). z.seen) t.1)
      (λ (t : Explains i.state c × (w ≡ sees v (Data x k i) false)). ap (λ (z : View). z.seen) t.1) d.after

  -- another data word has a greater stamp
  pub data_rose : (c n k j : ℕ) (i i' : Info) (v w : View) → DataSeen p x c j i' v w → Has (Data x k i) v.seen → ¬ (n ≡ data_word k i) → n ≡ data_word j i' → k < j
  data_rose c n k j i i' v w d has other is =
      let seen_is = data_seen c j i' v w d in
      let known : Known p d.h (Data x k i) = was_known d.h v w (Data x j i') (Data x k i) seen_is d.learnt has in
      let now : Known p d.h (Data x j i') = now_known d.h v w (Data x j i') seen_is d.learnt in
      let a = known.1 in let b = d.present in
      dite (ℕ_discrete k j) (λ same. absurd (other (is ∙ (λ q. data_word (sym same q) ((now.2 ∙ (ap (d.h x).at (sym same) ∙ sym known.2)) q))))) (λ n. omega arith)

  pub head_rose : (n k j : ℕ) (e e' : Entry) (v w : View) → HeadSeen p x j e' (goes_on v) w → Has (Head x k e) v.seen → ¬ (n ≡ target_word k e) → n ≡ target_word j e' → k < j
  head_rose n k j e e' v w d has other is =
      let seen_is : w.seen ≡ Head x j e' ∷ v.seen = ap (λ (z : View). z.seen) d.after in
      let known : Known p d.h (Head x k e) = was_known d.h v w (Head x j e') (Head x k e) seen_is d.learnt has in
      let now : Known p d.h (Head x j e') = now_known d.h v w (Head x j e') seen_is d.learnt in
      let a = known.1 in let b = d.present in
      dite (ℕ_discrete k j) (λ same. absurd (other (is ∙ (λ q. target_word (sym same q) ((now.2 ∙ (ap (λ (z : ℕ). entry_of ((d.h x).at z)) (sym same) ∙ sym known.2)) q))))) (λ n. omega arith)

  pub won_told : (old new : ℕ) (v w : View) → WonAs p x old new v w → (k : ℕ) (i j : Info) → DataFits k i → DataFits (k + 1) j → old ≡ data_word k i → new ≡ data_word (k + 1) j → Won p x k i j v w
  won_told old new v w t k i j fits fits' is is' =
      let same = data_inj t.0 t.1 k i t.3 fits (sym t.5 ∙ is) in let same' = data_inj (t.0 + 1) t.2 (k + 1) j t.4 fits' (sym t.6 ∙ is') in
      subst (λ (q : ℕ × Info × Info). Won p x q.0 q.1 q.2 v w) (λ z. (same.0 z, same.1 z, same'.1 z)) t.7

  module _ (q n : ℕ) (v w : View) (l : CheckSeen p x q n v w) where
    -- what the check q can be
    abbrev Empties : Type 0
    Empties = (n ≡ 0) × (w ≡ goes_on v (Empty x q))

    abbrev Sets : Type 0
    Sets = (k : Check) × CheckFits k × (n ≡ check_word k) × (w ≡ goes_on v (Set x q k))

    pub check_empty : ¬ IsCheckWord n → n ≡ 0
    check_empty no_check = ⊎_elim (λ (y : Empties). y.0) (λ (y : Sets). absurd (no_check (y.0, y.1, y.2))) l.after

    pub check_told : (r : Option Check) → MatchOption r (¬ IsCheckWord n) (λ k. CheckFits k × (n ≡ check_word k))
        → Knows p w × MatchOption r (w ≡ goes_on v (Empty x q)) (λ k. w ≡ goes_on v (Set x q k))
    check_told None z = ((l.h, l.learnt), ⊎_elim (λ (y : Empties). y.1) (λ (y : Sets). absurd (z (y.0, y.1, y.2))) l.after)
    check_told (Some k) both = (
      (l.h, l.learnt),
      ⊎_elim (λ (y : Empties). absurd (check_some k (sym both.1 ∙ y.0)))
          (λ (y : Sets). let same = check_inj y.0 k y.1 both.0 (sym y.2 ∙ both.1) in y.3 ∙ ap (λ (z : Check). goes_on v (Set x q z)) same) l.after,
    )

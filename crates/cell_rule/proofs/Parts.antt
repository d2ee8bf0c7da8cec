-- The parts of the rule, one by one.
use Rattle.std.proofs.Common.{◌≡◌, ℕ, zero, suc, ◌<◌, ◌≤◌, List, [], ◌∷◌, length, sym, refl, ap, ◌∙◌, subst, arith}
use mathlib.Core.Option.{some}
use lib.ListN.{get_elem?}
use Rattle.atomic_table.specs.Table.{State}
use Rattle.miss_handler.specs.declared.row.Check.{Check}
use Rattle.miss_handler.specs.declared.state.CallState.{CallState}
use Rattle.miss_handler.specs.declared.state.CallState.TheVariants.{Mono}
use Rattle.miss_handler.specs.States.{class_id, Later, Reached}
use Rattle.cell_rule.specs.declared.words.Info.{Info}
use Rattle.cell_rule.specs.declared.view.Seen.{Seen}
use Rattle.cell_rule.specs.declared.view.Seen.TheVariants.{Head, Data, Set}
use Rattle.cell_rule.specs.declared.view.View.{View}
use Rattle.list_members.specs.Members.{Has}
use Rattle.cell_rule.specs.Words.{entry_of}
use Rattle.cell_rule.specs.About.{About}
use Rattle.cell_rule.specs.Histories.{Known, Explained, settled, call, Called}
use Rattle.cell_rule.specs.Rule.{row_word, Ruled}
use Rattle.cell_rule.specs.Parts.{Site, StartsWithZero, Packed, IsLawful, IsReached, IsFilled, IsSeen, IsExplained, Agrees, IsShown, IsShared, Listed}
use Rattle.list_members.proofs.MemberFacts.{each_has}
use Rattle.cell_rule.proofs.Rows.{word_at}
use Rattle.cell_rule.proofs.Effects.{info_fits, head_fits, concrete_called}

row_past : (row : List Check) (q : ℕ) → length row ≤ q → row_word row q ≡ 0
row_past [] q le = refl
row_past (k ∷ row) zero le = absurd (omega arith)
row_past (k ∷ row) (suc q) le = row_past row q (omega arith)

module _ (p : About) (s : State (Unit {0}) View) (r : Ruled p s) where
  pub starts_with_zero : StartsWithZero s
  starts_with_zero = r.first

  pub is_shared : IsShared s
  is_shared = record { total = r.shares; spent = λ j v e. (r.each_view j v e).spent }

  module _ (x : ℕ) (l : x < p.sites) where
    -- the present words, by the history
    pub now_of : Site
    now_of = let t = r.h x in record { low = t.low; entry = entry_of (t.at t.low); top = t.top; info = t.at t.top; row = t.row }

    pub packed : Packed p s x now_of
    unfolding now_of
    packed = let t = r.h x in let ok = r.good x l in record {
      head = (r.worded x l).head;
      head_fits = head_fits p s r x l t.low ok.behind;
      info = (r.worded x l).info;
      info_fits = info_fits p s r x l t.top (omega arith);
      checks = (r.worded x l).checks;
      neighbours = (ok.behind, ok.near);
      level = λ e. ap (λ (z : ℕ). entry_of (t.at z)) e;
    }

    pub is_lawful : IsLawful p s x now_of
    unfolding now_of
    is_lawful = (r.good x l).lawful

    pub is_reached : IsReached p s x now_of
    unfolding now_of
    is_reached = record { reached = r.reached x l (r.h x).top (omega arith); concrete = concrete_called p s r x l }

    pub is_filled : IsFilled p s x now_of
    unfolding now_of
    is_filled = record {
      front = λ q le lt. (r.worded x l).checks q lt ∙ row_past (r.h x).row q le;
      called = r.checked x l;
      over = r.over x l;
    }

    pub is_shown : IsShown p s x now_of
    unfolding now_of
    is_shown = r.shown x l

    module _ (j : ℕ) (v : View) (at : get_elem? s.views j ≡ some v) where
      seen : (e : Seen) → Has e v.seen → Known p r.h e
      seen e has = each_has (Known p r.h) v.seen e has (r.each_view j v at).known

      pub is_seen : IsSeen p s x now_of v
      unfolding now_of
      is_seen = let t = r.h x in record {
        heads = λ k e has. let n : Known p r.h (Head x k e) = seen (Head x k e) has in (n.1, λ same. n.2 ∙ ap (λ (z : ℕ). entry_of (t.at z)) same);
        infos = λ k i has. let n : Known p r.h (Data x k i) = seen (Data x k i) has in (n.1, λ same. n.2 ∙ ap t.at same);
        level = λ i has. let n : Known p r.h (Data x t.low i) = seen (Data x t.low i) has in ap entry_of (sym n.2);
        later = λ k i has. let n : Known p r.h (Data x k i) = seen (Data x k i) has in
            subst (λ (z : Info). Later z.state (t.at t.top).state) (sym n.2) ((r.good x l).rising k t.top n.1 (omega arith));
        checks = λ q k lt has. let n : Known p r.h (Set x q k) = seen (Set x q k) has in (r.worded x l).checks q lt ∙ word_at t.row q k n.1;
      }

      pub is_explained : IsExplained p s x now_of v
      unfolding now_of
      is_explained = let t = r.h x in record {
        calls = λ c has. each_has (Explained r.h) (settled v.pending v.asked) (call x c) has (r.each_view j v at).explained;
        pairs = λ k e i has has'. let n : Known p r.h (Head x k e) = seen (Head x k e) has in let m : Known p r.h (Data x k i) = seen (Data x k i) has' in n.2 ∙ ap entry_of (sym m.2);
        targets = λ k i has. let n : Known p r.h (Data x k i) = seen (Data x k i) has in
            subst (λ (z : Info). z.target ≡ Rattle.cell_rule.specs.About.state_target (p.at x) z.state) (sym n.2) ((r.good x l).infos k n.1).target;
        monos = λ k a i has is. let n : Known p r.h (Data x k i) = seen (Data x k i) has in
            let mono : (t.at k).state ≡ Mono (class_id a) = ap (λ (z : Info). z.state) (sym n.2) ∙ is in
            (subst (λ (z : CallState). Reached (p.at x) k z (Called s.views x)) mono (r.reached x l k n.1)).1;
      }

      pub agrees : (j' : ℕ) (w : View) → get_elem? s.views j' ≡ some w → Agrees p s x now_of v w
      agrees j' w at' k m i i' has has' le =
          let n : Known p r.h (Data x k i) = seen (Data x k i) has in
          let o : Known p r.h (Data x m i') = each_has (Known p r.h) w.seen (Data x m i') has' (r.each_view j' w at').known in
          (subst (λ (z : Info × Info). Later z.0.state z.1.state) (λ q. (sym n.2 q, sym o.2 q)) ((r.good x l).rising k m le o.1), λ same. n.2 ∙ (ap (r.h x).at same ∙ sym o.2))

    pub listed : Listed p s x
    listed = record {
      now = now_of;
      packed = packed;
      lawful = is_lawful;
      reached = is_reached;
      filled = is_filled;
      seen = is_seen;
      explained = is_explained;
      agree = λ j k v w at at'. agrees j v at k w at';
      shown = is_shown;
    }

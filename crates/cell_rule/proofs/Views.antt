-- Seats that are cut in two and put together, and the first one, keep the rule.
use Rattle.std.proofs.Common.{◌≡◌, ℕ, zero, suc, ◌+◌, ◌*◌, ◌<◌, ◌≤◌, false, List, [], ◌∷◌, ◌++◌, set, get_or, sum_by, sym, refl, ap, ◌∙◌, subst, arith, replicate}
use Rattle.std.proofs.lemmas.List.Sums.{sum_by_push}
use Rattle.std.proofs.lemmas.List.Elements.{All-nil}
use mathlib.Core.Logic.{dite}
use mathlib.Core.Option.{some, some-injective, some-ne-none}
use native.Mathlib.Decide.{ℕ_discrete}
use lib.ListN.{get_elem?, length-replicate}
use Rattle.atomic_table.proofs.Lists.{set_else}
use Rattle.atomic_table.specs.Table.{State, Splits, Joins, opening}
use Rattle.view_sums.proofs.Sums.{sum-set, here-set}
use Rattle.miss_handler.specs.declared.state.CallState.TheVariants.{Unlinked}
use Rattle.miss_handler.specs.States.{IsRight, IsCachedOrMega}
use Rattle.miss_handler.proofs.Moves.{reached_more}
use Rattle.cell_rule.specs.declared.view.Seen.{Seen}
use Rattle.cell_rule.specs.declared.view.Seen.TheVariants.{Data}
use Rattle.cell_rule.specs.declared.view.View.{View}
use Rattle.list_members.specs.Members.{Each, Has}
use Rattle.cell_rule.specs.Words.{info, no_target, data_word, target_word}
use Rattle.cell_rule.specs.About.{About, Sound}
use Rattle.cell_rule.specs.Histories.{History, Known, Explained, InRange, settled, call, Called}
use Rattle.cell_rule.specs.Rule.{head_at, data_at, check_at, share, IsView, Ruled}
use Rattle.cell_rule.specs.Told.{newcomer, kept, given, joined, spent}
use Rattle.list_members.proofs.MemberFacts.{each_map, each_append, has_left, has_right}
use Rattle.cell_rule.proofs.Growth.{InSome, in_set, in_snoc, each_set, each_snoc}

module _ (p : About) where
  -- a change of views alone
  reviews : (s : State (Unit {0}) View) (r : Ruled p s) (views : List View) → ((x c : ℕ) → Called s.views x c → Called views x c)
      → ((e : Seen) → InSome (λ v. Has e v.seen) s.views → InSome (λ v. Has e v.seen) views)
      → ((j : ℕ) (v : View) → get_elem? views j ≡ some v → IsView p r.h v) → sum_by share views ≡ 65536 → Ruled p record { words = s.words; homes = s.homes; views = views }
  reviews s r views called shown each shares = record {
    h = r.h;
    sound = r.sound;
    size = r.size;
    first = r.first;
    worded = r.worded;
    good = r.good;
    reached = λ x l k le. reached_more (p.at x) k ((r.h x).at k).state (Called s.views x) (Called views x) (called x) (r.reached x l k le);
    checked = λ x l. each_map (λ k. Called s.views x k.class.0) (λ k. Called views x k.class.0) (r.h x).row (λ k. called x k.class.0) (r.checked x l);
    over = λ x l m. let o = r.over x l m in (o.0, called x o.0 o.1, o.2);
    shown = λ x l ahead. shown (Data x (r.h x).top ((r.h x).at (r.h x).top)) (r.shown x l ahead);
    each_view = each;
    shares = shares;
  }

  pub splits_keep : (id : ℕ) (v : View) → 2 ≤ v.share → Splits (Ruled p) id v (kept v) (given v)
  splits_keep id v two s r at =
      let a : View = kept v in let b : View = given v in let mid : List View = set s.views id a in let ok = r.each_view id v at in let is = r.shares in
      reviews s r (mid ++ b ∷ [])
      (λ x c h. in_snoc (λ u. Has (call x c) u.asked) mid b (in_set (λ u. Has (call x c) u.asked) s.views id v a at (λ z. z) h))
      (λ e h. in_snoc (λ u. Has e u.seen) mid b (in_set (λ u. Has e u.seen) s.views id v a at (λ z. z) h))
      (each_snoc (IsView p r.h) mid b record { known = ok.known; in_range = tt; explained = tt; spent = λ z. absurd (omega arith) }
      (each_set (IsView p r.h) s.views id a record { known = ok.known; in_range = ok.in_range; explained = ok.explained; spent = λ z. absurd (omega arith) } r.each_view))
      (omega (arith, sum_by_push share mid b, sum-set share s.views id v a at))

  -- what stands in v or in w stands in `both`
  in_joined : (P : View → Type 0) (views : List View) (id : ℕ) (v : View) (other : ℕ) (w both spent : View) → get_elem? views id ≡ some v → ¬ (other ≡ id) → get_elem? (set views id both) other ≡ some w
      → (P v → P both) → (P w → P both) → InSome P views → InSome P (set (set views id both) other spent)
  in_joined P views id v other w both spent at apart there keep take h =
      let mid : List View = set views id both in let m : InSome P mid = in_set P views id v both at keep h in
      let mine : get_elem? (set mid other spent) id ≡ some both = set_else mid other id spent (λ e. apart (sym e)) ∙ here-set views id v both at in
      dite (ℕ_discrete m.0 other)
      (λ e. (id, both, mine, take (subst P (some-injective m.1 w (sym m.2 ∙ (ap (get_elem? mid) e ∙ there))) m.3)))
      (λ n. (m.0, m.1, set_else mid other m.0 spent n ∙ m.2, m.3))

  pub joins_keep : (id : ℕ) (v : View) (other : ℕ) (w : View) → 0 < v.share → v.pending ≡ false → w.pending ≡ false → Joins (Ruled p) id v other w (joined v w) spent
  joins_keep id v other w some_share closed closed' s r at apart there =
      let a : View = joined v w in let b : View = spent in let mid : List View = set s.views id a in let ok = r.each_view id v at in let is = r.shares in
      let was : get_elem? s.views other ≡ some w = sym (set_else s.views id other a apart) ∙ there in let ok' = r.each_view other w was in
      let e : Each (Explained r.h) v.asked = subst (λ z. Each (Explained r.h) (settled z v.asked)) closed ok.explained in
      let e' : Each (Explained r.h) w.asked = subst (λ z. Each (Explained r.h) (settled z w.asked)) closed' ok'.explained in
      reviews s r (set mid other b)
      (λ x c. in_joined (λ u. Has (call x c) u.asked) s.views id v other w a b at apart there (has_left v.asked w.asked (call x c)) (has_right v.asked w.asked (call x c)))
      (λ z. in_joined (λ u. Has z u.seen) s.views id v other w a b at apart there (has_left v.seen w.seen z) (has_right v.seen w.seen z))
      (each_set (IsView p r.h) mid other b record { known = tt; in_range = tt; explained = tt; spent = λ _. (refl, refl) }
      (each_set (IsView p r.h) s.views id a
      record { known = each_append (Known p r.h) v.seen w.seen ok.known ok'.known; in_range = each_append (InRange p) v.asked w.asked ok.in_range ok'.in_range; explained = each_append (Explained r.h) v.asked w.asked e e'; spent = λ z. absurd (omega arith) }
      r.each_view))
      (omega (arith, sum-set share mid other w b there, sum-set share s.views id v a at))

  zeros : (n i : ℕ) → get_or {A = ℕ} (replicate n 0) i 0 ≡ 0
  zeros zero i = refl
  zeros (suc n) zero = refl
  zeros (suc n) (suc i) = zeros n i

  -- an unlinked site
  blank : History
  blank = record { top = 0; low = 0; at = λ _. info Unlinked no_target; row = [] }

  at_only : (a : View) (i : ℕ) (b : View) → get_elem? (a ∷ []) i ≡ some b → a ≡ b
  at_only a zero b e = some-injective a b e
  at_only a (suc i) b e = absurd (some-ne-none b (sym e))

  -- the rule holds of words that are all 0
  pub starts : (n : ℕ) → Sound p → n ≡ 6 * p.sites + 1 → Ruled p (opening (replicate n 0) [] newcomer)
  unfolding blank data_word target_word
  starts n sound size =
      let zero_at : (i : ℕ) → get_or {A = ℕ} (replicate n 0) i 0 ≡ 0 = zeros n in record {
        h = λ _. blank;
        sound = sound;
        size = length-replicate n 0 ∙ size;
        first = zero_at 0;
        worded = λ x l. record { head = zero_at (head_at x); info = zero_at (data_at x); checks = λ i lt. zero_at (check_at x i) };
        good = λ x l. record {
          behind = omega arith;
          near = omega arith;
          few = omega arith;
          infos = λ k le. record { state = tt; target = refl; small = omega arith };
          lawful = record { named = tt; right = All-nil (IsRight (p.at x)); differ = tt; size = refl };
          rising = λ j k le h. tt;
        };
        reached = λ x l k le. let z : k ≡ 0 = omega arith in z;
        checked = λ x l. tt;
        over = λ x l m. absurd (subst IsCachedOrMega (sym m) tt);
        shown = λ x l ahead. absurd (omega arith);
        each_view = λ j v e. subst (IsView p (λ _. blank)) (at_only newcomer j v e) record { known = tt; in_range = tt; explained = tt; spent = λ z. absurd (omega arith) };
        shares = refl;
      }

-- Each step keeps the rule.
use Rattle.std.proofs.Common.{◌≡◌, ◌≢◌, ℕ, ◌<◌, ◌≤◌, List, set, get_or, sum_by, sym, ◌∙◌, subst, arith, length-set, get_or-set_other}
use mathlib.Core.Option.{some}
use lib.ListN.{get_elem?}
use lib.Seq.{set-get_or}
use Rattle.atomic_table.specs.Table.{State, keeps, stepped}
use Rattle.view_sums.proofs.Sums.{sum-set}
use Rattle.miss_handler.specs.States.{Reached}
use Rattle.miss_handler.proofs.Moves.{reached_more}
use Rattle.cell_rule.specs.declared.view.Seen.{Seen}
use Rattle.cell_rule.specs.declared.view.Seen.TheVariants.{Data}
use Rattle.cell_rule.specs.declared.view.Asked.{Asked}
use Rattle.cell_rule.specs.declared.view.View.{View}
use Rattle.list_members.specs.Members.{Each, Has}
use Rattle.cell_rule.specs.About.{About}
use Rattle.cell_rule.specs.Histories.{History, Histories, IsHistory, call, Called}
use Rattle.cell_rule.specs.Rule.{head_at, data_at, check_at, share, Worded, IsView, Shown, Over, Ruled}
use Rattle.cell_rule.specs.Told.{Sat}
use Rattle.list_members.proofs.MemberFacts.{each_map}
use Rattle.cell_rule.proofs.Rows.{inside}
use Rattle.cell_rule.proofs.Growth.{put, put_all, Grown, grown-refl, view_grows, in_set, each_set}

module _ (p : About) where
  abbrev St : Type 0
  St = State (Unit {0}) View

  -- the same rule, after a step of one seat
  module _ (s : St) (r : Ruled p s) (id : ℕ) (me : Sat) (at : get_elem? s.views id ≡ some me.0) where
    -- `w` has seen what the view has, and has asked what it has
    pub record Wider (w : View) : Type 0 where
      pub seen : (e : Seen) → Has e me.0.seen → Has e w.seen
      pub asked : (a : Asked) → Has a me.0.asked → Has a w.asked
      pub share : w.share ≡ me.0.share

    pub called : (w : View) → Wider w → (x c : ℕ) → Called s.views x c → Called (set s.views id w) x c
    called w wider x c = in_set (λ v. Has (call x c) v.asked) s.views id me.0 w at (wider.asked (call x c))

    pub reached_after : (w : View) → Wider w → (x : ℕ) → x < p.sites → (k : ℕ) → k ≤ (r.h x).top → Reached (p.at x) k ((r.h x).at k).state (Called (set s.views id w) x)
    reached_after w wider x l k le = reached_more (p.at x) k ((r.h x).at k).state (Called s.views x) (Called (set s.views id w) x) (called w wider x) (r.reached x l k le)

    pub checked_after : (w : View) → Wider w → (x : ℕ) → x < p.sites → Each (λ k. Called (set s.views id w) x k.class.0) (r.h x).row
    checked_after w wider x l = each_map (λ k. Called s.views x k.class.0) (λ k. Called (set s.views id w) x k.class.0) (r.h x).row (λ k. called w wider x k.class.0) (r.checked x l)

    pub over_after : (w : View) → Wider w → (x : ℕ) → x < p.sites → Over (set s.views id w) (r.h x) x
    over_after w wider x l m = let o = r.over x l m in (o.0, called w wider x o.0 o.1, o.2)

    pub shown_after : (w : View) → Wider w → (x : ℕ) → x < p.sites → Shown (set s.views id w) (r.h x) x
    shown_after w wider x l ahead =
        let e : Seen = Data x (r.h x).top ((r.h x).at (r.h x).top) in in_set (λ v. Has e v.seen) s.views id me.0 w at (wider.seen e) (r.shown x l ahead)

    shares_stay : (w : View) → Wider w → sum_by share (set s.views id w) ≡ 65536
    shares_stay w wider = let a = sum-set share s.views id me.0 w at in let b = r.shares in let c = wider.share in omega arith

    -- a step that changes no word
    pub looks : (i : ℕ) (w : View) → Wider w → IsView p r.h w → Ruled p (stepped s i (get_or s.words i 0) id me.1 w keeps)
    looks i w wider ok = subst (λ (ws : List ℕ). Ruled p record { words = ws; homes = s.homes; views = set s.views id w }) (sym (set-get_or s.words i 0)) record {
      h = r.h;
      sound = r.sound;
      size = r.size;
      first = r.first;
      worded = r.worded;
      good = r.good;
      reached = reached_after w wider;
      checked = checked_after w wider;
      over = over_after w wider;
      shown = shown_after w wider;
      each_view = each_set (IsView p r.h) s.views id w ok r.each_view;
      shares = shares_stay w wider;
    }

    -- a step that changes a word of the site q, whose history becomes t
    pub turns : (q i n : ℕ) (t : History) (w : View) → q < p.sites → Wider w → Grown (r.h q) t → IsHistory p q t → 0 ≢ i → Worded t q (set s.words i n)
        → ((x : ℕ) → x ≢ q → (head_at x ≢ i) × (data_at x ≢ i) × ((j : ℕ) → j < 4 → check_at x j ≢ i))
        → ((k : ℕ) → k ≤ t.top → Reached (p.at q) k (t.at k).state (Called (set s.views id w) q))
        → Each (λ k. Called (set s.views id w) q k.class.0) t.row → Over (set s.views id w) t q
        → Shown (set s.views id w) t q → IsView p (put r.h q t) w → Ruled p (stepped s i n id me.1 w keeps)
    turns q i n t w inside wider grown ok behind worded apart reached checked over shown mine =
        let h' : Histories = put r.h q t in let grows : (x : ℕ) → Grown (r.h x) (h' x) = put_all (λ x z. Grown (r.h x) z) r.h q t grown (λ x _. grown-refl (r.h x)) in record {
          h = h';
          sound = r.sound;
          size = length-set s.words i n ∙ r.size;
          first = get_or-set_other s.words i 0 n 0 behind ∙ r.first;
          worded = put_all (λ x z. x < p.sites → Worded z x (set s.words i n)) r.h q t (λ _. worded) (λ x other l. let o = r.worded x l in record {
            head = get_or-set_other s.words i (head_at x) n 0 (apart x other).0 ∙ o.head;
            info = get_or-set_other s.words i (data_at x) n 0 (apart x other).1 ∙ o.info;
            checks = λ j k. get_or-set_other s.words i (check_at x j) n 0 ((apart x other).2 j k) ∙ o.checks j k;
          });
          good = put_all (λ x z. x < p.sites → IsHistory p x z) r.h q t (λ _. ok) (λ x _. r.good x);
          reached = put_all (λ x z. x < p.sites → (k : ℕ) → k ≤ z.top → Reached (p.at x) k (z.at k).state (Called (set s.views id w) x)) r.h q t (λ _. reached) (λ x _. reached_after w wider x);
          checked = put_all (λ x z. x < p.sites → Each (λ k. Called (set s.views id w) x k.class.0) z.row) r.h q t (λ _. checked) (λ x _. checked_after w wider x);
          over = put_all (λ x z. x < p.sites → Over (set s.views id w) z x) r.h q t (λ _. over) (λ x _. over_after w wider x);
          shown = put_all (λ x z. x < p.sites → Shown (set s.views id w) z x) r.h q t (λ _. shown) (λ x _. shown_after w wider x);
          each_view = each_set (IsView p h') s.views id w mine (λ j v e. view_grows p r.h h' r.good grows v (r.each_view j v e));
          shares = shares_stay w wider;
        }

-- The pass that has every share knows all.
use Rattle.std.proofs.Common.{◌≡◌, ◌≢◌, ℕ, ◌<◌, ◌≤◌, ◌==◌, max, cond, false, List, [], ◌∷◌, ◌++◌, sym, refl, ap, ◌∙◌, subst, ⊎_elim, arith}
use Rattle.std.proofs.lemmas.Bool.{eq-eqb}
use Rattle.std.proofs.lemmas.Bool.Decides.{nat_tests}
use mathlib.Core.Logic.{dite}
use mathlib.Core.Option.{some, some-injective}
use native.Mathlib.Decide.{ℕ_discrete, dec_le}
use lib.ListN.{get_elem?}
use Rattle.atomic_table.specs.Table.{State}
use Rattle.view_sums.proofs.Sums.{sum-two}
use Rattle.miss_handler.specs.States.{Later}
use Rattle.miss_handler.proofs.Moves.{reached_more}
use Rattle.cell_rule.specs.declared.words.Info.{Info}
use Rattle.cell_rule.specs.declared.words.Entry.{Entry}
use Rattle.cell_rule.specs.declared.view.Seen.{Seen}
use Rattle.cell_rule.specs.declared.view.Seen.TheVariants.{Head, Data, Set, Empty}
use Rattle.cell_rule.specs.declared.view.View.{View}
use Rattle.list_members.specs.Members.{Each, Has}
use Rattle.cell_rule.specs.About.{About}
use Rattle.cell_rule.specs.Histories.{Histories, present, Known, Explained, settled, call, Called}
use Rattle.cell_rule.specs.Rule.{share, Worded, Ruled}
use Rattle.cell_rule.specs.Stamps.{head_part, data_part, head_stamp, data_stamp, Settled}
use Rattle.cell_rule.specs.Told.{Learnt}
use Rattle.cell_rule.specs.Steps.{Coherent, EndsAs}
use Rattle.list_members.proofs.MemberFacts.{each_has}
use Rattle.cell_rule.proofs.Growth.{InSome}

-- what was seen is known
pub known_of : (p : About) (h : Histories) (v : View) → Learnt p h v → (e : Seen) → Has e v.seen → Known p h e
known_of p h v l e has = each_has (Known p h) v.seen e has l.known

-- of two data words seen at one site, the one with the less stamp is at or before the other
pub coheres : (p : About) (h : Histories) (v : View) → Learnt p h v → Coherent v.seen
coheres p h v l x k k' i i' a b le =
    let n : Known p h (Data x k i) = known_of p h v l (Data x k i) a in let m : Known p h (Data x k' i') = known_of p h v l (Data x k' i') b in
    subst (λ (z : Info × Info). Later z.0.state z.1.state) (λ j. (sym n.2 j, sym m.2 j)) ((l.good x n.0).rising k k' le m.1)

part_has : (x k : ℕ) → cond {A = ℕ} (x == x) k 0 ≡ k
part_has x k = ap (λ b. cond {A = ℕ} b k 0) (eq-eqb x x refl)

-- a stamp seen is at most the greatest one
pub head_has : (x k : ℕ) (e : Entry) (l : List Seen) → Has (Head x k e) l → k ≤ head_stamp x l
head_has x k e [] h = absurd h
head_has x k e (s ∷ l) h = ⊎_elim (λ (q : Head x k e ≡ s). let a = ap (head_part x) q in let b = part_has x k in omega arith) (λ (q : Has (Head x k e) l). let r = head_has x k e l q in omega arith) h

pub data_has : (x k : ℕ) (i : Info) (l : List Seen) → Has (Data x k i) l → k ≤ data_stamp x l
data_has x k i [] h = absurd h
data_has x k i (s ∷ l) h = ⊎_elim (λ (q : Data x k i ≡ s). let a = ap (data_part x) q in let b = part_has x k in omega arith) (λ (q : Has (Data x k i) l). let r = data_has x k i l q in omega arith) h

part_below : (y x k n : ℕ) → (y ≡ x → k ≤ n) → cond {A = ℕ} (y == x) k 0 ≤ n
part_below y x k n h = grind (arith, nat_tests)

data_below : (p : About) (h : Histories) (x : ℕ) (s : Seen) → Known p h s → data_part x s ≤ (h x).top
data_below p h x (Head y k e) n = omega arith
data_below p h x (Set y q k) n = omega arith
data_below p h x (Empty y q) n = omega arith
data_below p h x (Data y k i) n = part_below y x k (h x).top (λ e. subst (λ (z : ℕ). k ≤ (h z).top) e n.1)

-- the greatest stamp seen is at most the present one
pub data_known : (p : About) (h : Histories) (x : ℕ) (l : List Seen) → Each (Known p h) l → data_stamp x l ≤ (h x).top
data_known p h x [] e = omega arith
data_known p h x (s ∷ l) e = let a = data_below p h x s e.0 in let b = data_known p h x l e.1 in omega arith

head_below : (p : About) (h : Histories) (x : ℕ) (s : Seen) → Known p h s → head_part x s ≤ (h x).low
head_below p h x (Head y k e) n = part_below y x k (h x).low (λ e. subst (λ (z : ℕ). k ≤ (h z).low) e n.1)
head_below p h x (Data y k i) n = omega arith
head_below p h x (Set y q k) n = omega arith
head_below p h x (Empty y q) n = omega arith

pub head_known : (p : About) (h : Histories) (x : ℕ) (l : List Seen) → Each (Known p h) l → head_stamp x l ≤ (h x).low
head_known p h x [] e = omega arith
head_known p h x (s ∷ l) e = let a = head_below p h x s e.0 in let b = head_known p h x l e.1 in omega arith

module _ (p : About) (s : State (Unit {0}) View) (r : Ruled p s) (id : ℕ) (v : View) (at : get_elem? s.views id ≡ some v) (whole : v.share ≡ 65536) where
  -- what stands in some view stands in this one
  only_here : (P : View → Type 0) → ((w : View) → w.seen ≡ [] → w.asked ≡ [] → ¬ P w) → InSome P s.views → P v
  only_here P none m = dite (ℕ_discrete m.0 id) (λ (e : m.0 ≡ id). subst P (some-injective m.1 v (sym m.2 ∙ (ap (get_elem? s.views) e ∙ at))) m.3)
      (λ (n : m.0 ≢ id). let two = sum-two share s.views id m.0 v m.1 at m.2 n in let all = r.shares in let empty = (r.each_view m.0 m.1 m.2).spent (omega arith) in absurd (none m.1 empty.0 empty.1 m.3))

  called_here : (x c : ℕ) → Called s.views x c → Called (v ∷ []) x c
  called_here x c m = (0, v, refl, only_here (λ w. Has (call x c) w.asked) (λ w _ e has. subst (Has (call x c)) e has) m)

  level_at : Settled v.seen → (x : ℕ) → x < p.sites → Dec ((r.h x).top ≤ (r.h x).low) → (r.h x).low ≡ (r.h x).top
  level_at even x l (yes le) = let a = (r.good x l).behind in omega arith
  level_at even x l (no n) =
      let t = r.h x in let e : Seen = Data x t.top (t.at t.top) in let shown : InSome (λ w. Has e w.seen) s.views = r.shown x l (omega arith) in
      let has : Has e v.seen = only_here (λ w. Has e w.seen) (λ w is _ has. subst (Has e) is has) shown in
      let a = data_has x t.top (t.at t.top) v.seen has in let b = even x in let c = head_known p r.h x v.seen (r.each_view id v at).known in absurd (omega arith)

  pub ends : v.pending ≡ false → Settled v.seen → (words : List ℕ) → s.words ≡ words → EndsAs p v words
  ends closed even words is = let ok = r.each_view id v at in record {
    h = r.h;
    good = r.good;
    worded = λ x l. subst (Worded (r.h x) x) is (r.worded x l);
    level = λ x l. level_at even x l (dec_le (r.h x).top (r.h x).low);
    known = ok.known;
    explained = subst (λ b. Each (Explained r.h) (settled b v.asked)) closed ok.explained;
    reached = λ x l. reached_more (p.at x) (r.h x).top (present (r.h x)) (Called s.views x) (Called (v ∷ []) x) (called_here x) (r.reached x l (r.h x).top (omega arith));
  }

data_append : (x : ℕ) (a b : List Seen) → data_stamp x (a ++ b) ≡ max (data_stamp x a) (data_stamp x b)
data_append x [] b = omega arith
data_append x (s ∷ l) b = let r = data_append x l b in omega arith

head_append : (x : ℕ) (a b : List Seen) → head_stamp x (a ++ b) ≡ max (head_stamp x a) (head_stamp x b)
head_append x [] b = omega arith
head_append x (s ∷ l) b = let r = head_append x l b in omega arith

-- two settled passes are settled together
pub settled_append : (a b : List Seen) → Settled a → Settled b → Settled (a ++ b)
settled_append a b s t x = let p = s x in let q = t x in let d = data_append x a b in let h = head_append x a b in omega arith

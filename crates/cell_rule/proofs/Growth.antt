-- What was seen stays true while histories grow, and what stands in some view still stands there.
use Rattle.std.proofs.Common.{◌≡◌, ◌≢◌, ℕ, ◌+◌, ◌<◌, ◌≤◌, List, [], ◌∷◌, ◌++◌, set, sym, refl, ap, ◌∙◌, subst, ⊎_elim, arith}
use mathlib.Core.Option.{some, some-injective}
use native.Mathlib.Decide.{ℕ_discrete}
use lib.ListN.{get_elem?}
use Rattle.atomic_table.proofs.Lists.{at_set, set_else, at_longer, at_snoc}
use Rattle.view_sums.proofs.Sums.{here-set}
use Rattle.program.specs.declared.numbered.Target.{Target}
use Rattle.miss_handler.specs.declared.row.Check.{Check}
use Rattle.miss_handler.specs.declared.state.CallState.{CallState}
use Rattle.miss_handler.specs.declared.state.CallState.TheVariants.{Unlinked, Mono, Single, Cached, Mega}
use Rattle.miss_handler.specs.States.{LawfulState, Later, Move}
use Rattle.miss_handler.proofs.Orders.{later-refl, explains_later, later_trans}
use Rattle.miss_handler.proofs.Moves.{move_later}
use Rattle.cell_rule.specs.declared.words.Info.{Info}
use Rattle.cell_rule.specs.declared.view.Seen.{Seen}
use Rattle.cell_rule.specs.declared.view.Seen.TheVariants.{Head, Data, Set, Empty}
use Rattle.cell_rule.specs.declared.view.Asked.{Asked}
use Rattle.cell_rule.specs.declared.view.View.{View}
use Rattle.cell_rule.specs.Words.{IsSmall, no_target, StateFits, DataFits, TargetFits, entry_of, entry_at}
use Rattle.cell_rule.specs.About.{About, Sound, state_target, LawfulInfo}
use Rattle.cell_rule.specs.Histories.{History, Histories, IsHistory, present, Good, Known, Explained, settled}
use Rattle.cell_rule.specs.Rule.{IsView}
use Rattle.list_members.proofs.MemberFacts.{each_map}
use Rattle.cell_rule.proofs.Rows.{moved_lawful}

abbrev pub pick : {A P : Type 0} → Dec P → A → A → A
pick (yes _) a b = a
pick (no _) a b = b

-- a function with one value changed
abbrev pub put : {A : Type 0} → (ℕ → A) → ℕ → A → ℕ → A
put f q a j = pick (ℕ_discrete j q) a (f j)

module _ {A : Type 0} (f : ℕ → A) (q : ℕ) (a : A) where
  picked : (j : ℕ) (d : Dec (j ≡ q)) → j ≡ q → pick d a (f j) ≡ a
  picked j (yes _) e = refl
  picked j (no n) e = absurd (n e)

  passed : (j : ℕ) (d : Dec (j ≡ q)) → j ≢ q → pick d a (f j) ≡ f j
  passed j (yes e) n = absurd (n e)
  passed j (no _) n = refl

  pub put_here : put f q a q ≡ a
  put_here = picked q (ℕ_discrete q q) refl

  pub put_else : (j : ℕ) → j ≢ q → put f q a j ≡ f j
  put_else j n = passed j (ℕ_discrete j q) n

-- what holds of the new value at q, and of each other value, holds of all
pub put_all : {A : Type 0} (P : ℕ → A → Type 0) (f : ℕ → A) (q : ℕ) (a : A) → P q a → ((j : ℕ) → j ≢ q → P j (f j)) → (j : ℕ) → P j (put f q a j)
put_all {A} P f q a here others j = by_place (ℕ_discrete j q)
  where
    by_place : (d : Dec (j ≡ q)) → P j (pick d a (f j))
    by_place (yes e) = subst (λ (k : ℕ). P k a) (sym e) here
    by_place (no n) = others j n

-- ---- words fit

module _ (p : About) (sound : Sound p) (x : ℕ) where
  state_fits : (s : CallState) (t : Target) → LawfulState (p.at x) s → t ≡ state_target (p.at x) s → StateFits s t
  state_fits Unlinked t l e = e
  state_fits (Mono a) t l e = let few = sound.few_classes in let same = sound.same x in omega arith
  state_fits (Single lo hi own) t l e = let few = sound.few_classes in let same = sound.same x in let a = l.0 in let b = l.1 in (omega arith, omega arith, e)
  state_fits Cached t l e = e
  state_fits Mega t l e = e

  pub data_fits : (k : ℕ) (i : Info) → k < 65536 → LawfulInfo (p.at x) i → DataFits k i
  data_fits k i small l = record { stamp = small; state = state_fits i.state i.target l.state l.target; target = l.small }

  none_small : IsSmall no_target
  none_small = omega arith

  entry_fits_at : (k : ℕ) (s : CallState) (t : Target) → k < 65536 → IsSmall t → TargetFits k (entry_at s t)
  entry_fits_at k Unlinked t small l = record { stamp = small; stub = refl; target = none_small }
  entry_fits_at k (Mono a) t small l = record { stamp = small; stub = tt; target = l }
  entry_fits_at k (Single lo hi own) t small l = record { stamp = small; stub = refl; target = none_small }
  entry_fits_at k Cached t small l = record { stamp = small; stub = refl; target = none_small }
  entry_fits_at k Mega t small l = record { stamp = small; stub = refl; target = none_small }

  pub entry_fits : (k : ℕ) (i : Info) → k < 65536 → LawfulInfo (p.at x) i → TargetFits k (entry_of i)
  entry_fits k i small l = entry_fits_at k i.state i.target small l.small

-- ---- histories grow

-- the first history goes on to the second
pub record Grown (t t' : History) : Type 0 where
  pub top : t.top ≤ t'.top
  pub low : t.low ≤ t'.low
  pub same : (k : ℕ) → k ≤ t.top → t'.at k ≡ t.at k
  pub row : (q : ℕ) (k : Check) → get_elem? t.row q ≡ some k → get_elem? t'.row q ≡ some k
  pub later : Later (present t) (present t')

pub grown-refl : (t : History) → Grown t t
grown-refl t = record { top = omega arith; low = omega arith; same = λ k h. refl; row = λ q k h. h; later = later-refl (present t) }

module _ (p : About) (h h' : Histories) (good : Good p h) (grown : (x : ℕ) → Grown (h x) (h' x)) where
  known_grows : (e : Seen) → Known p h e → Known p h' e
  known_grows (Head x k e) n = let g = grown x in let a = n.1 in let b = g.low in let c = (good x n.0).behind in
      (n.0, omega arith, n.2 ∙ ap entry_of (sym (g.same k (omega arith))))
  known_grows (Data x k i) n = let g = grown x in let a = n.1 in let b = g.top in (n.0, omega arith, n.2 ∙ sym (g.same k n.1))
  known_grows (Set x q k) n = (n.0, (grown x).row q k n.1)
  known_grows (Empty x q) n = n

  explained_grows : (a : Asked) → Explained h a → Explained h' a
  explained_grows a e = explains_later (present (h a.site)) (present (h' a.site)) a.class (grown a.site).later e

  pub view_grows : (v : View) → IsView p h v → IsView p h' v
  view_grows v ok = record {
    known = each_map (Known p h) (Known p h') v.seen known_grows ok.known;
    in_range = ok.in_range;
    explained = each_map (Explained h) (Explained h') (settled v.pending v.asked) explained_grows ok.explained;
    spent = ok.spent;
  }

-- the history after an advance
abbrev pub extended : History → Info → History
extended t i = record { top = t.top + 1; low = t.low; at = put t.at (t.top + 1) i; row = t.row }

-- the history after the target word was finished
abbrev pub finished : History → History
finished t = record { top = t.top; low = t.top; at = t.at; row = t.row }

module _ (p : About) (x : ℕ) (t : History) (ok : IsHistory p x t) where
  module _ (c : ℕ) (i : Info) (m : Move (p.at x) (present t) t.row c i.state) where
    more : Later (present t) i.state
    more = move_later (p.at x) (present t) t.row c i.state m

    pub extended-grown : Grown t (extended t i)
    extended-grown = record {
      top = omega arith;
      low = omega arith;
      same = λ k h. put_else t.at (t.top + 1) i k (λ e. omega arith);
      row = λ q k h. h;
      later = subst (λ (z : Info). Later (present t) z.state) (sym (put_here t.at (t.top + 1) i)) more;
    }

    rises : (j k : ℕ) → j ≤ k → k ≤ t.top + 1 → (d : Dec (k ≡ t.top + 1)) (d' : Dec (j ≡ t.top + 1)) → Later (pick d' i (t.at j)).state (pick d i (t.at k)).state
    rises j k le h (yes e) (yes e') = later-refl i.state
    rises j k le h (yes e) (no n) = later_trans (t.at j).state (present t) i.state (ok.rising j t.top (omega arith) (omega arith)) more
    rises j k le h (no n) (yes e') = absurd (omega arith)
    rises j k le h (no n) (no n') = ok.rising j k le (omega arith)

    pub extended-ok : c < (p.at x).classes → t.low ≡ t.top → t.top + 1 ≤ p.classes + 2 → LawfulInfo (p.at x) i → IsHistory p x (extended t i)
    extended-ok small level few law =
        let here = put_here t.at (t.top + 1) i in record {
          behind = omega arith;
          near = omega arith;
          few = few;
          infos = λ k h. put_all (λ j z. j ≤ t.top + 1 → LawfulInfo (p.at x) z) t.at (t.top + 1) i (λ _. law) (λ j n le. ok.infos j (omega arith)) k h;
          lawful = subst (λ (z : Info). Rattle.miss_handler.specs.States.Lawful (p.at x) z.state t.row) (sym here) (moved_lawful (p.at x) (present t) t.row c i.state small ok.lawful m);
          rising = λ j k le h. rises j k le h (ℕ_discrete k (t.top + 1)) (ℕ_discrete j (t.top + 1));
        }

  pub finished-grown : Grown t (finished t)
  finished-grown = record { top = omega arith; low = ok.behind; same = λ k h. refl; row = λ q k h. h; later = later-refl (present t) }

  pub finished-ok : IsHistory p x (finished t)
  finished-ok = record { behind = omega arith; near = omega arith; few = ok.few; infos = ok.infos; lawful = ok.lawful; rising = ok.rising }

-- ---- what stands in some view

-- some view has P
abbrev pub InSome : (View → Type 0) → List View → Type 0
InSome P views = (j : ℕ) × (v : View) × (get_elem? views j ≡ some v) × P v

module _ (P : View → Type 0) where
  pub in_set : (views : List View) (id : ℕ) (v w : View) → get_elem? views id ≡ some v → (P v → P w) → InSome P views → InSome P (set views id w)
  in_set views id v w at keep s = by_place (ℕ_discrete s.0 id)
    where
      by_place : Dec (s.0 ≡ id) → InSome P (set views id w)
      by_place (yes e) = let same : s.1 ≡ v = some-injective s.1 v (sym s.2 ∙ (ap (get_elem? views) e ∙ at)) in (id, w, here-set views id v w at, keep (subst P same s.3))
      by_place (no n) = (s.0, s.1, set_else views id s.0 w n ∙ s.2, s.3)

  pub in_snoc : (views : List View) (w : View) → InSome P views → InSome P (views ++ w ∷ [])
  in_snoc views w s = (s.0, s.1, at_longer views (w ∷ []) s.0 s.1 s.2, s.3)

  -- what holds of the view that changed, and of each other one, holds of all
  pub each_set : (views : List View) (id : ℕ) (w : View) → P w → ((j : ℕ) (v : View) → get_elem? views j ≡ some v → P v) → (j : ℕ) (v : View) → get_elem? (set views id w) j ≡ some v → P v
  each_set views id w mine h j v e = ⊎_elim (λ (t : (j ≡ id) × (w ≡ v)). subst P t.1 mine) (λ (t : (j ≢ id) × (get_elem? views j ≡ some v)). h j v t.1) (at_set views id j w v e)

  pub each_snoc : (views : List View) (w : View) → P w → ((j : ℕ) (v : View) → get_elem? views j ≡ some v → P v) → (j : ℕ) (v : View) → get_elem? (views ++ w ∷ []) j ≡ some v → P v
  each_snoc views w mine h j v e = ⊎_elim (h j v) (λ (t : w ≡ v). subst P t mine) (at_snoc views w v j e)

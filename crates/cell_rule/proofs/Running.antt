-- Every run of steps keeps the rule.
use Rattle.std.proofs.Common.{◌≡◌, ◌⊎◌, ℕ, ◌+◌, ◌*◌, ◌<◌, false, Some, None, List, [], ◌∷◌, get_or, set, replicate, sym, refl, ap, ◌∙◌, subst, ⊎_elim}
use mathlib.Core.Option.{some}
use lib.ListN.{get_elem?}
use Rattle.atomic_table.proofs.Lists.{set_else}
use Rattle.atomic_table.specs.Table.{State, stepped, keeps, opening, carried_after}
use Rattle.miss_handler.specs.States.{check, Explains}
use Rattle.cell_rule.specs.declared.view.Seen.{Seen}
use Rattle.cell_rule.specs.declared.view.Seen.TheVariants.{Head, Data, Set, Empty}
use Rattle.cell_rule.specs.declared.view.View.{View}
use Rattle.cell_rule.specs.Words.{data_word, target_word, check_word, entry_of}
use Rattle.cell_rule.specs.About.{About, Sound}
use Rattle.cell_rule.specs.Histories.{call}
use Rattle.cell_rule.specs.Rule.{head_at, data_at, check_at, Ruled}
use Rattle.cell_rule.specs.Told.{Sat, HeadIs, DataIs, WonAs, DataSeen, CheckSeen, sees, goes_on, begins, installs, newcomer}
use Rattle.cell_rule.specs.Runs.{CellStep, opens, loads_target, loads_data, advances, finishes, finds_check, finds_none, claims, splits, joins, Takes, Steps, Runs}
use Rattle.cell_rule.proofs.Packs.{check_some}
use Rattle.cell_rule.proofs.Effects.{Done, opens_done, head_done, data_done, advance_done, finish_done, check_done, claim_done}
use Rattle.cell_rule.proofs.Keeps.{was_called}
use Rattle.cell_rule.proofs.Views.{splits_keep, joins_keep, starts}
use Rattle.cell_rule.proofs.Telling.{head_told, data_told, won_told, check_told}

module _ (p : About) where
  -- the rule does not speak of slots
  other_homes : (s t : State (Unit {0}) View) → t.words ≡ s.words → t.views ≡ s.views → Ruled p s → Ruled p t
  other_homes s t words views r = subst (λ (z : List ℕ × List View). Ruled p record { words = z.0; homes = t.homes; views = z.1 }) (λ j. (sym words j, sym views j)) record {
    h = r.h;
    sound = r.sound;
    size = r.size;
    first = r.first;
    worded = r.worded;
    good = r.good;
    reached = r.reached;
    checked = r.checked;
    over = r.over;
    shown = r.shown;
    each_view = r.each_view;
    shares = r.shares;
  }

  module _ (s t : State (Unit {0}) View) (r : Ruled p s) (id : ℕ) (v : View) (at : get_elem? s.views id ≡ some v) (some_share : 0 < v.share) where
    -- what a step leaves is what it was shown to keep, once its view is known
    left : (i m : ℕ) (told : Sat → Type 0) (w : View) → Done p s i id (v, []) m told → ((u : Sat) → told u → u.0 ≡ w) → t ≡ stepped s i m id [] w keeps → Ruled p t
    left i m told w d is e = other_homes (stepped s i m id [] d.0 d.1) t (ap (λ (z : State (Unit {0}) View). z.words) e)
        (ap (λ (z : State (Unit {0}) View). z.views) e ∙ ap (λ (z : View). set s.views id z) (sym (is (d.0, carried_after [] d.1) d.4))) d.3

    -- what each kind of step tells
    abbrev Heads : ℕ → ℕ → (Seen → View) → Sat → Type 0
    Heads x n next u = (u.1 ≡ []) × HeadIs p x n next u.0

    abbrev Infos : ℕ → ℕ → ℕ → Sat → Type 0
    Infos x c n u = (u.1 ≡ []) × DataIs p x c n v u.0

    abbrev Wins : ℕ → ℕ → ℕ → Sat → Type 0
    Wins x old new u = (u.1 ≡ []) × WonAs p x old new v u.0

    abbrev Checks : ℕ → ℕ → ℕ → Sat → Type 0
    Checks x q n u = (u.1 ≡ []) × CheckSeen p x q n v u.0

    pub takes_keep : (e : CellStep) → Takes p s t id v e → Ruled p t
    takes_keep (opens c x k e) o = let l = o.0.0 in
        left (head_at x) (get_or s.words (head_at x) 0) (Heads x (get_or s.words (head_at x) 0) (begins v (call x c))) (begins v (call x c) (Head x k e)) (opens_done p s r id (v, []) at x l some_share c o.1 o.2)
        (λ u told. (head_told p x (get_or s.words (head_at x) 0) (begins v (call x c)) u.0 told.1 k e o.0.1 o.0.2).after) o.3
    takes_keep (loads_target x k e) o = let l = o.0.0 in
        left (head_at x) (get_or s.words (head_at x) 0) (Heads x (get_or s.words (head_at x) 0) (goes_on v)) (goes_on v (Head x k e)) (head_done p s r id (v, []) at x l some_share)
        (λ u told. (head_told p x (get_or s.words (head_at x) 0) (goes_on v) u.0 told.1 k e o.0.1 o.0.2).after) o.1
    takes_keep (loads_data c x k i) o =
        let l = o.0.0 in let n : ℕ = get_or s.words (data_at x) 0 in let d = data_done p s r id (v, []) at x l some_share c o.1.0 o.1.1 in
        let after : (u : View) → DataSeen p x c k i v u → ((¬ Explains i.state c) × (u ≡ goes_on v (Data x k i))) ⊎ (Explains i.state c × (u ≡ sees v (Data x k i) false)) = λ u z. z.after in
        ⊎_elim
        (λ (q : (¬ Explains i.state c) × (t ≡ stepped s (data_at x) n id [] (goes_on v (Data x k i)) keeps)).
        left (data_at x) n (Infos x c n) (goes_on v (Data x k i)) d
        (λ u told. ⊎_elim (λ (z : (¬ Explains i.state c) × (u.0 ≡ goes_on v (Data x k i))). z.1) (λ (z : Explains i.state c × (u.0 ≡ sees v (Data x k i) false)). absurd (q.0 z.0)) (after u.0 (data_told p x c n v u.0 told.1 k i o.0.1 o.0.2))) q.1)
        (λ (q : Explains i.state c × (t ≡ stepped s (data_at x) n id [] (sees v (Data x k i) false) keeps)).
        left (data_at x) n (Infos x c n) (sees v (Data x k i) false) d
        (λ u told. ⊎_elim (λ (z : (¬ Explains i.state c) × (u.0 ≡ goes_on v (Data x k i))). absurd (z.0 q.0)) (λ (z : Explains i.state c × (u.0 ≡ sees v (Data x k i) false)). z.1) (after u.0 (data_told p x c n v u.0 told.1 k i o.0.1 o.0.2))) q.1)
        o.2
    takes_keep (advances c x k e i j) o =
        let l = o.0.0 in let m = o.1 in let d = advance_done p s r id (v, []) at x l some_share c m.0.0 m.0.1 k i j e m.1 m.2 m.3 o.0.2 in
        left (data_at x) (data_word (k + 1) j) (Wins x (data_word k i) (data_word (k + 1) j)) (installs v x (k + 1) i j) d
        (λ u told. let z = told.1 in (won_told p x (data_word k i) (data_word (k + 1) j) v u.0 z k i j o.0.1 m.4 refl refl).after) o.2
    takes_keep (finishes x k e i) o =
        let l = o.0.0 in let m : ℕ = target_word (k + 1) (entry_of i) in let d = finish_done p s r id (v, []) at x l some_share k e i o.1.0 o.1.1 o.0.2 in
        left (head_at x) m (Heads x m (goes_on v)) (goes_on v (Head x (k + 1) (entry_of i))) d
        (λ u told. (head_told p x m (goes_on v) u.0 told.1 (k + 1) (entry_of i) o.1.2 refl).after) o.2
    takes_keep (finds_check x q k) o =
        left (check_at x q) (get_or s.words (check_at x q) 0) (Checks x q (get_or s.words (check_at x q) 0)) (goes_on v (Set x q k)) (check_done p s r id (v, []) at x o.0 some_share q o.1)
        (λ u told. (check_told p x q (get_or s.words (check_at x q) 0) v u.0 told.1 (Some k) (o.2, o.3)).1) o.4
    takes_keep (finds_none x q) o =
        left (check_at x q) (get_or s.words (check_at x q) 0) (Checks x q (get_or s.words (check_at x q) 0)) (goes_on v (Empty x q)) (check_done p s r id (v, []) at x o.0 some_share q o.1)
        (λ u told. (check_told p x q (get_or s.words (check_at x q) 0) v u.0 told.1 None (λ z. check_some z.0 (sym z.2 ∙ o.2))).1) o.3
    takes_keep (claims x q k) o =
        let m = o.1 in let n : ℕ = check_word (check k.class.0 ((p.at x).resolve k.class.0)) in
        let same : check_word k ≡ n = ap (λ z. check_word (check k.class.0 z)) m.2 in
        left (check_at x q) n (Checks x q n) (goes_on v (Set x q k))
        (claim_done p s r id (v, []) at x o.0 some_share q k.class.0 m.3.0 m.3.1 m.0 (was_called p 0 id (v, []) x k.class.0 o.0 some_share q m.0 k.class.0 m.3 m.4 m.5 s r at) m.3.2 m.3.3 m.5 o.2)
        (λ u told. (check_told p x q n v u.0 told.1 (Some k) (m.1, sym same)).1)
        (o.3 ∙ ap (λ (z : ℕ). stepped s (check_at x q) z id [] (goes_on v (Set x q k)) keeps) same)
    takes_keep splits o = subst (Ruled p) (sym o.1) (splits_keep p id v o.0 s r at)
    takes_keep (joins other w) o =
        subst (Ruled p) (sym o.4) (joins_keep p id v other w some_share o.0 o.1 s r at o.2 (set_else s.views id other _ o.2 ∙ o.3))

  pub steps_keep : (e : CellStep) (s t : State (Unit {0}) View) → Ruled p s → Steps p e s t → Ruled p t
  steps_keep e s t r o = takes_keep s t r o.0 o.1 o.2 o.3 e o.4

  pub runs_keep : (es : List CellStep) (s t : State (Unit {0}) View) → Ruled p s → Runs p es s t → Ruled p t
  runs_keep [] s t r e = subst (Ruled p) e r
  runs_keep (e ∷ more) s t r o = runs_keep more o.0 t (steps_keep e s o.0 r o.1) o.2

  -- from the words that are all 0, every run keeps the rule
  pub runs_from_start : Sound p → (es : List CellStep) (t : State (Unit {0}) View) → Runs p es (opening (replicate (6 * p.sites + 1) 0) [] newcomer) t → Ruled p t
  runs_from_start sound es t o = runs_keep es (opening (replicate (6 * p.sites + 1) 0) [] newcomer) t (starts p (6 * p.sites + 1) sound refl) o

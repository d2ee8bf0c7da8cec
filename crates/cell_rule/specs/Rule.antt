-- The rule of the cell table: a history of each site that explains the words and all views.
use Rattle.std.specs.Prelude.{◌≡◌, ℕ, zero, suc, ◌+◌, ◌*◌, ◌<◌, ◌≤◌, false, List, [], ◌∷◌, length, slice_index, sum_by}
use mathlib.Core.Option.{some}
use lib.ListN.{get_elem?}
use Rattle.atomic_table.specs.Table.{State}
use Rattle.miss_handler.specs.declared.row.Check.{Check}
use Rattle.miss_handler.specs.declared.state.CallState.TheVariants.{Mega}
use Rattle.miss_handler.specs.States.{Reached, has}
use Rattle.cell_rule.specs.declared.view.Seen.TheVariants.{Data}
use Rattle.cell_rule.specs.declared.view.View.{View}
use Rattle.list_members.specs.Members.{Each, Has}
use Rattle.cell_rule.specs.Words.{data_word, target_word, check_word, entry_of}
use Rattle.cell_rule.specs.About.{About, Sound}
use Rattle.cell_rule.specs.Histories.{History, Histories, present, Good, Known, Explained, InRange, settled, Called}

-- the place of the target word of site x
abbrev pub head_at : ℕ → ℕ
head_at x = 6 * x + 1

-- that of its data word
abbrev pub data_at : ℕ → ℕ
data_at x = 6 * x + 2

-- that of its check q
abbrev pub check_at : ℕ → ℕ → ℕ
check_at x q = 6 * x + 3 + q

-- check q of a row as a word: 0 where none is set
abbrev pub row_word : List Check → ℕ → ℕ
row_word [] q = 0
row_word (k ∷ row) zero = check_word k
row_word (k ∷ row) (suc q) = row_word row q

-- the words of site x are the present ones of its history
pub record Worded (t : History) (x : ℕ) (words : List ℕ) : Type 0 where
  pub head : slice_index words (head_at x) ≡ target_word t.low (entry_of (t.at t.low))
  pub info : slice_index words (data_at x) ≡ data_word t.top (t.at t.top)
  pub checks : (q : ℕ) → q < 4 → slice_index words (check_at x q) ≡ row_word t.row q

-- what a view has of the 65,536 shares
abbrev pub share : View → ℕ
share v = v.share

-- what a view has seen stood there, its calls are possible, and all but the open one are explained; a view without a share is spent
pub record IsView (p : About) (h : Histories) (v : View) : Type 0 where
  pub known : Each (Known p h) v.seen
  pub in_range : Each (InRange p) v.asked
  pub explained : Each (Explained h) (settled v.pending v.asked)
  pub spent : v.share ≡ 0 → (v.seen ≡ []) × (v.asked ≡ [])

-- some view has seen the data word that is ahead of its target word
abbrev pub Shown : List View → History → ℕ → Type 0
Shown views t x = t.low < t.top → (j : ℕ) × (v : View) × (get_elem? views j ≡ some v) × Has (Data x t.top (t.at t.top)) v.seen

-- in Mega a class was called that stands in no check
abbrev pub Over : List View → History → ℕ → Type 0
Over views t x = present t ≡ Mega → (c : ℕ) × Called views x c × (has t.row c ≡ false)

-- The rule: the words are those of the histories, which are possible; each state was reached by classes that were called; and each view knows only what stood there
pub record Ruled (p : About) (s : State (Unit {0}) View) : Type 0 where
  pub h : Histories
  pub sound : Sound p
  pub size : length s.words ≡ 6 * p.sites + 1
  pub first : slice_index s.words 0 ≡ 0
  pub worded : (x : ℕ) → x < p.sites → Worded (h x) x s.words
  pub good : Good p h
  pub reached : (x : ℕ) → x < p.sites → (k : ℕ) → k ≤ (h x).top → Reached (p.at x) k ((h x).at k).state (Called s.views x)
  pub checked : (x : ℕ) → x < p.sites → Each (λ k. Called s.views x k.class.0) (h x).row
  pub over : (x : ℕ) → x < p.sites → Over s.views (h x) x
  pub shown : (x : ℕ) → x < p.sites → Shown s.views (h x) x
  pub each_view : (j : ℕ) (v : View) → get_elem? s.views j ≡ some v → IsView p h v
  pub shares : sum_by share s.views ≡ 65536

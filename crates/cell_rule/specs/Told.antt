-- What each step tells the pass that makes it.
use Rattle.std.specs.Prelude.{◌≡◌, ◌≢◌, ◌⊎◌, ℕ, ◌+◌, ◌-◌, ◌*◌, ◌/◌, Bool, true, false, List, [], ◌∷◌, ◌++◌}
use Rattle.atomic_table.specs.Table.{Me, Step}
use Rattle.miss_handler.specs.declared.row.Check.{Check}
use Rattle.miss_handler.specs.States.{Explains}
use Rattle.cell_rule.specs.declared.words.Info.{Info}
use Rattle.cell_rule.specs.declared.words.Entry.{Entry}
use Rattle.cell_rule.specs.declared.view.Seen.{Seen}
use Rattle.cell_rule.specs.declared.view.Seen.TheVariants.{Head, Data, Set, Empty}
use Rattle.cell_rule.specs.declared.view.Asked.{Asked}
use Rattle.cell_rule.specs.declared.view.Change.{Change}
use Rattle.cell_rule.specs.declared.view.View.{View}
use Rattle.list_members.specs.Members.{Each}
use Rattle.cell_rule.specs.Words.{data_word, target_word, check_word, DataFits, TargetFits, CheckFits}
use Rattle.cell_rule.specs.About.{About, Sound}
use Rattle.cell_rule.specs.Histories.{Histories, Good, Known, Explained, settled, call}

-- a history that holds all that the view has seen
pub record Learnt (p : About) (h : Histories) (v : View) : Type 0 where
  pub sound : Sound p
  pub good : Good p h
  pub known : Each (Known p h) v.seen
  pub explained : Each (Explained h) (settled v.pending v.asked)

-- ---- views

-- the view that has seen one word more, with its newest call open or not
abbrev pub sees : View → Seen → Bool → View
sees v e pending = record v { seen = e ∷ v.seen; trace = e ∷ v.trace; pending = pending }

-- the same, where that stays as it was
abbrev pub goes_on : View → Seen → View
goes_on v e = sees v e v.pending

-- the same at the start of a call
abbrev pub begins : View → Asked → Seen → View
begins v a e = record { share = v.share; seen = e ∷ v.seen; trace = e ∷ []; changes = []; asked = a ∷ v.asked; pending = true }

-- the transition from i to j, which has the stamp k
abbrev pub change : ℕ → Info → Info → Change
change k i j = record { stamp = k; from = i; to = j }

-- the view that has installed the data word j over i, with the stamp k
abbrev pub installs : View → ℕ → ℕ → Info → Info → View
installs v x k i j = record (sees v (Data x k j) false) { changes = change k i j ∷ v.changes }

-- a view that has no call
abbrev pub view : ℕ → List Seen → List Asked → View
view n seen asked = record { share = n; seen = seen; trace = []; changes = []; asked = asked; pending = false }

-- that of the first pass
abbrev pub newcomer : View
newcomer = view 65536 [] []

-- what a pass keeps that is cut in two
abbrev pub kept : View → View
kept v = record v { share = v.share - v.share / 2 }

-- what the new pass has
abbrev pub given : View → View
given v = view (v.share / 2) v.seen []

-- what two passes have together
abbrev pub joined : View → View → View
joined v w = view (v.share + w.share) (v.seen ++ w.seen) (v.asked ++ w.asked)

-- what the other one has then
abbrev pub spent : View
spent = view 0 [] []

-- ---- words, as their numbers say

-- the target word of the stamp k was present, and is the next one seen
pub record HeadSeen (p : About) (x k : ℕ) (e : Entry) (next : Seen → View) (w : View) : Type 0 where
  pub h : Histories
  pub fits : TargetFits k e
  pub after : w ≡ next (Head x k e)
  pub present : (h x).low ≡ k
  pub learnt : Learnt p h w

-- the same of a data word; the call is closed where its state explains the class
pub record DataSeen (p : About) (x c k : ℕ) (i : Info) (v w : View) : Type 0 where
  pub h : Histories
  pub fits : DataFits k i
  pub after : ((¬ Explains i.state c) × (w ≡ goes_on v (Data x k i))) ⊎ (Explains i.state c × (w ≡ sees v (Data x k i) false))
  pub present : (h x).top ≡ k
  pub learnt : Learnt p h w

-- the data word j was installed over i, which had the stamp k
pub record Won (p : About) (x k : ℕ) (i j : Info) (v w : View) : Type 0 where
  pub h : Histories
  pub after : w ≡ installs v x (k + 1) i j
  pub present : (h x).top ≡ k + 1
  pub learnt : Learnt p h w

-- the check q was seen, set or empty
pub record CheckSeen (p : About) (x q n : ℕ) (v w : View) : Type 0 where
  pub h : Histories
  pub after : ((n ≡ 0) × (w ≡ goes_on v (Empty x q))) ⊎ ((k : Check) × CheckFits k × (n ≡ check_word k) × (w ≡ goes_on v (Set x q k)))
  pub learnt : Learnt p h w

-- ---- what a step tells, by the number found

-- the number is that of the target word seen
abbrev pub HeadIs : About → ℕ → ℕ → (Seen → View) → View → Type 0
HeadIs p x n next w = (k : ℕ) × (e : Entry) × (n ≡ target_word k e) × HeadSeen p x k e next w

-- the same of a data word
abbrev pub DataIs : About → ℕ → ℕ → ℕ → View → View → Type 0
DataIs p x c n v w = (k : ℕ) × (i : Info) × (n ≡ data_word k i) × DataSeen p x c k i v w

-- the numbers are those of the data words before and after
abbrev pub WonAs : About → ℕ → ℕ → ℕ → View → View → Type 0
WonAs p x old new v w = (k : ℕ) × (i : Info) × (j : Info) × DataFits k i × DataFits (k + 1) j × (old ≡ data_word k i) × (new ≡ data_word (k + 1) j) × Won p x k i j v w

-- the operands of a step
abbrev pub At : Type 0
At = Step (Unit {0})

-- the view of a seat, and the slots that it has taken, of which there are none
abbrev pub Sat : Type 0
Sat = Me (Unit {0}) View

module _ (p : About) (x c : ℕ) where
  -- load target, at the start of a call
  abbrev pub opened : At → Sat → ℕ → Sat → Type 0
  opened st m n m' = (m'.1 ≡ m.1) × HeadIs p x n (begins m.0 (call x c)) m'.0

  -- load target
  abbrev pub saw_head : At → Sat → ℕ → Sat → Type 0
  saw_head st m n m' = (m'.1 ≡ m.1) × HeadIs p x n (goes_on m.0) m'.0

  -- load data
  abbrev pub saw_data : At → Sat → ℕ → Sat → Type 0
  saw_data st m n m' = (m'.1 ≡ m.1) × DataIs p x c n m.0 m'.0

  -- advance data: the word was as expected, and the new one stands; or a later one was there
  abbrev pub advanced : At → Sat → ℕ → Sat → Type 0
  advanced st m n m' = (m'.1 ≡ m.1)
      × (n ≡ st.first → WonAs p x st.first st.second m.0 m'.0)
      × (n ≢ st.first → DataIs p x c n m.0 m'.0)

  -- finish target: the same
  abbrev pub finished_with : At → Sat → ℕ → Sat → Type 0
  finished_with st m n m' = (m'.1 ≡ m.1)
      × (n ≡ st.first → HeadIs p x st.second (goes_on m.0) m'.0)
      × (n ≢ st.first → HeadIs p x n (goes_on m.0) m'.0)

  -- load check, at the place that the word is
  abbrev pub saw_check : At → Sat → ℕ → Sat → Type 0
  saw_check st m n m' = (m'.1 ≡ m.1) × CheckSeen p x (st.word - (6 * x + 3)) n m.0 m'.0

  -- claim check: it was empty and is set, or another stands there
  abbrev pub claimed : At → Sat → ℕ → Sat → Type 0
  claimed st m n m' = (m'.1 ≡ m.1)
      × (n ≡ 0 → CheckSeen p x (st.word - (6 * x + 3)) st.second m.0 m'.0)
      × (n ≢ 0 → CheckSeen p x (st.word - (6 * x + 3)) n m.0 m'.0)

-- load of word 0: all that was seen stands in one history
abbrev pub looked : About → At → Sat → ℕ → Sat → Type 0
looked p st m n m' = (m' ≡ m) × ((h : Histories) × Learnt p h m.0)

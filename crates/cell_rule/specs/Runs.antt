-- The eight kinds of step as data, and runs of them. An exchange that is lost is a load of its word.
use Rattle.std.specs.Prelude.{◌≡◌, ◌≢◌, ◌⊎◌, ℕ, ◌+◌, ◌<◌, ◌≤◌, false, IsTrue, List, [], ◌∷◌, ◌++◌, slice_index, slice_set}
use mathlib.Core.Option.{some}
use lib.ListN.{get_elem?}
use Rattle.atomic_table.specs.Table.{State, stepped, keeps}
use Rattle.miss_handler.specs.declared.row.Check.{Check}
use Rattle.miss_handler.specs.States.{Explains}
use Rattle.cell_rule.specs.declared.words.Info.{Info}
use Rattle.cell_rule.specs.declared.words.Entry.{Entry}
use Rattle.cell_rule.specs.declared.view.Seen.TheVariants.{Head, Data, Set, Empty}
use Rattle.cell_rule.specs.declared.view.View.{View}
use Rattle.list_members.specs.Members.{Has}
use Rattle.cell_rule.specs.Words.{data_word, target_word, check_word, entry_of, DataFits, TargetFits, CheckFits}
use Rattle.cell_rule.specs.About.{About}
use Rattle.cell_rule.specs.Histories.{call, Moved}
use Rattle.cell_rule.specs.Rule.{head_at, data_at, check_at}
use Rattle.cell_rule.specs.Told.{sees, goes_on, begins, installs, kept, given, joined, spent}
use Rattle.cell_rule.specs.Steps.{IsCurrent, OthersSeen, CallsIt, CachedSeen}

-- a step, with what its seat saw and wrote, as: class, site or place, stamp, what the words said
pub data CellStep : Type 0 where
  opens : ℕ → ℕ → ℕ → Entry → CellStep
  loads_target : ℕ → ℕ → Entry → CellStep
  loads_data : ℕ → ℕ → ℕ → Info → CellStep
  advances : ℕ → ℕ → ℕ → Entry → Info → Info → CellStep
  finishes : ℕ → ℕ → Entry → Info → CellStep
  finds_check : ℕ → ℕ → Check → CellStep
  finds_none : ℕ → ℕ → CellStep
  claims : ℕ → ℕ → Check → CellStep
  splits : CellStep
  joins : ℕ → View → CellStep

module _ (p : About) (s t : State (Unit {0}) View) (id : ℕ) (v : View) where
  -- the word i becomes n, and the seat has the view w
  abbrev pub Leaves : ℕ → ℕ → View → Type 0
  Leaves i n w = t ≡ stepped s i n id [] w keeps

  -- the word i was read
  abbrev pub Reads : ℕ → View → Type 0
  Reads i w = Leaves i (slice_index s.words i) w

  -- the call is closed where the state explains its class
  abbrev pub Closes : ℕ → ℕ → ℕ → Info → Type 0
  Closes c x k i = ((¬ Explains i.state c) × Reads (data_at x) (goes_on v (Data x k i))) ⊎ (Explains i.state c × Reads (data_at x) (sees v (Data x k i) false))

  -- the target word of site x
  abbrev pub IsHead : ℕ → ℕ → Entry → Type 0
  IsHead x k e = (x < p.sites) × TargetFits k e × (slice_index s.words (head_at x) ≡ target_word k e)

  -- its data word
  abbrev pub IsData : ℕ → ℕ → Info → Type 0
  IsData x k i = (x < p.sites) × DataFits k i × (slice_index s.words (data_at x) ≡ data_word k i)

  -- an advance is for the current call, which saw a pair of equal stamps, and installs its transition
  abbrev pub MayAdvance : ℕ → ℕ → ℕ → Entry → Info → Info → Type 0
  MayAdvance c x k e i j = IsCurrent x c v × Has (Head x k e) v.seen × Has (Data x k i) v.seen × Moved p x c i j v.seen × DataFits (k + 1) j

  -- a finish follows a target word and the data word behind it
  abbrev pub MayFinish : ℕ → ℕ → Entry → Info → Type 0
  MayFinish x k e i = Has (Head x k e) v.seen × Has (Data x (k + 1) i) v.seen × TargetFits (k + 1) (entry_of i)

  -- a claim is for a class that was called, at the first place that has no check
  abbrev pub MayClaim : ℕ → ℕ → Check → Type 0
  MayClaim x q k = (q < 4) × CheckFits k × (k.target ≡ (p.at x).resolve k.class.0) × CachedSeen x v × CallsIt x k.class.0 v × OthersSeen x k.class.0 q v

  -- the step leads from s to t
  abbrev pub Takes : CellStep → Type 0
  Takes (opens c x k e) = IsHead x k e × IsTrue ((p.at x).concrete c) × (v.pending ≡ false) × Reads (head_at x) (begins v (call x c) (Head x k e))
  Takes (loads_target x k e) = IsHead x k e × Reads (head_at x) (goes_on v (Head x k e))
  Takes (loads_data c x k i) = IsData x k i × IsCurrent x c v × Closes c x k i
  Takes (advances c x k e i j) = IsData x k i × MayAdvance c x k e i j × Leaves (data_at x) (data_word (k + 1) j) (installs v x (k + 1) i j)
  Takes (finishes x k e i) = IsHead x k e × MayFinish x k e i × Leaves (head_at x) (target_word (k + 1) (entry_of i)) (goes_on v (Head x (k + 1) (entry_of i)))
  Takes (finds_check x q k) = (x < p.sites) × (q < 4) × CheckFits k × (slice_index s.words (check_at x q) ≡ check_word k) × Reads (check_at x q) (goes_on v (Set x q k))
  Takes (finds_none x q) = (x < p.sites) × (q < 4) × (slice_index s.words (check_at x q) ≡ 0) × Reads (check_at x q) (goes_on v (Empty x q))
  Takes (claims x q k) = (x < p.sites) × MayClaim x q k × (slice_index s.words (check_at x q) ≡ 0) × Leaves (check_at x q) (check_word k) (goes_on v (Set x q k))
  Takes splits = (2 ≤ v.share) × (t ≡ record { words = s.words; homes = s.homes; views = slice_set s.views id (kept v) ++ given v ∷ [] })
  Takes (joins other w) = (v.pending ≡ false) × (w.pending ≡ false) × (other ≢ id) × (get_elem? s.views other ≡ some w)
      × (t ≡ record { words = s.words; homes = s.homes; views = slice_set (slice_set s.views id (joined v w)) other spent })

-- a seat that is not spent makes the step
abbrev pub Steps : About → CellStep → State (Unit {0}) View → State (Unit {0}) View → Type 0
Steps p e s t = (id : ℕ) × (v : View) × (get_elem? s.views id ≡ some v) × (0 < v.share) × Takes p s t id v e

-- the steps follow each other
abbrev pub Runs : About → List CellStep → State (Unit {0}) View → State (Unit {0}) View → Type 0
Runs p [] s t = s ≡ t
Runs p (e ∷ more) s t = (u : State (Unit {0}) View) × Steps p e s u × Runs p more u t

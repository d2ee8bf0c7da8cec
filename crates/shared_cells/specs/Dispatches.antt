-- The answer of a dispatch.
use Rattle.std.specs.Prelude.{◌≡◌, ◌⊎◌, ℕ, ◌+◌, ◌<◌, ◌≤◌, false, List, Some, None, Result, MatchResult}
use Rattle.cell_rule.specs.declared.words.Info.{Info}
use Rattle.call_cell.specs.declared.cells.How.{How}
use Rattle.call_cell.specs.declared.cells.How.TheVariants.{Hit, Miss}
use Rattle.shared_cells.specs.declared.answer.Ask.{Ask}
use Rattle.shared_cells.specs.declared.answer.Ask.TheVariants.{Nothing, Find, Add}
use Rattle.shared_cells.specs.declared.answer.Answer.{Answer}
use Rattle.shared_cells.specs.declared.answer.Point.{Point}
use Rattle.cell_rule.specs.declared.view.Seen.{Seen}
use Rattle.cell_rule.specs.declared.view.View.{View}
use Rattle.list_members.specs.Members.{Each}
use Rattle.cell_rule.specs.About.{About}
use Rattle.shared_cells.specs.Runs.{CoversBy, MissesBy, first_pair, last_stamp, After, Stood, MegaSeen, MegaFirst, Kept, IsMove, Running}
use Rattle.cell_rule.specs.Stamps.{head_stamp, data_stamp}

-- a hit is where the first pair read with equal stamps covers the class
abbrev pub HowIs : How → ℕ → ℕ → List Seen → Type 0
HowIs Hit x c l = (a : Info × List Seen) × (first_pair l ≡ Some a) × CoversBy x c a.0.state a.1
HowIs Miss x c l = (first_pair l ≡ None) ⊎ ((a : Info × List Seen) × (first_pair l ≡ Some a) × MissesBy x c a.0.state a.1)

-- the class is covered, or the megamorphic table is to be asked
abbrev pub StoodAs : Ask → ℕ → ℕ → View → Type 0
StoodAs Nothing x c w = Stood x c w
StoodAs (Find b) x c w = MegaSeen x w × MegaFirst b w
StoodAs Add x c w = MegaSeen x w

-- what an answer says, of the view before and the view after
pub record Answers (p : About) (x c : ℕ) (d : Answer) (v w : View) : Type 0 where
  pub answer : d.target ≡ (p.at x).resolve c
  pub after : After x c v w
  pub closed : w.pending ≡ false
  pub stamp : d.stamp ≤ data_stamp x w.seen
  pub last : last_stamp w.trace ≡ d.stamp
  pub level : data_stamp x w.seen ≤ head_stamp x w.seen
  pub how : HowIs d.how x c w.trace
  pub stood : StoodAs d.asks x c w
  pub kept : Kept x w.changes w
  pub moves : Each (IsMove p x c) w.changes

-- the dispatch goes on, and a stamp rose
abbrev pub TurnedTo : About → ℕ → ℕ → Point → Point → View → View → Type 0
TurnedTo p x c from to v w = Running p x c to.head.0 to.head.1 to.newest to.tried v w × (from.head.0 + from.newest < to.head.0 + to.newest)

-- an answer, or the point from which to go on
abbrev pub Turned : About → ℕ → ℕ → Point → Result Answer Point → View → View → Type 0
Turned p x c at r v w = MatchResult r (λ d. Answers p x c d v w) (λ to. TurnedTo p x c at to v w)

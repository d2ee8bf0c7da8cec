-- What the cells need of a program.
use Rattle.std.specs.Prelude.{◌≡◌, ℕ, ◌<◌, ◌≤◌, IsTrue, length}
use Rattle.program.specs.declared.numbered.Target.{Target}
use Rattle.method_lookup.specs.declared.linked.Linked.{Linked}
use Rattle.miss_handler.specs.declared.state.CallState.{CallState}
use Rattle.miss_handler.specs.declared.state.CallState.TheVariants.{Mono, Single}
use Rattle.miss_handler.specs.States.{Receivers, LawfulState}
use Rattle.miss_handler.specs.Sites.{receivers_at}
use Rattle.cell_rule.specs.declared.words.Info.{Info}
use Rattle.cell_rule.specs.Words.{no_target, IsSmall}

-- how many sites and classes there are, and what the calls of each site may meet
pub record About : Type 0 where
  pub sites : ℕ
  pub classes : ℕ
  pub at : ℕ → Receivers

-- that of a linked program
abbrev pub about_of : Linked → About
about_of linked = record { sites = length linked.program.sites; classes = length linked.program.classes; at = receivers_at linked }

-- what is true of each program: its numbers fit the words
pub record Sound (p : About) : Type 0 where
  pub few_classes : p.classes ≤ 2048
  pub few_sites : p.sites ≤ 65536
  pub same : (x : ℕ) → (p.at x).classes ≡ p.classes
  pub there : (x c : ℕ) → IsTrue ((p.at x).concrete c) → c < p.classes
  pub small : (x c : ℕ) → IsSmall ((p.at x).resolve c)

-- the target that goes with a state
abbrev pub state_target : Receivers → CallState → Target
state_target r (Mono a) = r.resolve a.0
state_target r (Single low high own) = own
state_target r _ = no_target

-- a lawful state with its target, which fits the word
pub record LawfulInfo (r : Receivers) (i : Info) : Type 0 where
  pub state : LawfulState r i.state
  pub target : i.target ≡ state_target r i.state
  pub small : IsSmall i.target

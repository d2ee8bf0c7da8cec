-- The history of each site, which exists in the rule alone, and what a view knows of it.
use Rattle.std.specs.Prelude.{◌≡◌, ℕ, ◌+◌, ◌<◌, ◌≤◌, Bool, true, false, IsTrue, List, [], ◌∷◌}
use mathlib.Core.Option.{some}
use lib.ListN.{get_elem?}
use Rattle.miss_handler.specs.declared.row.Check.{Check}
use Rattle.miss_handler.specs.declared.state.CallState.{CallState}
use Rattle.miss_handler.specs.States.{Explains, Lawful, Later, Move}
use Rattle.cell_rule.specs.declared.words.Info.{Info}
use Rattle.cell_rule.specs.declared.view.Seen.{Seen}
use Rattle.cell_rule.specs.declared.view.Seen.TheVariants.{Head, Data, Set, Empty}
use Rattle.cell_rule.specs.declared.view.Asked.{Asked}
use Rattle.cell_rule.specs.declared.view.View.{View}
use Rattle.list_members.specs.Members.{Has}
use Rattle.cell_rule.specs.Words.{entry_of}
use Rattle.cell_rule.specs.About.{About, LawfulInfo, state_target}

-- what was installed at a site: the data word of each stamp up to `top`, the present one; the stamp `low` of the target word; and the checks that are set
pub record History : Type 0 where
  pub top : ℕ
  pub low : ℕ
  pub at : ℕ → Info
  pub row : List Check

-- that of each site
abbrev pub Histories : Type 0
Histories = ℕ → History

-- the present state of a site
abbrev pub present : History → CallState
present t = (t.at t.top).state

-- the stamps are neighbours, each state was lawful, the present one is with its row, and states only rose
pub record IsHistory (p : About) (x : ℕ) (t : History) : Type 0 where
  pub behind : t.low ≤ t.top
  pub near : t.top ≤ t.low + 1
  pub few : t.top ≤ p.classes + 2
  pub infos : (k : ℕ) → k ≤ t.top → LawfulInfo (p.at x) (t.at k)
  pub lawful : Lawful (p.at x) (present t) t.row
  pub rising : (j k : ℕ) → j ≤ k → k ≤ t.top → Later (t.at j).state (t.at k).state

-- each site has a possible history
abbrev pub Good : About → Histories → Type 0
Good p h = (x : ℕ) → x < p.sites → IsHistory p x (h x)

-- a word that was seen stood in the history: a target word that is behind is that of the data word which stood at its stamp
abbrev pub Known : About → Histories → Seen → Type 0
Known p h (Head x k e) = (x < p.sites) × (k ≤ (h x).low) × (e ≡ entry_of ((h x).at k))
Known p h (Data x k i) = (x < p.sites) × (k ≤ (h x).top) × (i ≡ (h x).at k)
Known p h (Set x q k) = (x < p.sites) × (get_elem? (h x).row q ≡ some k)
Known p h (Empty x q) = x < p.sites

-- a call whose class the present state explains
abbrev pub Explained : Histories → Asked → Type 0
Explained h a = Explains (present (h a.site)) a.class

-- a call that is possible
abbrev pub InRange : About → Asked → Type 0
InRange p a = (a.site < p.sites) × IsTrue ((p.at a.site).concrete a.class)

-- the calls but the newest one, if it is open
abbrev pub settled : Bool → List Asked → List Asked
settled false l = l
settled true [] = []
settled true (a ∷ l) = l

-- a call of class c at site x
abbrev pub call : ℕ → ℕ → Asked
call x c = record { site = x; class = c }

-- a call of class c at the site x was opened in some view
abbrev pub Called : List View → ℕ → ℕ → Type 0
Called views x c = (j : ℕ) × (v : View) × (get_elem? views j ≡ some v) × Has (call x c) v.asked

-- these checks were seen, each at its place
abbrev pub RowSeen : ℕ → List Check → List Seen → Type 0
RowSeen x row seen = (q : ℕ) (k : Check) → get_elem? row q ≡ some k → Has (Set x q k) seen

-- the data word j is the transition of i by class c, over the checks that were seen
pub record Moved (p : About) (x c : ℕ) (i j : Info) (seen : List Seen) : Type 0 where
  pub row : List Check
  pub checks : RowSeen x row seen
  pub move : Move (p.at x) i.state row c j.state
  pub target : j.target ≡ state_target (p.at x) j.state

-- What is true of every entry, of every tree, with every number of turns.
use Rattle.std.specs.Prelude.{◌≡◌, ◌≢◌, ℕ, ◌+◌, ◌<◌, IsTrue, List, ◌++◌, length, All}
use Rattle.dart_syntax.specs.Syntax.{Tree, Function}
use Rattle.dart_meaning.specs.Place.{Place}
use Rattle.dart_meaning.specs.Classes.{class_numbers, is_concrete}
use Rattle.dart_meaning.specs.Run.{out_of_turns}
use Rattle.dart_meaning.specs.Sites.{sites, site_of}
use Rattle.dart_meaning.specs.Entry.{Meaning, entry_meaning, turns_spent}

-- ys begins with xs
abbrev pub IsFront : {A : Type 0} → List A → List A → Type 0
IsFront {A} xs ys = (rest : List A) × (ys ≡ xs ++ rest)

-- what is told at one moment is still told at a later one
pub record IsBefore (m n : Meaning) : Type 0 where
  pub lines : IsFront m.lines n.lines
  pub asked : IsFront m.asked n.asked
  pub tests : IsFront m.tests n.tests

-- With more turns an entry tells what it tells with fewer, and then more.
abbrev pub FewerTurnsTellAFront : Type 0
FewerTurnsTellAFront = (tree : Tree) (number : Place → ℕ) (f : Function) (n more : ℕ) →
    IsBefore (entry_meaning tree number f n) (entry_meaning tree number f (n + more))

-- An entry that does not run out of turns does the same with every greater number of turns: it prints the same lines, ends in the same way, asks the same cells, and spends as many turns.
abbrev pub EnoughTurnsAreEnough : Type 0
EnoughTurnsAreEnough = (tree : Tree) (number : Place → ℕ) (f : Function) (n more : ℕ) →
    (entry_meaning tree number f n).ending ≢ out_of_turns →
    (entry_meaning tree number f (n + more) ≡ entry_meaning tree number f n) × (turns_spent tree number f (n + more) ≡ turns_spent tree number f n)

-- An entry that runs out of turns has spent each of them, and would spend more.
abbrev pub OutOfTurnsSpendsAll : Type 0
OutOfTurnsSpendsAll = (tree : Tree) (number : Place → ℕ) (f : Function) (n more : ℕ) →
    (entry_meaning tree number f n).ending ≡ out_of_turns →
    (turns_spent tree number f n ≡ n) × (n < turns_spent tree number f (n + (1 + more)))

-- a call that was counted: at a site, on a class that is there and not abstract
abbrev pub IsCall : Tree → ℕ → ℕ × ℕ → Type 0
IsCall tree count call = (call.0 < count) × (call.1 < class_numbers tree) × IsTrue (is_concrete tree call.1)

-- Where each place has a number below the number of sites, each call that asks a cell is at a site, and on a concrete class.
abbrev pub AskedAtSites : Type 0
AskedAtSites = (tree : Tree) (number : Place → ℕ) (count : ℕ) → ((place : Place) → number place < count) →
    (f : Function) (n : ℕ) → All (IsCall tree count) (entry_meaning tree number f n).asked

-- With the sites of the tree itself: each call that asks a cell is at one of them.
abbrev pub AskedAtSitesOfTree : Type 0
AskedAtSitesOfTree = (tree : Tree) (f : Function) (n : ℕ) → All (IsCall tree (length (sites tree))) (entry_meaning tree (site_of tree) f n).asked

-- What an entry of a tree does with a number of turns.
use Rattle.std.specs.Prelude.{ℕ, zero, suc, ◌-◌, Bool, ◌&&◌, ◌||◌, nat_eq, List, [], length, map, reverse, Option, Some, None, is_some}
use Rattle.std.specs.Str.{bytes_eq}
use Rattle.std.specs.Prelude.{codes}
use Rattle.dart_syntax.specs.Syntax.{Tree, Function, Local}
use Rattle.dart_values.specs.Values.{Text, Value, null}
use Rattle.dart_meaning.specs.Place.{Place}
use Rattle.dart_meaning.specs.Program.{Entry, running, listing}
use Rattle.dart_meaning.specs.Classes.{Code, body_of, constructing, functions, variables, first_some, if_so}
use Rattle.dart_meaning.specs.Literals.{literal_or_null}
use Rattle.dart_meaning.specs.Run.{Run, Store, Ending, done, stack_overflow, Result, went, ended, M, ◌>>◌, stop, spend, framed}
use Rattle.dart_meaning.specs.Calls as calls
use Rattle.dart_meaning.specs.Meaning.{Bound, bind, world, body_value, build}

module _ (tree : Tree) (site_of : Place → ℕ) (enter : Entry Code → M Bound Value) where
  -- A body runs in a frame of its parameters, of which the first is the oldest variable, with `this`.
  abbrev pub inside_code : Code → Value → List Value → M Bound Value
  inside_code (body_of here params body) me args = framed (reverse (bind params args)) me (body_value tree site_of here enter body)
  inside_code (constructing class c) me args = build tree site_of (Some class) enter class c me (bind c.params args)

  -- what an entry does once its turn is spent
  abbrev pub inside : Entry Code → M Bound Value
  inside (running code me args) = inside_code code me args
  inside (listing v) = framed [] v (calls.list_text (world tree site_of None enter) v)

-- What stands so many levels above the greatest depth. An entry spends its turn first, and then has to have a level left.
unfoldable pub enter : Tree → (Place → ℕ) → ℕ → Entry Code → M Bound Value
enter tree site_of zero e = spend >> stop stack_overflow
enter tree site_of (suc left) e = spend >> inside tree site_of (enter tree site_of left) e

-- the greatest depth; an entry point has depth 1
abbrev pub greatest_depth : ℕ
greatest_depth = 2000

-- An isolate begins with an empty heap, with the variables of the unit at their literals, and with its turns.
abbrev pub first_store : List Value → ℕ → Store
first_store globals turns = record { heap = []; globals = globals; lines = []; turns = turns; asked = []; tests = [] }

-- a run before its first step
abbrev pub start : {V : Type 0} → List Value → ℕ → Run V
start globals turns = record { vars = []; this = null; store = first_store globals turns }

-- what the variables of the unit hold at first
abbrev pub globals_of : Tree → List Value
globals_of tree = map (λ (v : Local). literal_or_null v.value) (variables tree)

-- a function, with a greatest depth and a number of turns
abbrev pub entry_run : Tree → (Place → ℕ) → ℕ → Function → ℕ → Result Bound Value
entry_run tree site_of depth f turns = enter tree site_of depth (running (body_of None f.params f.body) null []) (start (globals_of tree) turns)

-- what an entry does: the lines that it prints, how it ends, the calls that ask a cell, by site and class, and the tests by `is`, by the value's class and the class named
pub record Meaning : Type 0 where
  pub lines : List Text
  pub ending : Ending
  pub asked : List (ℕ × ℕ)
  pub tests : List (ℕ × ℕ)

-- Lines, calls and tests count however the entry ends.
abbrev pub told : Ending → Store → Meaning
told ending s = record { lines = s.lines; ending = ending; asked = s.asked; tests = s.tests }

-- what a run told, whether it went through or was ended
abbrev pub seen : {V A : Type 0} → Result V A → Meaning
seen (went a r) = told done r.store
seen (ended e r) = told e r.store

-- what an entry does with a number of turns
abbrev pub entry_meaning : Tree → (Place → ℕ) → Function → ℕ → Meaning
entry_meaning tree site_of f turns = seen (entry_run tree site_of greatest_depth f turns)

-- the turns that are left in the end, and those that were spent
abbrev pub left : {V A : Type 0} → Result V A → ℕ
left (went a r) = r.store.turns
left (ended e r) = r.store.turns

-- how many turns an entry spends of those that it has
abbrev pub turns_spent : Tree → (Place → ℕ) → Function → ℕ → ℕ
turns_spent tree site_of f turns = turns - left (entry_run tree site_of greatest_depth f turns)

-- a function without parameters that is named `main` or marked
abbrev pub is_entry_point : Function → Bool
is_entry_point f = nat_eq (length f.params) 0 && (f.is_entry || bytes_eq f.name.text (codes "main"))

-- the first entry point of a name
abbrev pub entry_named : Tree → List ℕ → Option Function
entry_named tree name = first_some (map (λ (f : Function). if_so (is_entry_point f && bytes_eq f.name.text name) f) (functions tree))

-- the tree has an entry point of this name
abbrev pub has_entry : Tree → List ℕ → Bool
has_entry tree name = is_some (entry_named tree name)

-- How many classes a search up the chain visits.
use Rattle.std.specs.Prelude.{ℕ, suc, ◌+◌, List, [], ◌∷◌, slice_get, Option, None, Some, codes}
use Rattle.program.specs.declared.numbered.Method.{Method}
use Rattle.program.specs.declared.numbered.Selector.{Selector}
use Rattle.program.specs.declared.numbered.SelectorKind.{SelectorKind}
use Rattle.program.specs.declared.numbered.SelectorKind.TheVariants.{Call}
use Rattle.program.specs.Hierarchy.{chain}
use Rattle.program.specs.Parts.{Parts, parents}
use Rattle.program.specs.Lookup.{declared, lookup}
use Rattle.method_lookup.specs.Index.{name_number, keyed_if}

-- this class, and those above it where it has no such member
abbrev pub and_above : Option ℕ → ℕ → ℕ
and_above (Some m) above = 1
and_above None above = suc above

-- of these classes, up to the first that has the member, or all of them where none has it
abbrev pub visited : List Method → SelectorKind → List ℕ → List ℕ → ℕ
visited methods kind name [] = 0
visited methods kind name (c ∷ above) = and_above (declared methods c kind name) (visited methods kind name above)

-- a name that no member of the program has is looked for in no class
abbrev pub if_named : Option ℕ → ℕ → ℕ
if_named None count = 0
if_named (Some n) count = count

-- the classes that a search from class c up for a member of this kind and name visits
unfoldable pub visits : Parts → ℕ → SelectorKind → List ℕ → ℕ
visits p c kind name = if_named (name_number p.methods name) (visited p.methods kind name (chain (parents p.classes) c))

-- those that a search for the member of a selector visits
abbrev pub visits_by : Parts → ℕ → Option Selector → ℕ
visits_by p c None = 0
visits_by p c (Some sel) = visits p c sel.kind sel.name

-- those that a call of selector s on class c visits, whatever its number of arguments
unfoldable pub lookup_visits : Parts → ℕ → ℕ → ℕ
lookup_visits p c s = visits_by p c (slice_get p.selectors s)

-- those that the search for the `noSuchMethod` of class c visits
unfoldable pub missing_visits : Parts → ℕ → ℕ
missing_visits p c = visits p c Call (codes "noSuchMethod")

-- a count, where no member is found
abbrev pub if_none : Option ℕ → ℕ → ℕ
if_none (Some m) count = 0
if_none None count = count

-- both, where the call finds no member
unfoldable pub resolve_visits : Parts → ℕ → ℕ → ℕ
resolve_visits p c s = lookup_visits p c s + if_none (lookup p c s) (missing_visits p c)

-- the same by the number of a name

-- of these classes, up to the first that has the member
abbrev pub visited_by : List Method → SelectorKind → Option ℕ → List ℕ → ℕ
visited_by methods role name [] = 0
visited_by methods role name (c ∷ above) = and_above (keyed_if methods role name c) (visited_by methods role name above)

-- a name without a number is looked for in no class
abbrev pub keyed_visits : List Method → SelectorKind → Option ℕ → List ℕ → ℕ
keyed_visits methods role name classes = if_named name (visited_by methods role name classes)

-- Which member a call goes to.
use Rattle.std.specs.Prelude.{ℕ, ◌+◌, Bool, true, false, ◌&&◌, nat_eq, nat_le, if◌then◌else◌, List, [], ◌∷◌, length, slice_get, Option, None, Some, option_and_then, unwrap_or, codes}
use Rattle.std.specs.List.{position_from}
use Rattle.std.specs.Str.{bytes_eq}
use Rattle.program.specs.declared.numbered.Method.{Method}
use Rattle.program.specs.declared.numbered.Selector.{Selector}
use Rattle.program.specs.declared.numbered.SelectorKind.{SelectorKind}
use Rattle.program.specs.declared.numbered.SelectorKind.TheVariants.{Call, Get, Set}
use Rattle.program.specs.declared.numbered.Target.{Target}
use Rattle.program.specs.declared.numbered.Target.TheVariants as target
use Rattle.program.specs.Hierarchy.{chain}
use Rattle.program.specs.Parts.{Parts, parents}

abbrev pub same_kind : SelectorKind → SelectorKind → Bool
same_kind Call Call = true
same_kind Get Get = true
same_kind Set Set = true
same_kind _ _ = false

-- a member of this kind and name
abbrev pub is_named : SelectorKind → List ℕ → Method → Bool
is_named kind name m = same_kind m.role kind && bytes_eq m.name name

-- the same, of class c itself
abbrev pub is_declared_by : ℕ → SelectorKind → List ℕ → Method → Bool
is_declared_by c kind name m = nat_eq m.owner.0 c && is_named kind name m

-- the member of class c itself, with a body, of this kind and name
abbrev pub declared : List Method → ℕ → SelectorKind → List ℕ → Option ℕ
declared methods c kind name = position_from (is_declared_by c kind name) 0 methods

-- a class's own member, or else one from above
abbrev pub or_above : Option ℕ → Option ℕ → Option ℕ
or_above (Some m) above = Some m
or_above None above = above

-- that of the first of these classes that has one
abbrev pub first_declared : List Method → SelectorKind → List ℕ → List ℕ → Option ℕ
first_declared methods kind name [] = None
first_declared methods kind name (c ∷ above) = or_above (declared methods c kind name) (first_declared methods kind name above)

-- the required parameters have an argument each, and those with a default may have one
abbrev pub accepts : ℕ → Method → Bool
accepts count m = nat_le m.required count && nat_le count (m.required + length m.defaults)

-- member m, if it takes so many arguments
abbrev pub if_accepts : ℕ → ℕ → Option Method → Option ℕ
if_accepts count m None = None
if_accepts count m (Some k) = if accepts count k then Some m else None

-- from class c up by `extends`, the first member of the kind and name, where it takes so many arguments
abbrev pub found : Parts → ℕ → SelectorKind → List ℕ → ℕ → Option ℕ
found p c kind name count =
    option_and_then (λ m. if_accepts count m (slice_get p.methods m)) (first_declared p.methods kind name (chain (parents p.classes) c))

-- what a call of this selector finds on class c
abbrev pub found_by : Parts → ℕ → Selector → Option ℕ
found_by p c sel = found p c sel.kind sel.name sel.count

-- what a call of selector s on class c finds
unfoldable pub lookup : Parts → ℕ → ℕ → Option ℕ
lookup p c s = option_and_then (found_by p c) (slice_get p.selectors s)

-- the `noSuchMethod` of class c: each class finds one, since Object has it
unfoldable pub no_such_method : Parts → ℕ → Option ℕ
no_such_method p c = found p c Call (codes "noSuchMethod") 1

-- the member found, or else a `noSuchMethod`; that of Object has the number 2
abbrev pub target_or : Option ℕ → Option ℕ → Target
target_or (Some m) missing = target.Method (record { 0 = m })
target_or None missing = target.Nsm (record { 0 = unwrap_or missing 2 })

-- where a call of selector s on class c goes: to the member found, or else to the class's `noSuchMethod`
unfoldable pub resolve : Parts → ℕ → ℕ → Target
resolve p c s = target_or (lookup p c s) (no_such_method p c)

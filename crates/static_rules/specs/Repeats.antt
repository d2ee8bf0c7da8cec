-- A name that stands a second time.
use Rattle.std.specs.Prelude.{Bool, false, ◌||◌, List, [], ◌∷◌, None}
use Rattle.std.specs.Str.{bytes_eq}
use Rattle.dart_syntax.specs.declared.tree.Name.{Name}
use Rattle.dart_syntax.specs.Bytes.{Text}
use Rattle.static_rules.specs.Places.{Fault, at_if, ◌or_else◌}

-- which names were there before
abbrev pub Before : Type 0
Before = Text → Bool

abbrev pub nothing_before : Before
nothing_before q = false

-- one name more
abbrev pub with_name : Text → Before → Before
with_name name seen q = bytes_eq name q || seen q

-- the first of these names that was there before, or is there a second time
abbrev pub repeated : Before → List Name → Fault
repeated seen [] = None
repeated seen (n ∷ more) = at_if (seen n.text) n.span or_else repeated (with_name n.text seen) more

-- the first of these names that is there a second time
abbrev pub repeats : List Name → Fault
repeats = repeated nothing_before

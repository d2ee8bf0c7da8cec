-- Members that are taken one by one, where two sets hold the names so far.
use Rattle.std.specs.Prelude.{Bool, not, ◌||◌, ◌&&◌, if◌then◌else◌, List, [], ◌∷◌, filter_map, flat_map, None}
use Rattle.std.specs.List.{list_any}
use Rattle.std.specs.Str.{bytes_eq}
use Rattle.dart_syntax.specs.Syntax.{ClassDecl}
use Rattle.dart_syntax.specs.Bytes.{Text}
use Rattle.program.specs.declared.numbered.Method.{Method}
use Rattle.program.specs.declared.numbered.SelectorKind.TheVariants.{Call}
use Rattle.program.specs.Lookup.{same_kind}
use Rattle.declaration_rules.specs.declared.mixed.Declared as src
use Rattle.declaration_rules.specs.declared.mixed.Kinds.{Kinds}
use Rattle.static_rules.specs.Places.{Fault, at_if, ◌or_else◌}
use Rattle.static_rules.specs.Repeats.{Before, with_name, nothing_before}
use Rattle.static_rules.specs.Members.{Declared, declared_by}
use Rattle.declaration_rules.specs.Seen.{has, name_of}

-- a member of the text, as src/ has it
abbrev pub declared_of : src.Declared → Declared
declared_of d = record { name = name_of d.name; is_method = d.is_method }

-- a method among these built-in members has this name
abbrev pub is_method_in : List Method → Text → Bool
is_method_in all name = list_any (λ (m : Method). bytes_eq m.name name && same_kind m.role Call) all

-- a getter among these built-in members has this name
abbrev pub is_accessor_in : List Method → Text → Bool
is_accessor_in all name = list_any (λ (m : Method). bytes_eq m.name name && not (same_kind m.role Call)) all

-- the names of methods, and of other members, that are known
abbrev pub differs_from : Before → Before → Declared → Bool
differs_from methods accessors d = if d.is_method then accessors d.name.text else methods d.name.text

-- one of either
abbrev pub either_of : (Text → Bool) → Before → Before
either_of other seen q = other q || seen q

-- one name more, if it is of that sort
abbrev pub with_name_if : Bool → Text → Before → Before
with_name_if is_one name seen q = if is_one then with_name name seen q else seen q

-- the first of these members that differs from a built-in one or from one before it
abbrev pub mixed_by : List Method → Before → Before → List Declared → Fault
mixed_by built_in methods accessors [] = None
mixed_by built_in methods accessors (d ∷ more) =
    at_if (differs_from (either_of (is_method_in built_in) methods) (either_of (is_accessor_in built_in) accessors) d) d.name.span
    or_else mixed_by built_in (with_name_if d.is_method d.name.text methods) (with_name_if (not d.is_method) d.name.text accessors) more

-- the next member differs from a built-in one or from those taken
abbrev pub is_mixed : List Method → Kinds → Declared → Bool
is_mixed built_in kinds d = differs_from (either_of (is_method_in built_in) (has kinds.methods)) (either_of (is_accessor_in built_in) (has kinds.accessors)) d

-- the first place, where these members are still to come
abbrev pub left : List Method → Kinds → List Declared → Fault
left built_in kinds more = kinds.at or_else mixed_by built_in (has kinds.methods) (has kinds.accessors) more

-- the first of all members of these classes that differs
abbrev pub mixed_in : List Method → List ClassDecl → Fault
mixed_in built_in cs = mixed_by built_in nothing_before nothing_before (flat_map (λ (c : ClassDecl). filter_map declared_by c.members) cs)

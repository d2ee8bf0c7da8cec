-- **BadOverride.** A method takes another number of parameters than the nearest declaration of its name up the `extends` chain; abstract and built-in declarations are counted. The place is the method's name.
use Rattle.std.specs.Prelude.{ℕ, Bool, false, not, nat_eq, find, position, map, length, option_map, Option, None, Some}
use Rattle.std.specs.Option.{option_and_then}
use Rattle.std.specs.Str.{bytes_eq}
use Rattle.dart_syntax.specs.Syntax as t
use Rattle.dart_syntax.specs.Syntax.{Member, ClassDecl, Tree}
use Rattle.program.specs.declared.numbered.Method.{Method}
use Rattle.program.specs.declared.numbered.SelectorKind.TheVariants.{Call}
use Rattle.program.specs.BuiltIn.{built_in_members}
use Rattle.program.specs.Lookup.{is_declared_by}
use Rattle.dart_values.specs.Values.{Text}
use Rattle.dart_meaning.specs.Classes.{classes, class_named, chain_above, built_in_names, first_some, if_so}
use Rattle.static_rules.specs.Places.{Fault, at_if, first_in}

-- An operator's number of parameters is given by its name.
abbrev pub own_count : Text → Member → Option ℕ
own_count name (t.method n params b) = if_so (bytes_eq n.text name) (length params)
own_count name _ = None

-- how many parameters a built-in class's method of a name has
abbrev pub built_in_count : Text → Text → Option ℕ
built_in_count class name =
    option_and_then (λ number. option_map (λ (m : Method). m.required) (find (is_declared_by number Call name) built_in_members)) (position (bytes_eq class) built_in_names)

-- how many parameters a class's own declaration of a method has
abbrev pub count_in : Text → Text → Option ClassDecl → Option ℕ
count_in class name (Some c) = first_some (map (own_count name) c.members)
count_in class name None = built_in_count class name

-- those of the nearest declaration above a class
abbrev pub count_above : Tree → Text → Text → Option ℕ
count_above tree class name = first_some (map (λ above. count_in above name (class_named tree above)) (chain_above tree class))

-- another number than that of the declaration above, if there is one
abbrev pub differs : Option ℕ → ℕ → Bool
differs None k = false
differs (Some n) k = not (nat_eq n k)

-- where one member breaks the rule
abbrev pub in_member : Tree → ClassDecl → Member → Fault
in_member tree c (t.method n params b) = at_if (differs (count_above tree c.name.text n.text) (length params)) n.span
in_member tree c _ = None

-- the first place at which the tree breaks the rule
unfoldable pub bad_override : Tree → Fault
bad_override tree = first_in (λ (c : ClassDecl). first_in (in_member tree c) c.members) (classes tree)

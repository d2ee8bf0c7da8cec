-- Names of classes and of top-level declarations, as src/ knows them.
use Rattle.std.specs.Prelude.{Bool, not, ◌||◌, ◌&&◌, List, map}
use Rattle.std.specs.List.{list_any}
use Rattle.std.specs.Str.{bytes_eq}
use Rattle.dart_syntax.specs.declared.tree.Name.{Name}
use Rattle.dart_syntax.specs.Syntax.{ClassDecl}
use Rattle.dart_syntax.specs.Bytes.{Text}
use Rattle.program.specs.declared.numbered.Class.{Class}
use Rattle.dart_meaning.specs.Classes.{object}
use Rattle.dart_meaning.specs.Means.{print_name}
use Rattle.declaration_rules.specs.declared.supers.SuperRule.{SuperRule}
use Rattle.declaration_rules.specs.declared.supers.SuperRule.TheVariants as rule
use Rattle.static_rules.specs.Places.{Fault, at_if, first_in}
use Rattle.static_rules.specs.Repeats.{Before}
use Rattle.static_rules.specs.Supers.{supers}

abbrev pub class_names : List Class → List Text
class_names = map (λ (k : Class). k.name)

abbrev pub is_one_of : List Text → Text → Bool
is_one_of names name = list_any (bytes_eq name) names

-- one of the built-in classes' names, or `print`
abbrev pub is_built_in_of : List Text → Text → Bool
is_built_in_of names name = list_any (bytes_eq name) names || bytes_eq print_name name

-- one of these, or one that was there before
abbrev pub also_known : (Text → Bool) → Before → Before
also_known other seen q = seen q || other q

-- a class of the text has this name
abbrev pub is_declared : List ClassDecl → Text → Bool
is_declared cs name = list_any (λ (c : ClassDecl). bytes_eq c.name.text name) cs

-- what one of the rules says of a name, where these are the classes of the text and the built-in ones
abbrev pub breaks : SuperRule → (Text → Bool) → (Text → Bool) → Name → Bool
breaks rule.Unknown known built_in n = not (known n.text || built_in n.text)
breaks rule.BuiltIn known built_in n = built_in n.text && not (bytes_eq n.text object)

-- the place of a name that breaks the rule
abbrev pub breaks_at : SuperRule → (Text → Bool) → (Text → Bool) → Name → Fault
breaks_at rule known built_in n = at_if (breaks rule known built_in n) n.span

-- the first such place in a class's head
abbrev pub breaks_in : SuperRule → (Text → Bool) → (Text → Bool) → ClassDecl → Fault
breaks_in rule known built_in c = first_in (breaks_at rule known built_in) (supers c)

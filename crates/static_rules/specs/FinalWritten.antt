-- **FinalWritten.** An assignment to a final local, parameter or variable of the text, to a parameter `this.x` in what a constructor passes to its superclass, or to the name of a function or a class, `print` counted; `this.x` for a final field x with an initialiser. The place is that name.
use Rattle.std.specs.Prelude.{Bool, true, false, ◌&&◌, is_some, Option, None}
use Rattle.std.specs.List.{list_any}
use Rattle.std.specs.Str.{bytes_eq}
use Rattle.dart_syntax.specs.Syntax.{ClassDecl, Local, Tree}
use Rattle.dart_values.specs.Values.{Text}
use Rattle.dart_meaning.specs.Classes.{declared_fields}
use Rattle.dart_meaning.specs.Uses.{Use, writes, sets_field, Part}
use Rattle.dart_meaning.specs.Means.{Means, a_local, a_top, means}
use Rattle.static_rules.specs.Places.{Fault, at_if}
use Rattle.static_rules.specs.InParts.{in_parts}
use Rattle.static_rules.specs.Statics.{Static, a_variable, static_named}

-- a final variable, a function, a class or `print`
abbrev pub is_fixed_static : Static → Bool
is_fixed_static (a_variable v) = v.is_final
is_fixed_static _ = true

-- a bare name that may not be assigned to, by what it means; a member's setter is called in any case
abbrev pub is_fixed : Tree → Text → Means → Bool
is_fixed tree name (a_local is_final) = is_final
is_fixed tree name a_top = is_fixed_static (static_named tree name)
is_fixed tree name _ = false

-- the class has a final field of this name, with an initialiser
abbrev pub is_initialised : Option ClassDecl → Text → Bool
is_initialised class name = list_any (λ (f : Local). bytes_eq f.name.text name && f.is_final && is_some f.value) (declared_fields class)

-- where one use breaks the rule
abbrev pub final_in : Tree → Part → Use → Fault
final_in tree part (writes n seen) = at_if (is_fixed tree n.text (means tree part n seen)) n.span
final_in tree part (sets_field n) = at_if (is_initialised part.class n.text) n.span
final_in tree part _ = None

-- the first place at which the tree breaks the rule
unfoldable pub final_written : Tree → Fault
final_written tree = in_parts (final_in tree) tree

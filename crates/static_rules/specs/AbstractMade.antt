-- **AbstractMade.** A construction of an abstract class, or of a built-in class other than Object. The place is the class's name there.
use Rattle.std.specs.Prelude.{Bool, false, not, ◌&&◌, None}
use Rattle.std.specs.Str.{bytes_eq}
use Rattle.dart_syntax.specs.Syntax.{Tree}
use Rattle.dart_values.specs.Values.{Text}
use Rattle.dart_meaning.specs.Classes.{object}
use Rattle.dart_meaning.specs.Uses.{Use, calls, Part}
use Rattle.dart_meaning.specs.Means.{Means, a_top, means, print_name}
use Rattle.static_rules.specs.Places.{Fault, at_if}
use Rattle.static_rules.specs.InParts.{in_parts}
use Rattle.static_rules.specs.Statics.{Static, a_class, a_built_in, static_named}

-- no object of it is made
abbrev pub is_unmade : Text → Static → Bool
is_unmade name (a_class c) = c.is_abstract
is_unmade name a_built_in = not (bytes_eq name print_name) && not (bytes_eq name object)
is_unmade name _ = false

-- a bare call that would make an object of such a class
abbrev pub makes_unmade : Tree → Text → Means → Bool
makes_unmade tree name a_top = is_unmade name (static_named tree name)
makes_unmade tree name _ = false

-- where one use breaks the rule
abbrev pub abstract_in : Tree → Part → Use → Fault
abstract_in tree part (calls n seen k) = at_if (makes_unmade tree n.text (means tree part n seen)) n.span
abstract_in tree part _ = None

-- the first place at which the tree breaks the rule
unfoldable pub abstract_made : Tree → Fault
abstract_made tree = in_parts (abstract_in tree) tree

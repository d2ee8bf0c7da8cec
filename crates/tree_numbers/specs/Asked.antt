-- What is asked of a class by its name, if there is one.
use Rattle.std.specs.Prelude.{ℕ, Bool, false, not, Option, None, Some, unwrap_or}
use Rattle.std.specs.Option.{option_map}
use Rattle.dart_syntax.specs.Syntax.{Tree, ClassDecl}
use Rattle.dart_syntax.specs.Bytes.{Text}
use Rattle.dart_meaning.specs.Classes.{class_named}
use Rattle.tree_numbers.specs.Maps.{Known}
use Rattle.tree_numbers.specs.ClassFacts.{Facts, facts}

-- a class that is known has a member of this name
abbrev pub has_name : Option Facts → Text → Bool
has_name None q = false
has_name (Some f) q = f.named q

-- whether the class, if there is one, declares a member of the name
abbrev pub declares_in : Known Facts → Option Text → Text → Bool
declares_in known None q = false
declares_in known (Some h) q = has_name (known h) q

-- a class that is known and not abstract, so that a call of its name makes an object
abbrev pub is_made : Option Facts → Bool
is_made None = false
is_made (Some f) = not f.class.is_abstract

-- the place of a field among those that its class declares
abbrev pub own_place : Option Facts → Text → ℕ
own_place None q = 0
own_place (Some f) q = unwrap_or (f.fields q) 0

-- what is to be known of the classes of a tree
abbrev pub known_of : Tree → Known Facts
known_of tree q = option_map facts (class_named tree q)

abbrev pub decl_of : Option Facts → Option ClassDecl
decl_of o = option_map (λ (f : Facts). f.class) o

-- **WrongArgumentsOfStatic.** A call of a function, of `print`, of a constructor, of the superclass's constructor, written or implicit, or of a method of `super` with another number of arguments than it takes. `print` takes one.
-- The place is the name that is called; of a written call of the superclass's constructor it is the word `super`, and of an implicit one the class's name.
use Rattle.std.specs.Prelude.{ℕ, Bool, false, not, nat_eq, length, Option, None, Some, unwrap_or, if◌then◌else◌}
use Rattle.std.specs.Str.{bytes_eq}
use Rattle.dart_syntax.specs.Syntax.{ClassDecl, Tree}
use Rattle.program.specs.declared.numbered.SelectorKind.TheVariants.{Call}
use Rattle.dart_values.specs.Values.{Text}
use Rattle.dart_meaning.specs.Classes.{object, constructor_of, parent, agrees, Taking}
use Rattle.dart_meaning.specs.Uses.{Use, calls, super_calls, enters_super, Part}
use Rattle.dart_meaning.specs.Means.{Means, a_top, means, print_name, super_member}
use Rattle.static_rules.specs.Places.{Fault, at_if}
use Rattle.static_rules.specs.InParts.{in_parts}
use Rattle.static_rules.specs.Statics.{Static, a_variable, a_function, a_class, a_built_in, static_named}

-- how many arguments the constructor of a class takes; that of Object takes none
abbrev pub constructor_count : Tree → Text → ℕ
constructor_count tree class = length (constructor_of tree class).params

-- how many arguments a name takes that is called; a variable is not called
abbrev pub static_count : Tree → Text → Static → Option ℕ
static_count tree name (a_variable v) = None
static_count tree name (a_function f) = Some (length f.params)
static_count tree name (a_class c) = Some (constructor_count tree name)
static_count tree name a_built_in = Some (if bytes_eq name print_name then 1 else 0)

-- another number of arguments than is taken, where it is known
abbrev pub differs : ℕ → Option ℕ → Bool
differs k None = false
differs k (Some n) = not (nat_eq k n)

-- a bare call of a function, a class or `print`, with another number
abbrev pub is_wrong_call : Tree → Text → ℕ → Means → Bool
is_wrong_call tree name k a_top = differs k (static_count tree name (static_named tree name))
is_wrong_call tree name k _ = false

-- a call of a method of `super` with a number that it does not take
abbrev pub is_wrong_super : ℕ → Option Taking → Bool
is_wrong_super k None = false
is_wrong_super k (Some m) = not (agrees k m)

-- the number of arguments that the constructor of the superclass takes
abbrev pub super_count : Tree → Option ClassDecl → ℕ
super_count tree None = 0
super_count tree (Some c) = constructor_count tree (unwrap_or (parent tree c.name.text) object)

-- where one use breaks the rule
abbrev pub wrong_in : Tree → Part → Use → Fault
wrong_in tree part (calls n seen k) = at_if (is_wrong_call tree n.text k (means tree part n seen)) n.span
wrong_in tree part (super_calls at n k) = at_if (is_wrong_super k (super_member tree part.class Call n.text)) n.span
wrong_in tree part (enters_super at k) = at_if (not (nat_eq k (super_count tree part.class))) at
wrong_in tree part _ = None

-- the first place at which the tree breaks the rule
unfoldable pub wrong_arguments_of_static : Tree → Fault
wrong_arguments_of_static tree = in_parts (wrong_in tree) tree

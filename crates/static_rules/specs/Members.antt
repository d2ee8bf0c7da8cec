-- The names of all members, those of the built-in classes counted: which are methods, and which are fields, getters or setters.
use Rattle.std.specs.Prelude.{Bool, true, false, not, ◌&&◌, ◌||◌, List, filter_map, flat_map, Option, None, Some}
use Rattle.std.specs.List.{list_any}
use Rattle.std.specs.Str.{bytes_eq}
use Rattle.dart_syntax.specs.declared.tree.Name.{Name}
use Rattle.dart_syntax.specs.Syntax as t
use Rattle.dart_syntax.specs.Syntax.{Member, ClassDecl, Tree}
use Rattle.program.specs.declared.numbered.Method.{Method}
use Rattle.program.specs.declared.numbered.SelectorKind.TheVariants.{Call}
use Rattle.program.specs.BuiltIn.{built_in_members}
use Rattle.program.specs.Lookup.{same_kind}
use Rattle.dart_values.specs.Values.{Text}
use Rattle.dart_meaning.specs.Classes.{classes}

-- a member of the text by its name, and whether it is a method
pub record Declared : Type 0 where
  pub name : Name
  pub is_method : Bool

abbrev pub declared : Name → Bool → Option Declared
declared n is_method = Some (record { name = n; is_method = is_method })

-- An operator has no name that another member could have.
abbrev pub declared_by : Member → Option Declared
declared_by (t.field l) = declared l.name false
declared_by (t.method n params b) = declared n true
declared_by (t.getter n b) = declared n false
declared_by (t.setter n param b) = declared n false
declared_by (t.operator op at params b) = None
declared_by (t.constructor n params passed b) = None

-- the members of the text, in its order
abbrev pub user_members : Tree → List Declared
user_members tree = flat_map (λ (c : ClassDecl). filter_map declared_by c.members) (classes tree)

-- a method among these has this name
abbrev pub is_method_of : List Declared → Text → Bool
is_method_of all name = list_any (λ d. bytes_eq d.name.text name && d.is_method) all

-- a field, a getter or a setter among these has this name
abbrev pub is_accessor_of : List Declared → Text → Bool
is_accessor_of all name = list_any (λ d. bytes_eq d.name.text name && not d.is_method) all

-- a method of a built-in class has this name
abbrev pub is_built_in_method : Text → Bool
is_built_in_method name = list_any (λ (m : Method). bytes_eq m.name name && same_kind m.role Call) built_in_members

-- a getter of a built-in class has this name
abbrev pub is_built_in_accessor : Text → Bool
is_built_in_accessor name = list_any (λ (m : Method). bytes_eq m.name name && not (same_kind m.role Call)) built_in_members

-- a method of some class
abbrev pub is_method : Tree → Text → Bool
is_method tree name = is_built_in_method name || is_method_of (user_members tree) name

-- a field, a getter or a setter of some class
abbrev pub is_accessor : Tree → Text → Bool
is_accessor tree name = is_built_in_accessor name || is_accessor_of (user_members tree) name

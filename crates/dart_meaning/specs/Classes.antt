-- The classes and members of a tree, by name; which member a call finds; the numbers of classes.
use Rattle.std.specs.Prelude.{ℕ, zero, suc, ◌+◌, ◌<◌, ◌≤◌, Bool, true, false, IsTrue, not, ◌&&◌, ◌||◌, if◌then◌else◌, nat_lt, nat_le, List, [], ◌∷◌, ◌++◌, length, map, reverse, drop, flat_map, filter_map, count_by, position, slice_get, slice_index_or, Option, Some, None, is_some, unwrap_or, codes}
use Rattle.std.specs.Option.{option_map, option_and_then, option_to_list}
use Rattle.std.specs.List.{list_any}
use Rattle.std.specs.Str.{bytes_eq}
use Rattle.dart_syntax.specs.declared.tree.Name.{Name}
use Rattle.dart_syntax.specs.Syntax as t
use Rattle.dart_syntax.specs.Syntax.{Tree, Exps, Stas, Param, Body, Function, Local, Member, Passed, ClassDecl, Top}
use Rattle.program.specs.declared.numbered.Class.{Class}
use Rattle.program.specs.declared.numbered.Method.{Method}
use Rattle.program.specs.declared.numbered.Selector.{Selector}
use Rattle.program.specs.declared.numbered.SelectorKind.{SelectorKind}
use Rattle.program.specs.declared.numbered.SelectorKind.TheVariants.{Call, Get, Set}
use Rattle.program.specs.BuiltIn.{built_in_classes, built_in_members}
use Rattle.program.specs.Lookup.{declared}
use Rattle.dart_values.specs.Values.{Text}
use Rattle.dart_meaning.specs.Literals.{literal_or_null}
use Rattle.dart_meaning.specs.Operators.{operator_name}
use Rattle.dart_meaning.specs.Program.{Found, built_in, reads, writes, coded, Program}

-- ---- what a tree declares, in the order of the text

-- the class that a declaration is, if it is one
abbrev pub class_at : Top → Option ClassDecl
class_at (t.a_class c) = Some c
class_at _ = None

-- the function that a declaration is, if it is one
abbrev pub function_at : Top → Option Function
function_at (t.a_function f) = Some f
function_at _ = None

-- the variable that a declaration is, if it is one
abbrev pub variable_at : Top → Option Local
variable_at (t.a_variable v) = Some v
variable_at _ = None

-- the classes of the user's
abbrev pub classes : Tree → List ClassDecl
classes tree = filter_map class_at tree.tops

-- the top-level functions
abbrev pub functions : Tree → List Function
functions tree = filter_map function_at tree.tops

-- the top-level variables
abbrev pub variables : Tree → List Local
variables tree = filter_map variable_at tree.tops

-- the first that there is
abbrev pub first_some : {A : Type 0} → List (Option A) → Option A
first_some [] = None
first_some (Some a ∷ more) = Some a
first_some (None ∷ more) = first_some more

-- a value under a condition
abbrev pub if_so : {A : Type 0} → Bool → A → Option A
if_so true a = Some a
if_so false a = None

-- the first class of the user's with this name
abbrev pub class_named : Tree → Text → Option ClassDecl
class_named tree name = first_some (map (λ (c : ClassDecl). if_so (bytes_eq c.name.text name) c) (classes tree))

-- the first function with this name
abbrev pub function_named : Tree → Text → Option Function
function_named tree name = first_some (map (λ (f : Function). if_so (bytes_eq f.name.text name) f) (functions tree))

-- a variable's place among the variables
abbrev pub variable_place : Tree → Text → Option ℕ
variable_place tree name = position (λ (v : Local). bytes_eq v.name.text name) (variables tree)

-- ---- the hierarchy, by names

-- the name of the class above all others
abbrev pub object : Text
object = codes "Object"

-- Object, Null, bool, int, String, List and Invocation
abbrev pub built_in_names : List Text
built_in_names = map (λ (k : Class). k.name) built_in_classes

-- A class that names none is below Object, as a built-in one is. Object is below none.
abbrev pub parent_of : Option ClassDecl → Text → Option Text
parent_of (Some c) class = Some (unwrap_or (option_map (λ (n : Name). n.text) c.parent) object)
parent_of None class = if_so (not (bytes_eq class object)) object

-- the name of the class directly above one
abbrev pub parent : Tree → Text → Option Text
parent tree class = parent_of (class_named tree class) class

-- No way up has more classes than there are.
abbrev pub class_count : Tree → ℕ
class_count tree = 7 + length (classes tree)

-- the classes from one up by `extends`, at most n of them
abbrev pub chain_from : ℕ → Tree → Text → List Text
chain_from zero tree class = []
chain_from (suc n) tree class = class ∷ unwrap_or (option_map (chain_from n tree) (parent tree class)) []

-- a class and those above it by `extends`, the nearest first
abbrev pub chain : Tree → Text → List Text
chain tree class = chain_from (class_count tree) tree class

-- the classes above one, the nearest first
abbrev pub chain_above : Tree → Text → List Text
chain_above tree class = drop 1 (chain tree class)

-- the names behind `implements` in a class's head
abbrev pub interfaces_of : Tree → Text → List Text
interfaces_of tree class = unwrap_or (option_map (λ (c : ClassDecl). map (λ (n : Name). n.text) c.interfaces) (class_named tree class)) []

-- the same as `is_subtype`, over ways of at most n classes
abbrev pub is_subtype_from : ℕ → Tree → Text → Text → Bool
is_subtype_from zero tree class other = false
is_subtype_from (suc n) tree class other =
    bytes_eq class other || list_any (λ c. is_subtype_from n tree c other) (option_to_list (parent tree class) ++ interfaces_of tree class)

-- a class is another one, or that one is above it by `extends` and `implements`
abbrev pub is_subtype : Tree → Text → Text → Bool
is_subtype tree class other = is_subtype_from (class_count tree) tree class other

-- ---- fields

-- the field that a member is, if it is one
abbrev pub field_of : Member → Option Local
field_of (t.field f) = Some f
field_of _ = None

-- the fields that a declaration of a class has
abbrev pub declared_fields : Option ClassDecl → List Local
declared_fields None = []
declared_fields (Some c) = filter_map field_of c.members

-- the fields that a class itself declares
abbrev pub own_fields : Tree → Text → List Local
own_fields tree class = declared_fields (class_named tree class)

-- those of the classes above it, the highest class's before all
abbrev pub fields_above : Tree → Text → List Local
fields_above tree class = flat_map (own_fields tree) (reverse (chain_above tree class))

-- all fields of an object, in the order in which they stand in it
abbrev pub fields : Tree → Text → List Local
fields tree class = fields_above tree class ++ own_fields tree class

-- the place in the object of a field that the class declares
abbrev pub field_place : Tree → Text → Text → ℕ
field_place tree class name =
    length (fields_above tree class) + unwrap_or (position (λ (f : Local). bytes_eq f.name.text name) (own_fields tree class)) 0

-- ---- constructors and bodies

-- its parameters, what it passes to the superclass, and its body
pub record Constructor : Type 0 where
  pub params : List Param
  pub passes : Exps
  pub body : Stas

-- a constructor that passes nothing where none is written, and does nothing where it has no body
abbrev pub constructor_in : Member → Option Constructor
constructor_in (t.constructor name params passes body) = Some (record { params = params; passes = unwrap_or (option_map (λ (p : Passed). p.args) passes) t.no_more; body = unwrap_or body t.done })
constructor_in _ = None

-- without a constructor, a class has one without parameters
abbrev pub no_constructor : Constructor
no_constructor = record { params = []; passes = t.no_more; body = t.done }

-- the constructor that a class has, written or not
abbrev pub constructor_of : Tree → Text → Constructor
constructor_of tree class =
    unwrap_or (option_and_then (λ (c : ClassDecl). first_some (map constructor_in c.members)) (class_named tree class)) no_constructor

-- A body of a tree: of a function or member with its parameters, and the class that holds it, if any; or a constructor.
pub data Code : Type 0 where
  body_of : Option Text → List Param → Body → Code
  constructing : Text → Constructor → Code

-- ---- which member a call finds

-- A member with a body, and the least and the greatest number of arguments that it takes.
pub record Taking : Type 0 where
  pub least : ℕ
  pub most : ℕ
  pub found : Found Code

-- a member with the least and the greatest number of arguments
abbrev pub taking : ℕ → ℕ → Found Code → Taking
taking least most found = record { least = least; most = most; found = found }

-- the parameters that each call has to give
abbrev pub required : List Param → ℕ
required params = count_by (λ (p : Param). not p.optional) params

-- An abstract declaration has no body.
abbrev pub with_body : Text → List Param → Option Body → Option Taking
with_body class params None = None
with_body class params (Some body) = Some (taking (required params) (length params) (coded (body_of (Some class) params body)))

-- What a member is for a kind and a name. A field is a getter and, unless it is final, a setter, each with a body.
abbrev pub in_member : (Text → ℕ) → Text → SelectorKind → Text → Member → Option Taking
in_member place class Get name (t.field f) = if_so (bytes_eq f.name.text name) (taking 0 0 (reads (place name)))
in_member place class Set name (t.field f) = if_so (bytes_eq f.name.text name && not f.is_final) (taking 1 1 (writes (place name)))
in_member place class Call name (t.method n params body) = if bytes_eq n.text name then with_body class params body else None
in_member place class Get name (t.getter n body) = if bytes_eq n.text name then with_body class [] body else None
in_member place class Set name (t.setter n param body) = if bytes_eq n.text name then with_body class (param ∷ []) body else None
in_member place class Call name (t.operator op span params body) = if bytes_eq (operator_name op params) name then with_body class params body else None
in_member place class kind name _ = None

-- built-in member number m takes exactly as many arguments as it has parameters
abbrev pub built_in_taking : ℕ → Taking
built_in_taking m =
    let count = unwrap_or (option_map (λ (k : Method). k.required) (slice_get built_in_members m)) 0
    in taking count count (built_in m)

-- A class that the tree does not declare is a built-in one, with the number of its name.
abbrev pub in_class : Tree → Option ClassDecl → Text → SelectorKind → Text → Option Taking
in_class tree (Some c) class kind name = first_some (map (in_member (field_place tree class) class kind name) c.members)
in_class tree None class kind name =
    option_and_then (λ c. option_map built_in_taking (declared built_in_members c kind name)) (position (bytes_eq class) built_in_names)

-- what a class itself declares with a body
abbrev pub own : Tree → Text → SelectorKind → Text → Option Taking
own tree class kind name = in_class tree (class_named tree class) class kind name

-- whether a member takes so many arguments
abbrev pub agrees : ℕ → Taking → Bool
agrees count m = nat_le m.least count && nat_le count m.most

-- From a class up by `extends`, the first member of the selector's kind and name; nothing where it takes another number of arguments, or where there is none.
abbrev pub lookup : Tree → Text → Selector → Option (Found Code)
lookup tree class sel =
    option_and_then (λ m. if_so (agrees sel.count m) m.found)
    (first_some (map (λ c. own tree c sel.kind sel.name) (chain tree class)))

-- ---- names of members

-- a member of this name that is read, written or called by it, abstract ones counted
abbrev pub is_member : Text → Member → Bool
is_member name (t.field f) = bytes_eq f.name.text name
is_member name (t.method n params body) = bytes_eq n.text name
is_member name (t.getter n body) = bytes_eq n.text name
is_member name (t.setter n param body) = bytes_eq n.text name
is_member name _ = false

-- the class declares a member of this name
abbrev pub is_own_member : Option ClassDecl → Text → Bool
is_own_member None name = false
is_own_member (Some c) name = list_any (is_member name) c.members

-- whether the class that holds a body, if any, declares such a member itself
abbrev pub class_declares : Tree → Option Text → Text → Bool
class_declares tree here name = is_own_member (option_and_then (class_named tree) here) name

-- ---- the numbers of classes

-- the classes directly below one by `extends`, in the order of the text
abbrev pub children : Tree → Text → List Text
children tree class =
    filter_map (λ (c : ClassDecl). if_so (bytes_eq (unwrap_or (parent tree c.name.text) []) class) c.name.text) (classes tree)

-- a class and the classes below it, each before those that extend it, at most n levels deep
abbrev pub preorder : ℕ → Tree → Text → List Text
preorder zero tree class = []
preorder (suc n) tree class = class ∷ flat_map (preorder n tree) (children tree class)

-- Object, the other built-in classes, and then those of the user's, each before the classes below it
abbrev pub class_names : Tree → List Text
class_names tree = built_in_names ++ flat_map (preorder (class_count tree) tree) (children tree object)

-- the number of a class, which values and calls know it by
abbrev pub class_number : Tree → Text → ℕ
class_number tree name = unwrap_or (position (bytes_eq name) (class_names tree)) 0

-- the name of the class of this number
abbrev pub class_name : Tree → ℕ → Text
class_name tree c = slice_index_or (class_names tree) c []

-- how many numbers there are
abbrev pub class_numbers : Tree → ℕ
class_numbers tree = length (class_names tree)

-- class d is c or below it by `extends`
abbrev pub is_below : Tree → ℕ → ℕ → Bool
is_below tree d c = list_any (bytes_eq (class_name tree c)) (chain tree (class_name tree d))

-- the greatest number among c and the classes below it
pub record IsLast (tree : Tree) (c last : ℕ) : Type 0 where
  pub there : last < class_numbers tree
  pub below : IsTrue (is_below tree last c)
  pub greatest : (d : ℕ) → d < class_numbers tree → IsTrue (is_below tree d c) → d ≤ last

-- whether the text declares the class abstract
abbrev pub is_abstract : Tree → Text → Bool
is_abstract tree class = unwrap_or (option_map (λ (c : ClassDecl). c.is_abstract) (class_named tree class)) false

-- a built-in class, or one that is not declared abstract
abbrev pub is_concrete : Tree → ℕ → Bool
is_concrete tree c = nat_lt c 7 || not (is_abstract tree (class_name tree c))

-- Object, or a class of the user's that is not abstract: what a call of the name makes an object of
abbrev pub is_constructed : Tree → Text → Bool
is_constructed tree name = bytes_eq name object || is_some (class_named tree name) && not (is_abstract tree name)

-- ---- a tree, as calls see it

-- Object's constructor is not entered.
abbrev pub constructor_at : Tree → Text → Option Code
constructor_at tree class = if_so (not (bytes_eq class object)) (constructing class (constructor_of tree class))

-- what calls ask of a tree, its classes by their numbers
abbrev pub of_tree : Tree → Program Code
of_tree tree = record {
  lookup = λ c sel. lookup tree (class_name tree c) sel;
  class_name = class_name tree;
  is_subtype = λ c d. is_subtype tree (class_name tree c) (class_name tree d);
  fields = λ c. map (λ (f : Local). literal_or_null f.value) (fields tree (class_name tree c));
  constructor = λ c. constructor_at tree (class_name tree c);
}

-- The built-in classes and members.
use Rattle.std.specs.Prelude.{ℕ, Bool, false, ◌||◌, nat_eq, nat_le, List, [], ◌∷◌, Option, None, Some, codes}
use Rattle.program.specs.declared.ids.ClassId.{ClassId}
use Rattle.program.specs.declared.numbered.Class.{Class}
use Rattle.program.specs.declared.numbered.Method.{Method}
use Rattle.program.specs.declared.numbered.MethodBody.TheVariants as does
use Rattle.program.specs.declared.numbered.Selector.{Selector}
use Rattle.program.specs.declared.numbered.SelectorKind.{SelectorKind}
use Rattle.program.specs.declared.numbered.SelectorKind.TheVariants.{Call, Get}
use Rattle.program.specs.declared.numbered.Site.{Site}
use Rattle.program.specs.declared.numbered.SitePlace.{SitePlace}
use Rattle.program.specs.declared.numbered.SitePlace.TheVariants as place
use Rattle.program.specs.Parts.{Parts, parts}

abbrev pub object : ℕ
object = 0

abbrev pub null : ℕ
null = 1

abbrev pub bool : ℕ
bool = 2

abbrev pub int : ℕ
int = 3

abbrev pub string : ℕ
string = 4

abbrev pub list : ℕ
list = 5

abbrev pub invocation : ℕ
invocation = 6

-- a class without fields, and without a written constructor
abbrev pub built_in_class : List ℕ → Option ClassId → Class
built_in_class name parent = record { name = name; parent = parent; interfaces = []; is_abstract = false; fields = []; constructor = None }

-- a built-in class directly below Object
abbrev pub below_object : List ℕ → Class
below_object name = built_in_class name (Some (record { 0 = object }))

-- They have the numbers from 0 to 6.
abbrev pub built_in_classes : List Class
built_in_classes =
    built_in_class (codes "Object") None ∷ below_object (codes "Null") ∷ below_object (codes "bool") ∷ below_object (codes "int")
    ∷ below_object (codes "String") ∷ below_object (codes "List") ∷ below_object (codes "Invocation") ∷ []

-- Object or a class of the user's: such a class may be extended, implemented and, unless abstract, constructed.
abbrev pub is_open : ℕ → Bool
is_open c = nat_eq c object || nat_le 7 c

-- a built-in member by its number, class, kind and name, with as many arguments as it takes
abbrev pub built_in : ℕ → ℕ → SelectorKind → List ℕ → ℕ → Method
built_in number owner role name count = record { owner = record { 0 = owner }; name = name; role = role; required = count; defaults = []; body = does.Native (record { 0 = number }) }

-- They have the numbers from 0 to 48, and each has the native body of its own number.
abbrev pub built_in_members : List Method
built_in_members =
    built_in 0 object Call (codes "==") 1
    ∷ built_in 1 object Call (codes "toString") 0
    ∷ built_in 2 object Call (codes "noSuchMethod") 1
    ∷ built_in 3 null Call (codes "toString") 0
    ∷ built_in 4 bool Call (codes "&") 1
    ∷ built_in 5 bool Call (codes "|") 1
    ∷ built_in 6 bool Call (codes "^") 1
    ∷ built_in 7 bool Call (codes "toString") 0
    ∷ built_in 8 int Call (codes "+") 1
    ∷ built_in 9 int Call (codes "-") 1
    ∷ built_in 10 int Call (codes "*") 1
    ∷ built_in 11 int Call (codes "~/") 1
    ∷ built_in 12 int Call (codes "%") 1
    ∷ built_in 13 int Call (codes "&") 1
    ∷ built_in 14 int Call (codes "|") 1
    ∷ built_in 15 int Call (codes "^") 1
    ∷ built_in 16 int Call (codes "<<") 1
    ∷ built_in 17 int Call (codes ">>") 1
    ∷ built_in 18 int Call (codes ">>>") 1
    ∷ built_in 19 int Call (codes "<") 1
    ∷ built_in 20 int Call (codes "<=") 1
    ∷ built_in 21 int Call (codes ">") 1
    ∷ built_in 22 int Call (codes ">=") 1
    ∷ built_in 23 int Call (codes "==") 1
    ∷ built_in 24 int Call (codes "unary-") 0
    ∷ built_in 25 int Call (codes "~") 0
    ∷ built_in 26 int Call (codes "toString") 0
    ∷ built_in 27 int Get (codes "isEven") 0
    ∷ built_in 28 int Get (codes "isOdd") 0
    ∷ built_in 29 string Call (codes "+") 1
    ∷ built_in 30 string Call (codes "==") 1
    ∷ built_in 31 string Call (codes "[]") 1
    ∷ built_in 32 string Get (codes "length") 0
    ∷ built_in 33 string Get (codes "isEmpty") 0
    ∷ built_in 34 string Call (codes "toString") 0
    ∷ built_in 35 string Call (codes "codeUnitAt") 1
    ∷ built_in 36 string Call (codes "substring") 2
    ∷ built_in 37 list Call (codes "[]") 1
    ∷ built_in 38 list Call (codes "[]=") 2
    ∷ built_in 39 list Get (codes "length") 0
    ∷ built_in 40 list Get (codes "isEmpty") 0
    ∷ built_in 41 list Call (codes "add") 1
    ∷ built_in 42 list Call (codes "removeLast") 0
    ∷ built_in 43 list Call (codes "toString") 0
    ∷ built_in 44 invocation Get (codes "memberName") 0
    ∷ built_in 45 invocation Get (codes "positionalArguments") 0
    ∷ built_in 46 invocation Get (codes "isMethod") 0
    ∷ built_in 47 invocation Get (codes "isGetter") 0
    ∷ built_in 48 invocation Get (codes "isSetter") 0
    ∷ []

-- The one selector and the two sites of a program that has nothing else: `print` and a list's text call `toString`.

-- a call of `toString`
abbrev pub to_string : Selector
to_string = record { kind = Call; name = codes "toString"; count = 0 }

-- a site of the prelude, with the only selector
abbrev pub to_string_at : SitePlace → Site
to_string_at place = record { selector = record { 0 = 0 }; place = place }

-- the built-in classes and members, and nothing else
abbrev pub built_in_parts : Parts
built_in_parts = parts built_in_classes built_in_members [] (to_string ∷ []) (to_string_at place.Print ∷ to_string_at place.List ∷ []) []

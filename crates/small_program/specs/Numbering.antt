-- The numbered program of a small program.
use Rattle.std.specs.Prelude.{ℕ, suc, ◌+◌, Bool, false, if◌then◌else◌, List, [], ◌∷◌, ◌++◌, map, Some, position, unwrap_or, codes}
use Rattle.std.specs.List.{list_any}
use Rattle.std.specs.Str.{bytes_eq}
use Rattle.program.specs.declared.body.Body.TheVariants as body
use Rattle.program.specs.declared.body.Expression.{Expression}
use Rattle.program.specs.declared.body.Expression.TheVariants as expression
use Rattle.program.specs.declared.body.Statement.{Statement}
use Rattle.program.specs.declared.body.Statement.TheVariants as statement
use Rattle.program.specs.declared.literal.Literal.TheVariants as literal
use Rattle.program.specs.declared.numbered.Class.{Class}
use Rattle.program.specs.declared.numbered.Function.{Function}
use Rattle.program.specs.declared.numbered.Method.{Method}
use Rattle.program.specs.declared.numbered.MethodBody.TheVariants as does
use Rattle.program.specs.declared.numbered.SitePlace.{SitePlace}
use Rattle.program.specs.declared.numbered.SitePlace.TheVariants as place
use Rattle.program.specs.declared.numbered.Selector.{Selector}
use Rattle.program.specs.declared.numbered.SelectorKind.TheVariants.{Call}
use Rattle.program.specs.declared.numbered.Site.{Site}
use Rattle.program.specs.BuiltIn.{built_in_classes, built_in_members, built_in_class}
use Rattle.program.specs.Parts.{Parts, parts}
use Rattle.small_program.specs.declared.small.SmallMethod.{SmallMethod}
use Rattle.small_program.specs.declared.small.SmallClass.{SmallClass}
use Rattle.small_program.specs.declared.small.SmallPrint.{SmallPrint}
use Rattle.small_program.specs.declared.small.Small.{Small}

-- ---- classes and methods: the first class has the number 7 and stands below Object

-- a class without fields, directly below class `up`
abbrev pub class_below : ℕ → List ℕ → Class
class_below up name = built_in_class name (Some (record { 0 = up }))

-- the classes from number c on, each below the one before it, the first below class up
abbrev pub chain_below : ℕ → ℕ → List SmallClass → List Class
chain_below up c [] = []
chain_below up c (k ∷ more) = class_below up k.name ∷ chain_below c (suc c) more

-- the built-in classes, and then a chain below Object
abbrev pub classes_of : Small → List Class
classes_of s = built_in_classes ++ chain_below 0 7 s.classes

-- `name() => value;` of class c
abbrev pub method_of : ℕ → SmallMethod → Method
method_of c m = record {
  owner = record { 0 = c };
  name = m.name;
  role = Call;
  required = 0;
  defaults = [];
  body = does.Code (body.Arrow (expression.Constant (literal.Int m.value)));
}

-- the methods of the classes from number c on
abbrev pub methods_from : ℕ → List SmallClass → List Method
methods_from c [] = []
methods_from c (k ∷ more) = map (method_of c) k.methods ++ methods_from (suc c) more

-- the built-in members, and then the methods of each class
abbrev pub methods_of : Small → List Method
methods_of s = built_in_members ++ methods_from 7 s.classes

-- ---- selectors, by first use

-- a call of this method, without arguments
abbrev pub call_selector : List ℕ → Selector
call_selector name = record { kind = Call; name = name; count = 0 }

-- the selector calls a method of this name
abbrev pub has_name : List ℕ → Selector → Bool
has_name name sel = bytes_eq sel.name name

-- the selectors after a call of this name
abbrev pub noted : List Selector → List ℕ → List Selector
noted all name = if list_any (has_name name) all then all else all ++ call_selector name ∷ []

-- the selectors after calls of these names
abbrev pub noted_all : List Selector → List (List ℕ) → List Selector
noted_all all [] = all
noted_all all (name ∷ more) = noted_all (noted all name) more

-- what the calls of `main` name, and then what the prelude's two sites call
abbrev pub names_called : List SmallPrint → List (List ℕ)
names_called prints = map (λ (p : SmallPrint). p.method) prints ++ codes "toString" ∷ []

-- each selector once, in the order of its first call
abbrev pub selectors_of : Small → List Selector
selectors_of s = noted_all [] (names_called s.prints)

-- the number of the selector that a call of this name asks
abbrev pub number_in : List Selector → List ℕ → ℕ
number_in all name = unwrap_or (position (has_name name) all) 0

-- ---- sites: one for each `print`, and then those of the prelude

-- a site at a place, with the selector for a call of this name
abbrev pub site_of : List Selector → SitePlace → List ℕ → Site
site_of all at name = record { selector = record { 0 = number_in all name }; place = at }

-- the site of the call inside of a `print`
abbrev pub print_site : List Selector → SmallPrint → Site
print_site all p = site_of all (place.At p.line p.column) p.method

-- the sites of `main`, and then those of `print` and of a list's text
abbrev pub sites_with : List Selector → List SmallPrint → List Site
sites_with all prints = map (print_site all) prints ++ site_of all place.Print (codes "toString") ∷ site_of all place.List (codes "toString") ∷ []

-- the sites of the program by their numbers
abbrev pub sites_of : Small → List Site
sites_of s = sites_with (selectors_of s) s.prints

-- ---- `main`

-- `C().method()` at a site
abbrev pub call_of : ℕ → SmallPrint → Expression
call_of site p = expression.Postfix (expression.New (record { 0 = 7 + p.class }) []) (record { site = record { 0 = site }; arguments = [] } ∷ [])

-- `print(C().method());`
abbrev pub statement_of : ℕ → SmallPrint → Statement
statement_of site p = statement.Run (expression.Print (call_of site p))

-- the statements from number j on, each with the site of its number
abbrev pub statements_from : ℕ → List SmallPrint → List Statement
statements_from j [] = []
statements_from j (p ∷ more) = statement_of j p ∷ statements_from (suc j) more

-- the one function, with a statement for each `print`
abbrev pub main_of : Small → Function
main_of s = record { name = codes "main"; is_entry = false; required = 0; defaults = []; body = body.Block (statements_from 0 s.prints) }

-- ---- the whole

-- the lists of the program
abbrev pub parts_of_small : Small → Parts
parts_of_small s = parts (classes_of s) (methods_of s) (main_of s ∷ []) (selectors_of s) (sites_of s) []

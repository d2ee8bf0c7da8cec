-- The numbered program of a tree: classes by their numbers, members and functions in the order of the text, sites by their places, selectors by their first use.
use Rattle.std.specs.Prelude.{◌≡◌, ℕ, ◌+◌, nat_le, Bool, true, false, if◌then◌else◌, List, [], ◌∷◌, ◌++◌, length, map, take, flat_map, filter_map, position, Option, Some, None, unwrap_or}
use Rattle.std.specs.Option.{option_map, option_and_then}
use Rattle.dart_syntax.specs.declared.tree.Name.{Name}
use Rattle.dart_syntax.specs.Syntax as t
use Rattle.dart_syntax.specs.Syntax.{Tree, Param, Body, Local, Function, Member, ClassDecl}
use Rattle.program.specs.declared.numbered.Selector.{Selector}
use Rattle.program.specs.declared.numbered.SelectorKind.{SelectorKind}
use Rattle.program.specs.declared.numbered.SelectorKind.TheVariants.{Call, Get, Set}
use Rattle.program.specs.declared.numbered.Site as program
use Rattle.program.specs.declared.numbered.SitePlace as program_place
use Rattle.program.specs.declared.numbered.SitePlace.TheVariants as place
use Rattle.program.specs.BuiltIn.{built_in_classes, built_in_members}
use Rattle.program.specs.Parts.{Parts}
use Rattle.dart_values.specs.Values.{Text, Value, null}
use Rattle.dart_meaning.specs.Place.{Place, reading, writing, in_print, in_list}
use Rattle.dart_meaning.specs.Operators.{operator_name}
use Rattle.dart_meaning.specs.Classes.{classes, functions, variables, class_named, class_names, class_number, parent, interfaces_of, is_abstract, own_fields, field_place, required, constructor_in, first_some, if_so}
use Rattle.dart_meaning.specs.Literals.{literal_or_null}
use Rattle.dart_meaning.specs.Classes as classes
use Rattle.dart_meaning.specs.Sites.{Site, key, text_sites, prelude_sites, same_selector, each_once, site_of}
use Rattle.dart_meaning.specs.Entry.{globals_of}
use Rattle.dart_meaning.specs.Numbering as num
use Rattle.dart_meaning.specs.Forms.{Form, ClassForm, FieldForm, ConstructorForm, MethodForm, FunctionForm, DoesForm, BodyForm, reads_field, writes_field, runs, arrow, block, method_form, form_of}
use Rattle.dart_syntax.specs.Places.{line_at, column_at}

-- what the optional parameters hold where no argument stands
abbrev pub default : Param → Option Value
default p = if_so p.optional (literal_or_null p.default)

-- the defaults of the parameters that a call may leave out
abbrev pub defaults : List Param → List Value
defaults params = filter_map default params

-- ---- sites and selectors

-- puts a site among others that stand in the order of their places
abbrev pub among : Site → List Site → List Site
among s [] = s ∷ []
among s (x ∷ more) = if nat_le (key s.place) (key x.place) then s ∷ x ∷ more else x ∷ among s more

-- the sites sorted by their places
abbrev pub in_order : List Site → List Site
in_order [] = []
in_order (s ∷ more) = among s (in_order more)

-- the sites of a tree by their numbers, those of `print` and of a list's text last
unfoldable pub ordered_sites : Tree → List Site
ordered_sites tree = in_order (text_sites tree) ++ prelude_sites

-- the selectors by their numbers
unfoldable pub numbered_selectors : Tree → List Selector
numbered_selectors tree = each_once (map (λ (s : Site). s.selector) (ordered_sites tree))

-- the number of a selector: how many are used before it
abbrev pub selector_number : Tree → Selector → ℕ
selector_number tree sel = unwrap_or (position (same_selector sel) (numbered_selectors tree)) 0

-- a place by its line and column in the text
abbrev pub shown_place : Text → Place → program_place.SitePlace
shown_place text (reading byte) = place.At (line_at text byte) (column_at text byte)
shown_place text (writing byte) = place.At (line_at text byte) (column_at text byte)
shown_place text in_print = place.Print
shown_place text in_list = place.List

-- a site with the number of its selector
abbrev pub numbered_site : Text → Tree → Site → program.Site
numbered_site text tree s = record { selector = record { 0 = selector_number tree s.selector }; place = shown_place text s.place }

module _ (tree : Tree) where
  -- ---- bodies

  -- `here` is the class that holds the body, if any; `names` are the open variables, the newest first.
  abbrev pub numbered_body : Option Text → List Text → Body → BodyForm
  numbered_body here names (t.arrow e) = arrow (num.exp tree (site_of tree) here names e)
  numbered_body here names (t.code all) = block (num.stas tree (site_of tree) here names all)

  abbrev pub numbered_constructor : Text → classes.Constructor → ConstructorForm
  numbered_constructor class k = record {
    required = required k.params;
    defaults = defaults k.params;
    sets = num.sets tree class k.params;
    passes = num.exps tree (site_of tree) (Some class) (num.param_names k.params) k.passes;
    body = num.stas tree (site_of tree) (Some class) (num.body_names k.params) k.body;
  }

  -- ---- classes

  abbrev pub numbered_field : Local → FieldForm
  numbered_field f = record { name = f.name.text; value = literal_or_null f.value }

  -- the constructor that a class has in the text, if any
  abbrev pub written_constructor : Text → Option classes.Constructor
  written_constructor class = option_and_then (λ (c : ClassDecl). first_some (map constructor_in c.members)) (class_named tree class)

  -- A built-in class is below Object, and has no field and no constructor.
  abbrev pub numbered_class : Text → ClassForm
  numbered_class class = record {
    name = class;
    parent = option_map (class_number tree) (parent tree class);
    interfaces = map (class_number tree) (interfaces_of tree class);
    is_abstract = is_abstract tree class;
    fields = map numbered_field (own_fields tree class);
    constructor = option_map (numbered_constructor class) (written_constructor class);
  }

  -- ---- members

  abbrev pub method : Text → SelectorKind → Text → ℕ → List Value → DoesForm → MethodForm
  method class role name count values does = record { owner = class_number tree class; role = role; name = name; required = count; defaults = values; does = does }

  -- An abstract declaration gives no method.
  abbrev pub with_body : Text → SelectorKind → Text → List Param → Option Body → List MethodForm
  with_body class role name params None = []
  with_body class role name params (Some body) = method class role name (required params) (defaults params) (runs (numbered_body (Some class) (num.param_names params) body)) ∷ []

  -- A field gives its getter and then, unless it is final, its setter.
  abbrev pub numbered_member : Text → Member → List MethodForm
  numbered_member class (t.field f) =
      method class Get f.name.text 0 [] (reads_field (field_place tree class f.name.text))
      ∷ (if f.is_final then [] else method class Set f.name.text 1 [] (writes_field (field_place tree class f.name.text)) ∷ [])
  numbered_member class (t.method n params body) = with_body class Call n.text params body
  numbered_member class (t.getter n body) = with_body class Get n.text [] body
  numbered_member class (t.setter n param body) = with_body class Set n.text (param ∷ []) body
  numbered_member class (t.operator op span params body) = with_body class Call (operator_name op params) params body
  numbered_member class (t.constructor n params passed body) = []

  -- the methods of a class
  abbrev pub numbered_members : ClassDecl → List MethodForm
  numbered_members c = flat_map (numbered_member c.name.text) c.members

  abbrev pub numbered_function : Function → FunctionForm
  numbered_function f = record {
    name = f.name.text;
    is_entry = f.is_entry;
    required = required f.params;
    defaults = defaults f.params;
    body = numbered_body None (num.param_names f.params) f.body;
  }

-- The numbered form of a tree, and of the text that it was read from, which the lines and columns of the sites are told of.
abbrev pub numbered_form : Text → Tree → Form
numbered_form text tree = record {
  classes = map (numbered_class tree) (class_names tree);
  methods = map method_form built_in_members ++ flat_map (numbered_members tree) (classes tree);
  functions = map (numbered_function tree) (functions tree);
  selectors = numbered_selectors tree;
  sites = map (numbered_site text tree) (ordered_sites tree);
  globals = globals_of tree;
}

-- The program holds the numbered form of the tree, and the built-in classes and members stand at its front.
pub record IsNumberedOf (text : Text) (tree : Tree) (p : Parts) : Type 0 where
  pub form : form_of p ≡ numbered_form text tree
  pub built_in_classes : take 7 p.classes ≡ built_in_classes
  pub built_in_members : take 49 p.methods ≡ built_in_members

-- What a numbered program holds, as a reader writes it down: numbers, names, the values of literals, and bodies as mathematics.
use Rattle.std.specs.Prelude.{ℕ, Bool, List, map, Option, option_map}
use Rattle.program.specs.declared.body.Body.{Body}
use Rattle.program.specs.declared.body.Body.TheVariants as body
use Rattle.program.specs.declared.numbered.Class.{Class}
use Rattle.program.specs.declared.numbered.Constructor.{Constructor}
use Rattle.program.specs.declared.numbered.Field.{Field}
use Rattle.program.specs.declared.numbered.Function.{Function}
use Rattle.program.specs.declared.numbered.Method.{Method}
use Rattle.program.specs.declared.numbered.MethodBody.{MethodBody}
use Rattle.program.specs.declared.numbered.MethodBody.TheVariants as does
use Rattle.program.specs.declared.numbered.Selector.{Selector}
use Rattle.program.specs.declared.numbered.SelectorKind.{SelectorKind}
use Rattle.program.specs.declared.numbered.Site.{Site}
use Rattle.program.specs.Bodies as c
use Rattle.program.specs.Parts.{Parts}
use Rattle.dart_values.specs.Values.{Text, Value}
use Rattle.dart_meaning.specs.Literals.{literal}

-- a body: the expression behind `=>`, or the statements of a block
pub data BodyForm : Type 0 where
  arrow : c.Exp → BodyForm
  block : c.Stas → BodyForm

-- A constructor's parameters are the required ones, then one for each default; for each the field that it sets, if any.
pub record ConstructorForm : Type 0 where
  pub required : ℕ
  pub defaults : List Value
  pub sets : List (Option ℕ)
  pub passes : c.Exps
  pub body : c.Stas

-- a field by its name, with what it begins with
pub record FieldForm : Type 0 where
  pub name : Text
  pub value : Value

-- Interfaces stand in the order of the text. A class that none can construct has no constructor.
pub record ClassForm : Type 0 where
  pub name : Text
  pub parent : Option ℕ
  pub interfaces : List ℕ
  pub is_abstract : Bool
  pub fields : List FieldForm
  pub constructor : Option ConstructorForm

-- what a member does: a built-in one by its number, one that reads or writes the field of this number, or one with a body
pub data DoesForm : Type 0 where
  native reads_field writes_field : ℕ → DoesForm
  runs : BodyForm → DoesForm

-- a member of the class `owner`: with a body, for a field, or built in
pub record MethodForm : Type 0 where
  pub owner : ℕ
  pub role : SelectorKind
  pub name : Text
  pub required : ℕ
  pub defaults : List Value
  pub does : DoesForm

-- A function at the top of the text; an entry point is marked with `@pragma`.
pub record FunctionForm : Type 0 where
  pub name : Text
  pub is_entry : Bool
  pub required : ℕ
  pub defaults : List Value
  pub body : BodyForm

-- the program: its tables, in each of which a number is a place
pub record Form : Type 0 where
  pub classes : List ClassForm
  pub methods : List MethodForm
  pub functions : List FunctionForm
  pub selectors : List Selector
  pub sites : List Site
  pub globals : List Value

-- ---- what the types of a numbered program hold

-- a body's expression or statements
abbrev pub body_form : Body → BodyForm
body_form (body.Arrow e) = arrow (c.exp e)
body_form (body.Block all) = block (c.stas (map c.sta all))

-- a constructor: what it takes, sets, passes on and does
abbrev pub constructor_form : Constructor → ConstructorForm
constructor_form k = record {
  required = k.required;
  defaults = map literal k.defaults;
  sets = k.sets;
  passes = c.exps (map c.exp k.passes);
  body = c.stas (map c.sta k.body);
}

-- a field with the value of its literal
abbrev pub field_form : Field → FieldForm
field_form f = record { name = f.name; value = literal f.value }

-- a class, with numbers in place of ids
abbrev pub class_form : Class → ClassForm
class_form k = record {
  name = k.name;
  parent = option_map (λ d. d.0) k.parent;
  interfaces = map (λ d. d.0) k.interfaces;
  is_abstract = k.is_abstract;
  fields = map field_form k.fields;
  constructor = option_map constructor_form k.constructor;
}

-- what a member does
abbrev pub does_form : MethodBody → DoesForm
does_form (does.Native n) = native n.0
does_form (does.ReadField field) = reads_field field
does_form (does.WriteField field) = writes_field field
does_form (does.Code b) = runs (body_form b)

-- a member, with numbers in place of ids
abbrev pub method_form : Method → MethodForm
method_form m = record {
  owner = m.owner.0;
  role = m.role;
  name = m.name;
  required = m.required;
  defaults = map literal m.defaults;
  does = does_form m.body;
}

-- a function, with the values of its defaults
abbrev pub function_form : Function → FunctionForm
function_form f = record {
  name = f.name;
  is_entry = f.is_entry;
  required = f.required;
  defaults = map literal f.defaults;
  body = body_form f.body;
}

-- what a numbered program holds
abbrev pub form_of : Parts → Form
form_of p = record {
  classes = map class_form p.classes;
  methods = map method_form p.methods;
  functions = map function_form p.functions;
  selectors = p.selectors;
  sites = p.sites;
  globals = map literal p.globals;
}

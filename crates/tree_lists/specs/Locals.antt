-- Fields and variables, as src/ refers to them, and what they begin with.
use Rattle.std.specs.Borrow.{Bor}
use Rattle.dart_syntax.specs.declared.tree.Function as src_function
use Rattle.dart_syntax.specs.declared.tree.Local as src
use Rattle.std.specs.Prelude.{ℕ, if◌then◌else◌, List, Option, None, Some}
use Rattle.dart_syntax.specs.Syntax.{Function, Local, Tree, Param, Passed, Stas}
use Rattle.dart_syntax.specs.View.{function, local}
use Rattle.dart_values.specs.Values.{Text, Value}
use Rattle.dart_meaning.specs.Literals.{literal_or_null}
use Rattle.dart_meaning.specs.Classes.{field_place, Constructor}
use Rattle.body_numbers.specs.Bodies.{passed_args, block_or_none}
use Rattle.dart_meaning.specs.Forms.{FieldForm}

-- the local that a reference leads to
abbrev pub local_of : Bor src.Local → Local
local_of l = local l.now

-- a field, and what it holds at first
abbrev pub numbered_field : Local → FieldForm
numbered_field l = record { name = l.name.text; value = literal_or_null l.value }

-- what a variable holds at first
abbrev pub value_of : Local → Value
value_of v = literal_or_null v.value

-- a constructor of these parameters, which passes this and has this body
abbrev pub written : List Param → Option Passed → Option Stas → Constructor
written params passed body = record { params = params; passes = passed_args passed; body = block_or_none body }

-- the field that a parameter sets, if any
abbrev pub set_by : Tree → Text → Param → Option ℕ
set_by tree class p = if p.is_field then Some (field_place tree class p.name.text) else None

-- the function that a reference leads to
abbrev pub function_of : Bor src_function.Function → Function
function_of f = function f.now

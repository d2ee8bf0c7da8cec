-- The declarations of a tree, as src/ refers to them, and their names.
use Rattle.std.specs.Prelude.{List, map, Option}
use Rattle.std.specs.Option.{option_map}
use Rattle.std.specs.Borrow.{Bor}
use Rattle.dart_syntax.specs.declared.tree.ClassDecl.{ClassDecl}
use Rattle.dart_syntax.specs.Syntax as t
use Rattle.dart_syntax.specs.Syntax.{Top, Member, Function, Local}
use Rattle.dart_syntax.specs.View.{class}
use Rattle.dart_syntax.specs.Bytes.{Text}
use Rattle.dart_meaning.specs.Classes.{function_at, variable_at, field_of}

-- the class that a reference leads to
abbrev pub class_of : Bor ClassDecl → t.ClassDecl
class_of c = class c.now

abbrev pub text_of : Bor Text → Text
text_of t = t.now

abbrev pub texts : List (Bor Text) → List Text
texts names = map text_of names

-- the name of a declaration that is a function
abbrev pub function_name : Top → Option Text
function_name top = option_map (λ (f : Function). f.name.text) (function_at top)

-- the name of a declaration that is a variable
abbrev pub variable_name : Top → Option Text
variable_name top = option_map (λ (v : Local). v.name.text) (variable_at top)

-- the name of a member that is a field
abbrev pub field_name : Member → Option Text
field_name m = option_map (λ (f : Local). f.name.text) (field_of m)

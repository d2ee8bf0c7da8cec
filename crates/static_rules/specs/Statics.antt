-- What a name of the text stands for: a class, a function, `print` or a variable.
use Rattle.std.specs.Prelude.{Bool, true, false, Option, None, Some}
use Rattle.dart_syntax.specs.Syntax as t
use Rattle.dart_syntax.specs.Syntax.{Top, Local, Tree}
use Rattle.dart_values.specs.Values.{Text}
use Rattle.dart_meaning.specs.Means.{top_named}

-- A built-in class and `print` are neither a variable nor a declaration of the text.
pub data Static : Type 0 where
  a_variable : Local → Static
  a_function : t.Function → Static
  a_class : t.ClassDecl → Static
  a_built_in : Static

-- what a declaration of the text is; where there is none the name is built in
abbrev pub static_of : Option Top → Static
static_of None = a_built_in
static_of (Some (t.a_class c)) = a_class c
static_of (Some (t.a_function f)) = a_function f
static_of (Some (t.a_variable v)) = a_variable v

-- what a name of the text, a built-in class or `print` stands for
abbrev pub static_named : Tree → Text → Static
static_named tree name = static_of (top_named tree name)

abbrev pub is_variable : Static → Bool
is_variable (a_variable v) = true
is_variable _ = false

-- What is asked of a class by its name, if there is one.
use Rattle.std.specs.Prelude.{ℕ, Bool, false, length, if◌then◌else◌, Option, None, Some}
use Rattle.std.specs.Str.{bytes_eq}
use Rattle.dart_syntax.specs.Bytes.{Text}
use Rattle.dart_meaning.specs.Means.{print_name}
use Rattle.static_rules.specs.Statics.{Static, a_variable, a_function, a_class, a_built_in}
use Rattle.text_names.specs.Around.{Around}
use Rattle.text_names.specs.declared.names.Within.{Within}
use Rattle.text_names.specs.declared.names.Within.TheVariants as within

-- the name is one of the class's members, fields, or final fields with a value
abbrev pub has_in : Within → Around → Text → Bool
has_in within.Members a q = a.members q
has_in within.Fields a q = a.fields q
has_in within.Initialised a q = a.initialised q

-- a class that is known has such a name among its own
abbrev pub is_within : Within → Option Around → Text → Bool
is_within w None q = false
is_within w (Some a) q = has_in w a q

-- how many parameters the constructor of a class has
abbrev pub params_of : Option Around → ℕ
params_of None = 0
params_of (Some a) = a.params

-- how many arguments a name takes that is called, where a constructor of this name has so many parameters
abbrev pub count_of : ℕ → Text → Static → Option ℕ
count_of made name (a_variable v) = None
count_of made name (a_function f) = Some (length f.params)
count_of made name (a_class c) = Some made
count_of made name a_built_in = Some (if bytes_eq name print_name then 1 else 0)

-- What a call asks for, and what calls ask of a program.
use Rattle.std.specs.Prelude.{ℕ, Bool, List, Option, Some, None, unwrap_or, codes}
use Rattle.program.specs.declared.numbered.Selector.{Selector}
use Rattle.program.specs.declared.numbered.SelectorKind.TheVariants.{Call, Get, Set}
use Rattle.dart_values.specs.Values.{Text, Value}

-- a method or an operator with so many arguments
abbrev pub calling : Text → ℕ → Selector
calling name count = record { kind = Call; name = name; count = count }

-- the read of a field or the call of a getter
abbrev pub getting : Text → Selector
getting name = record { kind = Get; name = name; count = 0 }

-- the write of a field or the call of a setter
abbrev pub setting : Text → Selector
setting name = record { kind = Set; name = name; count = 1 }

-- what `print`, an interpolation and the text of a list call
abbrev pub to_string : Selector
to_string = calling (codes "toString") 0

-- what is called with an Invocation where no member is found
abbrev pub no_such_method : Selector
no_such_method = calling (codes "noSuchMethod") 1

-- A member with a body: a built-in one by its number, the read or write of a field by its place in the object, or code, in the program's form.
pub data Found (Code : Type 0) : Type 0 where
  built_in : ℕ → Found Code
  reads writes : ℕ → Found Code
  coded : Code → Found Code

-- What a call asks of a program. A class goes by its number.
pub record Program (Code : Type 0) : Type 0 where
  pub lookup : ℕ → Selector → Option (Found Code)
  pub class_name : ℕ → Text
  pub is_subtype : ℕ → ℕ → Bool
  -- what the fields of a new object hold
  pub fields : ℕ → List Value
  -- none for Object, whose constructor is not entered
  pub constructor : ℕ → Option Code

-- Where a call goes: to the member found, or else to the `noSuchMethod` of the class.
pub data Target (Code : Type 0) : Type 0 where
  member missing : Found Code → Target Code

-- Each class finds a `noSuchMethod`, since Object has one, number 2.
abbrev pub target_or : {Code : Type 0} → Option (Found Code) → Option (Found Code) → Target Code
target_or (Some found) other = member found
target_or None other = missing (unwrap_or other (built_in 2))

-- where a call of a selector goes on an object of this class
abbrev pub resolve : {Code : Type 0} → Program Code → ℕ → Selector → Target Code
resolve program class sel = target_or (program.lookup class sel) (program.lookup class no_such_method)

-- What spends a turn and counts for depth: a body with its `this` and its arguments, and the text of a list.
pub data Entry (Code : Type 0) : Type 0 where
  running : Code → Value → List Value → Entry Code
  listing : Value → Entry Code

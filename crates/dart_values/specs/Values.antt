-- Values and what a heap holds, as mathematics: a string is its code units, and only objects, lists and Invocations have an address.
use Rattle.std.specs.Prelude.{ℕ, ℤ, Bool, List, map, slice_get, Option, None, Some, Result, Ok, Err}
use Rattle.program.specs.declared.numbered.SelectorKind.{SelectorKind}
use Rattle.dart_values.specs.declared.fault.Trap.{Trap}
use Rattle.dart_values.specs.declared.fault.Trap.TheVariants as trap

-- UTF-16 code units
abbrev pub Text : Type 0
Text = List ℕ

-- `at` is the address of an object, a list or an Invocation; all other values have none
pub data Value : Type 0 where
  null : Value
  bool : Bool → Value
  num : ℤ → Value
  text : Text → Value
  at : ℕ → Value

-- An object has its class and its fields, an Invocation its member name, the list of its arguments, and its kind.
pub data Thing : Type 0 where
  object : ℕ → List Value → Thing
  list : List Value → Thing
  invocation : Text → Value → SelectorKind → Thing

-- objects, lists and Invocations, by address
abbrev pub Heap : Type 0
Heap = List Thing

-- A class goes by its number: Object, Null, bool, int, String, List and Invocation are 0 to 6.
abbrev pub thing_class : Thing → ℕ
thing_class (object class fields) = class
thing_class (list items) = 5
thing_class (invocation name args kind) = 6

-- the class of what stands at an address; of nothing it would be Object
abbrev pub class_of_thing : Option Thing → ℕ
class_of_thing (Some thing) = thing_class thing
class_of_thing None = 0

-- the class of a value, which a cell asks for
abbrev pub class_of : Heap → Value → ℕ
class_of heap null = 1
class_of heap (bool _) = 2
class_of heap (num _) = 3
class_of heap (text _) = 4
class_of heap (at a) = class_of_thing (slice_get heap a)

-- the classes of all things, by address
abbrev pub classes : Heap → List ℕ
classes = map thing_class

-- what a built-in member gives: the heap behind it and a value, or a trap
pub data Given : Type 0 where
  gives : Heap → Value → Given
  traps : Trap → Given

-- what is given where the heap is only looked at
abbrev pub kept : Heap → Result Value Trap → Given
kept heap (Ok v) = gives heap v
kept heap (Err t) = traps t

-- Values of one kind, as a member needs them. One of another kind is a TypeFault.

-- the bool that a value is
abbrev pub need_bool : Value → Result Bool Trap
need_bool (bool b) = Ok b
need_bool _ = Err trap.TypeFault

-- the integer that a value is
abbrev pub need_int : Value → Result ℤ Trap
need_int (num z) = Ok z
need_int _ = Err trap.TypeFault

-- the units of the string that a value is
abbrev pub need_text : Value → Result Text Trap
need_text (text s) = Ok s
need_text _ = Err trap.TypeFault

-- goes on with what was found, and ends at a trap
abbrev pub and_then : {A B : Type 0} → Result A Trap → (A → Result B Trap) → Result B Trap
and_then (Ok a) f = f a
and_then (Err t) f = Err t

-- what a member gives with what was found, or the trap
abbrev pub given_from : {A : Type 0} → Result A Trap → (A → Given) → Given
given_from (Ok a) f = f a
given_from (Err t) f = traps t

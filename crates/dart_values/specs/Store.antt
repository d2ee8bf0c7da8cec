-- What contracts see of a heap, and what its values mean: a string is the text at its index.
use Rattle.std.specs.Prelude.{ℕ, ◌≡◌, ◌<◌, ◌≤◌, List, [], ◌++◌, length, map, slice_get, Result, Ok, Err, unwrap_or, All, IsTrue}
use Rattle.program.specs.BuiltIn.{is_open}
use Rattle.dart_values.specs.declared.fault.Trap.{Trap}
use Rattle.dart_values.specs.declared.value.Value.{Value}
use Rattle.dart_values.specs.declared.value.Value.TheVariants.{Null, Bool, Int, Str, Ref}
use Rattle.dart_values.specs.declared.heap.Thing.{Thing}
use Rattle.dart_values.specs.declared.heap.Thing.TheVariants.{Object, List as ListOf, Invocation}
use Rattle.dart_values.specs.Values as m
use Rattle.dart_values.specs.Values.{Text, null, bool, num, text, at, object, list, invocation, Given, gives, traps}

-- a heap as src/ has it: objects, lists and Invocations by address, and strings by index
pub record Store : Type 0 where
  pub things : List Thing
  pub texts : List Text

-- Meaning.

-- the string of this index
abbrev pub text_at : List Text → ℕ → Text
text_at texts i = unwrap_or (slice_get texts i) []

-- what a value stands for, where strings have these texts
abbrev pub value_in : List Text → Value → m.Value
value_in texts Null = null
value_in texts (Bool b) = bool b
value_in texts (Int z) = num z
value_in texts (Str i) = text (text_at texts i)
value_in texts (Ref a) = at a

-- what several values stand for
abbrev pub values_in : List Text → List Value → List m.Value
values_in texts = map (value_in texts)

-- what an object, list or Invocation stands for
abbrev pub thing_in : List Text → Thing → m.Thing
thing_in texts (Object class fields) = object class.0 (values_in texts fields)
thing_in texts (ListOf items) = list (values_in texts items)
thing_in texts (Invocation name arguments kind) = invocation (text_at texts name) (at arguments) kind

-- the meaning of a value of this heap, and of the heap
abbrev pub value_of : Store → Value → m.Value
value_of s = value_in s.texts

-- the meaning of several values of this heap
abbrev pub values_of : Store → List Value → List m.Value
values_of s = values_in s.texts

-- what the whole heap stands for
abbrev pub heap_of : Store → m.Heap
heap_of s = map (thing_in s.texts) s.things

-- what an answer stands for; a trap is the same
abbrev pub result_in : List Text → Result Value Trap → Result m.Value Trap
result_in texts (Ok v) = Ok (value_in texts v)
result_in texts (Err t) = Err t

-- Values of a heap.

-- neither a string nor an address
abbrev pub IsPlain : Value → Type 0
IsPlain (Str i) = ⊥
IsPlain (Ref a) = ⊥
IsPlain _ = Unit {0}

-- a value of this heap: its string or address is there
abbrev pub IsOf : Store → Value → Type 0
IsOf s (Str i) = i < length s.texts
IsOf s (Ref a) = a < length s.things
IsOf s _ = Unit {0}

-- Only Object and the user's classes have objects.
abbrev pub IsThing : Store → Thing → Type 0
IsThing s (Object class fields) = IsTrue (is_open class.0) × All (IsOf s) fields
IsThing s (ListOf items) = All (IsOf s) items
IsThing s (Invocation name arguments kind) = (name < length s.texts) × (arguments < length s.things)

-- whatever the heap holds refers to strings and addresses of the heap
abbrev pub IsWhole : Store → Type 0
IsWhole s = All (IsThing s) s.things

-- what was of the heap stays so, and its strings keep their texts
pub record Keeps (old new : Store) : Type 0 where
  pub texts : (more : List Text) × (new.texts ≡ old.texts ++ more)
  pub things : length old.things ≤ length new.things

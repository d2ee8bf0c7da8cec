-- What a call that does a member says of its answer and of the heap.
use Rattle.std.specs.Prelude.{ℕ, ◌≡◌, List, [], Result, Ok, Err, IfOk, OnErr}
use Rattle.std.specs.Borrow.{Bor}
use Rattle.dart_values.specs.declared.fault.Fault.{Fault}
use Rattle.dart_values.specs.declared.fault.Fault.TheVariants as fault
use Rattle.dart_values.specs.declared.fault.Trap.{Trap}
use Rattle.dart_values.specs.declared.member.Member.{Member}
use Rattle.dart_values.specs.declared.value.Value.{Value}
use Rattle.dart_values.specs.Values as m
use Rattle.dart_values.specs.Values.{Text, Given, gives, traps}
use Rattle.program.specs.declared.numbered.Class.{Class}
use Rattle.dart_values.specs.Natives.{native, member_gives}
use Rattle.dart_values.specs.Reads.{class_name}
use Rattle.dart_values.specs.Store.{Store, value_of, values_of, heap_of, IsOf, Keeps}

-- the answer is what the definition gives, or want of memory
abbrev pub Answers : Given → Store → Result Value Fault → Type 0
Answers given new (Ok v) = given ≡ gives (heap_of new) (value_of new v)
Answers given new (Err (fault.Trap t)) = given ≡ traps t
Answers given new (Err fault.NoMemory) = Unit {0}

-- what a member did: its answer, a value of the heap, and what it left
pub record Does (old new : Store) (given : Given) (result : Result Value Fault) : Type 0 where
  pub answers : Answers given new result
  pub of_heap : IfOk result (IsOf new)
  pub keeps : Keeps old new
  pub err : OnErr result (new ≡ old)

-- what a part of a member found or made, with want of memory left open
abbrev pub Makes : {A : Type 0} → Result A Trap → Result A Fault → Type 0
Makes given (Ok a) = given ≡ Ok a
Makes given (Err (fault.Trap t)) = given ≡ Err t
Makes given (Err fault.NoMemory) = Unit {0}

-- the same for a part that is only looked at, which needs no memory
abbrev pub Finds : {A : Type 0} → Result A Trap → Result (Bor A) Trap → Type 0
Finds given (Ok a) = given ≡ Ok a.now
Finds given (Err t) = given ≡ Err t

-- the same for the elements of a list, as they are in the heap
abbrev pub FindsItems : Store → Result (List m.Value) Trap → Result (Bor (List Value)) Trap → Type 0
FindsItems s given (Ok items) = given ≡ Ok (values_of s items.now)
FindsItems s given (Err t) = given ≡ Err t

-- what the definition gives for a member of this receiver, with these arguments
abbrev pub gives_in : Store → (ℕ → Text) → Member → Value → Value → Value → Given
gives_in s names member receiver v w = member_gives names member (heap_of s) (value_of s receiver) (value_of s v) (value_of s w)

-- the same for a member by its number, where a class has its name in these classes
abbrev pub native_in : Store → List Class → ℕ → Value → List Value → Given
native_in s classes id receiver args = native (class_name classes) id (heap_of s) (value_of s receiver) (values_of s args)

-- for a member that tells no class's name
abbrev pub no_names : ℕ → Text
no_names class = []

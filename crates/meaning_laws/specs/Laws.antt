-- What is true of every sound numbered program: of its calls, and of all that an entry of it does.
use Rattle.std.specs.Prelude.{◌≡◌, ℕ, ◌<◌, ◌≤◌, IsTrue, length, slice_get, Option, Some, option_map, All}
use Rattle.program.specs.declared.numbered.Method.{Method}
use Rattle.program.specs.declared.numbered.Selector.{Selector}
use Rattle.program.specs.declared.numbered.Target.TheVariants as target
use Rattle.program.specs.declared.numbered.Target as declared_target
use Rattle.program.specs.BuiltIn.{is_open}
use Rattle.program.specs.Hierarchy.{is_above}
use Rattle.program.specs.Lookup as numbers
use Rattle.program.specs.Parts.{Parts, parents}
use Rattle.program.specs.Sound.{Accepts}
use Rattle.program.specs.Whole.{IsSound}
use Rattle.dart_values.specs.Values.{Value, Heap, Thing, object, classes}
use Rattle.dart_meaning.specs.Laws.{IsFront}
use Rattle.dart_meaning.specs.Numbered.{Code, of_numbered, method_at, fields, enter, entry_run}
use Rattle.dart_meaning.specs.Program.{Target, member, missing, resolve, Entry, no_such_method}
use Rattle.dart_meaning.specs.Run.{Run, Store, Result, went, ended}

-- ---- calls

-- where the lookup by numbers leads, as the meaning says it; none where there is no such member
abbrev pub target_of : Parts → declared_target.Target → Option (Target Code)
target_of p (target.Method m) = option_map member (method_at p m.0)
target_of p (target.Nsm m) = option_map missing (method_at p m.0)

-- The meaning of a call is the lookup by numbers, for every number of the selector.
abbrev pub CallsGoByNumbers : Type 0
CallsGoByNumbers = (p : Parts) → IsSound p → (class s : ℕ) (sel : Selector) → slice_get p.selectors s ≡ Some sel →
    target_of p (numbers.resolve p class s) ≡ Some (resolve (of_numbered p) class sel)

-- Method m may be what a call finds: it is declared by the class or by one above it, has the kind and the name, and takes so many arguments.
pub record Answers (p : Parts) (class : ℕ) (sel : Selector) (m : ℕ) : Type 0 where
  pub method : Method
  pub there : slice_get p.methods m ≡ Some method
  pub owner : IsTrue (is_above (parents p.classes) method.owner.0 class)
  pub role : method.role ≡ sel.kind
  pub name : method.name ≡ sel.name
  pub takes : Accepts method.required (length method.defaults) sel.count

-- where the call leads is such a member, or such a `noSuchMethod`
abbrev pub TargetAnswers : Parts → ℕ → Selector → declared_target.Target → Type 0
TargetAnswers p class sel (target.Method m) = Answers p class sel m.0
TargetAnswers p class sel (target.Nsm m) = Answers p class no_such_method m.0

-- A call on a class goes to a member of that class or of one above it, and the member takes the arguments.
abbrev pub TargetsTakeTheCall : Type 0
TargetsTakeTheCall = (p : Parts) → IsSound p → (class s : ℕ) (sel : Selector) → class < length p.classes → slice_get p.selectors s ≡ Some sel →
    TargetAnswers p class sel (numbers.resolve p class s)

-- ---- what an entry leaves

-- the run in the end
abbrev pub last : {V A : Type 0} → Result V A → Run V
last (went a r) = r
last (ended e r) = r

-- what holds of the run behind an evaluation that does not end the isolate
abbrev pub IfWent : {V A : Type 0} → Result V A → (Run V → Type 0) → Type 0
IfWent (went a r) P = P r
IfWent (ended e r) P = Unit {0}

-- No turn came back, and what was told is still told.
pub record Goes (s t : Store) : Type 0 where
  pub turns : t.turns ≤ s.turns
  pub lines : IsFront s.lines t.lines
  pub asked : IsFront s.asked t.asked
  pub tests : IsFront s.tests t.tests

-- Each entry has at most the turns left that it began with, and adds to what is told.
abbrev pub NoTurnComesBack : Type 0
NoTurnComesBack = (p : Parts) → IsSound p → (depth : ℕ) (x : Entry Code) (r : Run Value) →
    Goes r.store (last (enter p depth x r)).store

-- There are as many top-level variables as at the start.
abbrev pub GlobalsStay : Type 0
GlobalsStay = (p : Parts) → IsSound p → (depth : ℕ) (x : Entry Code) (r : Run Value) →
    length (last (enter p depth x r)).store.globals ≡ length r.store.globals

-- the run's variables and `this` are those of r
pub record SameFrame (r s : Run Value) : Type 0 where
  pub vars : s.vars ≡ r.vars
  pub this : s.this ≡ r.this

-- An entered body leaves `this` and the variables as they were.
abbrev pub EntriesLeaveTheFrame : Type 0
EntriesLeaveTheFrame = (p : Parts) (depth : ℕ) (x : Entry Code) (r : Run Value) → IfWent (enter p depth x r) (SameFrame r)

-- ---- the heap

-- An object has as many fields as its class, which is Object or one of the user's.
abbrev pub IsThing : Parts → Thing → Type 0
IsThing p (object class held) = (length held ≡ length (fields p class)) × IsTrue (is_open class) × (class < length p.classes)
IsThing p _ = Unit {0}

-- a heap of such objects, and of lists and Invocations
abbrev pub IsHeap : Parts → Heap → Type 0
IsHeap p heap = All (IsThing p) heap

-- Where all objects are such ones, they are so behind an entry.
abbrev pub ObjectsHaveTheirFields : Type 0
ObjectsHaveTheirFields = (p : Parts) → IsSound p → (depth : ℕ) (x : Entry Code) (r : Run Value) →
    IsHeap p r.store.heap → IsHeap p (last (enter p depth x r)).store.heap

-- An address keeps its class.
abbrev pub AddressesKeepTheirClass : Type 0
AddressesKeepTheirClass = (p : Parts) → IsSound p → (depth : ℕ) (x : Entry Code) (r : Run Value) →
    IsFront (classes r.store.heap) (classes (last (enter p depth x r)).store.heap)

-- So it is in each run of an entry point, which begins with an empty heap and with the top-level variables at their literals.
pub record Runs (p : Parts) (r : Run Value) : Type 0 where
  pub heap : IsHeap p r.store.heap
  pub globals : length r.store.globals ≡ length p.globals

-- an entry point ends in such a state, however it ends
abbrev pub EntryPointsRun : Type 0
EntryPointsRun = (p : Parts) → IsSound p → (depth f turns : ℕ) → Runs p (last (entry_run p depth f turns))

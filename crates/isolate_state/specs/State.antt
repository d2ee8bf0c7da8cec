-- The machine's state, as a run holds it.
use Rattle.std.specs.Prelude.{◌≡◌, ◌<◌, ℕ, ◌+◌, true, false, Bool, ◌-◌, ◌≤◌, ◌++◌, replicate, slice_get, pos, Option, Some, None, List, map, length, take, drop, All, IsTrue}
use Rattle.program.specs.declared.numbered.Class.{Class}
use Rattle.program.specs.Parts.{Parts, is_concrete}
use Rattle.program.specs.BuiltIn.{is_open}
use Rattle.program.specs.declared.numbered.Target.{Target}
use Rattle.dart_values.specs.declared.fault.Trap.{Trap}
use Rattle.dart_values.specs.declared.fault.Trap.TheVariants as t
use Rattle.dart_values.specs.declared.value.Value.{Value}
use Rattle.dart_values.specs.Values as shown
use Rattle.dart_values.specs.Values.{classes}
use Rattle.dart_values.specs.Store.{IsOf, Keeps, value_of, values_of, heap_of}
use Rattle.dart_meaning.specs.Run.{done, threw, out_of_turns, stack_overflow}
use Rattle.dart_meaning.specs.Literals.{literal}
use Rattle.code_unit.specs.declared.instr.Instr.{Instr}
use Rattle.code_unit.specs.declared.instr.Instr.TheVariants as instr
use Rattle.code_unit.specs.declared.unit.Unit.{Unit}
use Rattle.code_pool.specs.Pool.{Pool}
use Rattle.code_pool.specs.declared.pool.MethodBody.{MethodBody}
use Rattle.code_pool.specs.declared.pool.MethodBody.TheVariants as body
use Rattle.program.specs.declared.ids.NativeId.{NativeId}
use Rattle.program.specs.declared.ids.UnitId.{UnitId}
use Rattle.program.specs.declared.ids.ClassId.{ClassId}
use Rattle.code_pool.specs.Machine as m
use Rattle.code_pool.specs.Machine.{State, Step, to, over, stuck, act}
use Rattle.isolate_state.specs.declared.frame.Frame.{Frame}
use Rattle.isolate_state.specs.declared.frame.Flow.{Flow}
use Rattle.isolate_state.specs.declared.frame.Flow.TheVariants as flow
use Rattle.isolate_state.specs.declared.isolate.Isolate.{Isolate}

-- a frame, as the machine has it
abbrev pub framed : Frame → m.Frame
framed f = record { unit = f.unit.0; place = f.place; base = f.base }

-- The state that a run holds: what it keeps, its frame, and its turns. What was asked and tested is in no memory.
abbrev pub seen : Isolate → Frame → ℕ → List (ℕ × ℕ) → List (ℕ × ℕ) → State
seen i f turns asked tests = record {
  frame = framed f;
  callers = map framed i.callers.items;
  values = values_of i.heap i.values.items;
  store = record { heap = heap_of i.heap; globals = values_of i.heap i.globals.items; lines = i.lines.items; turns = turns; asked = asked; tests = tests };
}

-- an instruction finds what it needs
abbrev pub goes : Step → Bool
goes (to s) = true
goes (over e s) = true
goes (stuck lack) = false

-- the frame, at the next place
abbrev pub next : Frame → Frame
next f = record f { place = f.place + 1 }

-- the step that a flow stands for, from what the run then holds
abbrev pub led : Flow → Trap → State → Step
led flow.Here trap s = to s
led flow.Elsewhere trap s = to s
led flow.Done trap s = over done s.store
led flow.TypeFault trap s = over (threw t.TypeFault) s.store
led flow.Trapped trap s = over (threw trap) s.store
led flow.OutOfTurns trap s = over out_of_turns s.store
led flow.StackOverflow trap s = over stack_overflow s.store

-- the instruction that follows stands in the same unit
abbrev pub Stays : ℕ → Flow → ℕ → Type 0
Stays u flow.Here now = now ≡ u
Stays u flow.Elsewhere now = Prim.Unit {0}
Stays u flow.Done now = Prim.Unit {0}
Stays u flow.TypeFault now = Prim.Unit {0}
Stays u flow.Trapped now = Prim.Unit {0}
Stays u flow.OutOfTurns now = Prim.Unit {0}
Stays u flow.StackOverflow now = Prim.Unit {0}

-- Each slot and operand is a value of the heap.
abbrev pub AreOf : Isolate → Type 0
AreOf i = All (IsOf i.heap) i.values.items

-- Each value is one of the heap, the constants are those of the pool, and no object is of an abstract class.
pub record IsHeld (p : Parts) (pool : Pool) (i : Isolate) : Type 0 where
  pub values : All (IsOf i.heap) i.values.items
  pub globals : All (IsOf i.heap) i.globals.items
  pub constants : All (IsOf i.heap) i.constants.items
  pub literals : values_of i.heap i.constants.items ≡ map literal pool.constants
  pub concrete : All (λ c. IsTrue (is_concrete p.classes c)) (classes (heap_of i.heap))
  pub built_in : (c : ℕ) → c < 7 → IsTrue (is_concrete p.classes c)

-- What was done where nobody is asked: where the machine goes on from the old state, it does the same.
pub record Went (p : Parts) (pool : Pool) (go : (ℕ → ℕ → Target) → State → Step) (old : Isolate) (f : Frame) (turns : ℕ) (flow : Flow) (new : Isolate) (g : Frame) (left : ℕ) : Type 0 where
  pub led : (answers : ℕ → ℕ → Target) (asked tests : List (ℕ × ℕ)) → goes (go answers (seen old f turns asked tests)) ≡ true
      → go answers (seen old f turns asked tests) ≡ led flow new.trap (seen new g left asked tests)
  pub held : IsHeld p pool new
  pub stays : Stays f.unit.0 flow g.unit.0
  pub calls : new.calls.items ≡ old.calls.items

-- what an instruction did
abbrev pub Did : Parts → Pool → Unit → Instr → Isolate → Frame → ℕ → Flow → Isolate → Frame → ℕ → Type 0
Did p pool unit i = Went p pool (λ answers s. act p pool answers unit i s)

-- the same over every program and unit for which the old state is held
abbrev pub Does : Instr → Isolate → Frame → ℕ → Flow → Isolate → Frame → ℕ → Type 0
Does i old f turns flow new g left = (p : Parts) (pool : Pool) (unit : Unit) → IsHeld p pool old → Did p pool unit i old f turns flow new g left

-- the same where the turns stay
abbrev pub DoesAll : Instr → Isolate → Frame → Flow → Isolate → Frame → Type 0
DoesAll i old f flow new g = (turns : ℕ) → Does i old f turns flow new g turns

-- the same where the turns stay and the next place follows
abbrev pub DoesNext : Instr → Isolate → Isolate → Type 0
DoesNext i old new = (f : Frame) → DoesAll i old f flow.Here new (next f)

-- the values below the top n, and these, as the machine sees them
abbrev pub below : ℕ → Isolate → List shown.Value
below n i = values_of i.heap (take (length i.values.items - n) i.values.items)

abbrev pub above : ℕ → Isolate → List shown.Value
above n i = values_of i.heap (drop (length i.values.items - n) i.values.items)

-- Unit u was entered with the top n values.
abbrev pub Entered : Pool → ℕ → ℕ → Isolate → Frame → ℕ → Flow → Isolate → Frame → ℕ → Type 0
Entered pool u n old f turns flow new g left = (p : Parts) → IsHeld p pool old
    → Went p pool (λ answers s. m.enter p pool answers u s (below n old) (above n old)) old f turns flow new g left

-- unit u takes n values: all its parameters, or all but some that have defaults
abbrev pub TakesValues : Pool → ℕ → ℕ → Type 0
TakesValues pool u n = (unit : Unit) → slice_get pool.units u ≡ Some unit → (n ≤ unit.params) × (unit.params ≤ n + length unit.defaults)

-- Behind n arguments stand the defaults of those that are missing, and so many nulls.
pub record Filled (unit : Unit) (n nulls : ℕ) (old new : Isolate) : Type 0 where
  pub values : values_of new.heap new.values.items
      ≡ values_of old.heap old.values.items ++ (drop (n + length unit.defaults - unit.params) (map literal unit.defaults) ++ replicate nulls shown.null)
  pub all : All (IsOf new.heap) new.values.items
  pub same : heap_of new.heap ≡ heap_of old.heap
  pub keeps : Keeps old.heap new.heap
  pub rest : new ≡ record old { heap = new.heap; values = new.values }

-- What was thrown ends the run. It depends on the names of the program's classes.
abbrev pub Threw : Parts → Isolate → Flow → Isolate → Type 0
Threw p old flow new = (pool : Pool) (unit : Unit) (f : Frame) (turns : ℕ) → IsHeld p pool old → Did p pool unit instr.Throw old f turns flow new f turns

-- the place that a value names, if it is a number that is not negative
abbrev pub place_of : shown.Value → Option ℕ
place_of (shown.num (pos k)) = Some k
place_of _ = None

-- what follows the top n values, the lowest of which is the receiver
abbrev pub received : ℕ → Isolate → (List shown.Value → shown.Value → List shown.Value → Step) → Step
received n i go = m.receiver (above n i) (go (below n i))

-- A member did what its body says, on a receiver of any class that has it.
abbrev pub Performed : Parts → Pool → MethodBody → ℕ → Isolate → Frame → ℕ → Flow → Isolate → Frame → ℕ → Type 0
Performed p pool body n old f turns flow new g left = (c : ℕ) → IsHeld p pool old
    → Went p pool (λ answers s. received n old (m.perform p pool answers body c s)) old f turns flow new g left

-- what a built-in member did: with an answer the next place follows, else its trap ends the run
abbrev pub Answered : Parts → NativeId → ℕ → Isolate → Bool → Isolate → Type 0
Answered p id n old true new = (pool : Pool) (f : Frame) (turns : ℕ) → Performed p pool (body.Native id) n old f turns flow.Here new (next f) turns
Answered p id n old false new = (pool : Pool) (f : Frame) (turns : ℕ) → Performed p pool (body.Native id) n old f turns flow.Trapped new f turns

-- Method m was called with the top n values, the receiver among them.
abbrev pub Called : Parts → Pool → ℕ → ℕ → Isolate → Frame → ℕ → Flow → Isolate → Frame → ℕ → Type 0
Called p pool k n old f turns flow new g left = (c : ℕ) → IsHeld p pool old
    → Went p pool (λ answers s. received n old (m.call_method p pool answers k c s)) old f turns flow new g left

-- The machine can go on from here by this, whatever was asked.
abbrev pub CanGo : ((ℕ → ℕ → Target) → State → Step) → Isolate → Frame → ℕ → Type 0
CanGo go i f turns = (answers : ℕ → ℕ → Target) × (asked : List (ℕ × ℕ)) × (tests : List (ℕ × ℕ)) × (goes (go answers (seen i f turns asked tests)) ≡ true)

-- Method m can be called so, for some class of the receiver.
abbrev pub CanCall : Parts → Pool → ℕ → ℕ → Isolate → Frame → ℕ → Type 0
CanCall p pool k n i f turns = (c : ℕ) × CanGo (λ answers s. received n i (m.call_method p pool answers k c s)) i f turns

-- What an instruction needs so that it can be done: operands, and entries of the lists that it names.
abbrev pub Needs : Parts → Pool → Instr → Isolate → Frame → ℕ → Type 0
Needs p pool (instr.Const k) i f turns = k < length i.constants.items
Needs p pool (instr.Local k) i f turns = f.base + k < length i.values.items
Needs p pool (instr.SetLocal k) i f turns = f.base + k + 1 < length i.values.items
Needs p pool (instr.Global g) i f turns = g < length i.globals.items
Needs p pool (instr.SetGlobal g) i f turns = (0 < length i.values.items) × (g < length i.globals.items)
Needs p pool instr.Pop i f turns = 0 < length i.values.items
Needs p pool instr.Dup i f turns = 0 < length i.values.items
Needs p pool instr.Dup2 i f turns = 1 < length i.values.items
Needs p pool (instr.JumpIfFalse t) i f turns = 0 < length i.values.items
Needs p pool instr.ExpectBool i f turns = 0 < length i.values.items
Needs p pool instr.Not i f turns = 0 < length i.values.items
Needs p pool instr.ExpectString i f turns = 0 < length i.values.items
Needs p pool instr.Return i f turns = 0 < length i.values.items
Needs p pool instr.Throw i f turns = 0 < length i.values.items
Needs p pool instr.Emit i f turns = 0 < length i.values.items
Needs p pool (instr.SetField k) i f turns = 1 < length i.values.items
Needs p pool (instr.ElementOr t) i f turns = 1 < length i.values.items
Needs p pool (instr.MakeList n) i f turns = n ≤ length i.values.items
Needs p pool (instr.Concat n) i f turns = n ≤ length i.values.items
Needs p pool (instr.CallStatic k n) i f turns = (k < length pool.statics) × (n ≤ length i.values.items)
    × ((u : UnitId) → slice_get pool.statics k ≡ Some u → (u.0 < length pool.units) × TakesValues pool u.0 n)
Needs p pool (instr.CallMethod k n) i f turns = (0 < n) × (n ≤ length i.values.items) × (k.0 < length pool.methods) × CanCall p pool k.0 n i f turns
Needs p pool (instr.New c) i f turns = IsTrue (is_open c.0) × IsTrue (is_concrete p.classes c.0) × (c.0 < length p.classes)
Needs p pool _ i f turns = Prim.Unit {0}

-- A new object of class c was made, in a program with these classes.
abbrev pub Made : Parts → ClassId → Isolate → Isolate → Type 0
Made p c old new = (pool : Pool) (unit : Unit) (f : Frame) (turns : ℕ) → IsHeld p pool old → Did p pool unit (instr.New c) old f turns flow.Here new (next f) turns

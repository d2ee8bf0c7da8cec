-- The machine: what the code of a pool does, one instruction at a time.
use Rattle.std.specs.Prelude.{ℕ, zero, suc, ◌+◌, ◌-◌, ◌*◌, pos, Bool, not, ◌&&◌, ◌||◌, nat_lt, nat_le, nat_eq, List, [], ◌∷◌, ◌++◌, length, map, take, drop, replicate, slice_get, slice_set, slice_index_or, Option, Some, None, option_map, max}
use Rattle.program.specs.declared.numbered.Method.{Method}
use Rattle.program.specs.declared.numbered.Selector.{Selector}
use Rattle.program.specs.declared.numbered.Target.{Target}
use Rattle.program.specs.declared.numbered.Target.TheVariants as target
use Rattle.program.specs.Hierarchy as hierarchy
use Rattle.program.specs.Parts.{Parts, supers, is_concrete}
use Rattle.program.specs.BuiltIn.{is_open, built_in_members}
use Rattle.dart_values.specs.Values.{Text, Value, null, bool, num, text, Heap, Thing, object, list, class_of}
use Rattle.dart_values.specs.Natives.{thing_at}
use Rattle.dart_values.specs.Reads.{text_in, object_fields, field_of}
use Rattle.dart_meaning.specs.Run.{Store, Ending, done, stack_overflow, Result, went, ended, M, choose, spend, need_bool, need_text, new, set_field, ask, add_line}
use Rattle.dart_meaning.specs.Calls as calls
use Rattle.dart_meaning.specs.Calls.{is_null, invoked, list_to_string}
use Rattle.dart_meaning.specs.Literals.{literal}
use Rattle.dart_meaning.specs.Numbered.{of_numbered, fields}
use Rattle.dart_meaning.specs.Entry as meaning
use Rattle.dart_meaning.specs.Entry.{Meaning, first_store, greatest_depth}
use Rattle.code_unit.specs.declared.instr.Instr.{Instr}
use Rattle.code_unit.specs.declared.instr.Instr.TheVariants.{Const, Local, SetLocal, Global, SetGlobal, Pop, Dup, Dup2, Jump, JumpIfFalse, ExpectBool, Not, LoopTurn, Call, Equal, CallStatic, CallMethod, Return, Throw, New, SetField, MakeList, Concat, ExpectString, IsClass, Emit, ElementOr}
use Rattle.code_unit.specs.declared.unit.Unit.{Unit}
use Rattle.code_pool.specs.declared.pool.MethodBody.{MethodBody}
use Rattle.code_pool.specs.declared.pool.MethodBody.TheVariants.{Native, ReadField, WriteField, Code}
use Rattle.code_pool.specs.Pool.{Pool}

-- ---- states

-- a unit that runs, or waits for a call: its number, the place in its code, and where its slots begin in the values
pub record Frame : Type 0 where
  pub unit : ℕ
  pub place : ℕ
  pub base : ℕ

-- The values are the slots of each frame, and above them its operands, the oldest frame first.
pub record State : Type 0 where
  pub frame : Frame
  -- those that wait for a call to answer, the oldest first
  pub callers : List Frame
  pub values : List Value
  pub store : Store

-- why there is no next step
pub data Lack : Type 0 where
  -- No place in the code, no operand, no slot of the unit. Where all units are sound, a run comes to none of these.
  no_place no_operand no_slot : Lack
  -- the list of the pool or the program has no such number
  no_number : Lack
  -- a number of values, a receiver, or a kind of value that the callee or the instruction does not take
  wrong_count wrong_receiver wrong_kind : Lack
  -- a class that no object is made of
  wrong_class : Lack

-- One instruction leads to the next state, to the end of the run, or nowhere.
pub data Step : Type 0 where
  to : State → Step
  over : Ending → Store → Step
  stuck : Lack → Step

-- ---- steps of the meaning

-- what follows a step of the meaning, with its answer
abbrev pub after : {A : Type 0} → State → Result Value A → (A → State → Step) → Step
after s (went a r) go = go a (record s { store = r.store })
after s (ended e r) go = over e r.store

-- A step of the meaning is done on the store alone: it sees no variables. Where it ends, the run ends.
abbrev pub by : {A : Type 0} → M Value A → State → (A → State → Step) → Step
by m s go = after s (m (record { vars = []; this = null; store = s.store })) go

-- ---- operands

-- what is there, or the lack of it
abbrev pub some : {A : Type 0} → Lack → Option A → (A → Step) → Step
some lack None go = stuck lack
some lack (Some a) go = go a

-- what holds, or the lack of it
abbrev pub when : Lack → Bool → Step → Step
when lack holds go = choose holds go (stuck lack)

-- the same for what must not hold
abbrev pub unless : Lack → Bool → Step → Step
unless lack holds go = choose holds (stuck lack) go

-- how many slots a frame of the unit has: its parameters and the others
abbrev pub slot_count : Unit → ℕ
slot_count unit = unit.params + (unit.locals - unit.params)

-- The top n operands of the frame, with all values below them. Slots, and what callers have, are no operands.
abbrev pub top : ℕ → Unit → State → (List Value → List Value → Step) → Step
top n unit s go = when no_operand (nat_le (s.frame.base + slot_count unit + n) (length s.values))
    (go (take (length s.values - n) s.values) (drop (length s.values - n) s.values))

-- the one value of a list
abbrev pub one : List Value → (Value → Step) → Step
one (v ∷ []) go = go v
one _ go = stuck no_operand

-- the two values of a list
abbrev pub two : List Value → (Value → Value → Step) → Step
two (v ∷ w ∷ []) go = go v w
two _ go = stuck no_operand

-- the receiver and the arguments
abbrev pub receiver : List Value → (Value → List Value → Step) → Step
receiver (v ∷ args) go = go v args
receiver [] go = stuck wrong_count

-- the top operand
abbrev pub top_one : Unit → State → (List Value → Value → Step) → Step
top_one unit s go = top 1 unit s (λ below vs. one vs (go below))

-- the top two operands
abbrev pub top_two : Unit → State → (List Value → Value → Value → Step) → Step
top_two unit s go = top 2 unit s (λ below vs. two vs (go below))

-- on to the next instruction, with these values
abbrev pub on : State → List Value → Step
on s values = to (record s { frame = record s.frame { place = s.frame.place + 1 }; values = values })

-- on to the instruction at a place, with these values
abbrev pub jump : ℕ → State → List Value → Step
jump t s values = to (record s { frame = record s.frame { place = t }; values = values })

-- on to the next instruction, with one value more
abbrev pub push : State → List Value → Value → Step
push s below v = on s (below ++ v ∷ [])

-- the texts in order as one, if all are texts
abbrev pub texts : List Value → Option Text
texts [] = Some []
texts (text a ∷ more) = option_map (λ rest. a ++ rest) (texts more)
texts (_ ∷ more) = None

-- whether the value is an object with a field k
abbrev pub has_field : Heap → Value → ℕ → Bool
has_field heap v k = nat_lt k (length (object_fields (thing_at heap v)))

-- ---- frames

-- whether a unit takes n values: all its parameters, or all but some that have defaults
abbrev pub accepts : Unit → ℕ → Bool
accepts unit n = nat_le n unit.params && nat_le unit.params (n + length unit.defaults)

-- the values, and the defaults of those that are missing
abbrev pub filled_in : Unit → List Value → List Value
filled_in unit args = args ++ drop (length args + length unit.defaults - unit.params) (map literal unit.defaults)

-- the values that a unit begins with: its parameters, and null in its other slots
abbrev pub slots : Unit → List Value → List Value
slots unit args = filled_in unit args ++ replicate (unit.locals - unit.params) null

-- Unit u begins at its first place. Its slots stand where the caller had the values for it, and the caller waits behind its call.
abbrev pub begin : ℕ → Unit → State → List Value → List Value → Step
begin u unit s below args = to (record {
  frame = record { unit = u; place = 0; base = length below };
  callers = s.callers ++ record s.frame { place = s.frame.place + 1 } ∷ [];
  values = below ++ slots unit args;
  store = s.store;
})

-- The caller that waits last goes on with these values. The entry point has no caller: its answer is the end.
abbrev pub back : State → List Value → Option Frame → Step
back s values None = over done s.store
back s values (Some f) = to (record { frame = f; callers = take (length s.callers - 1) s.callers; values = values; store = s.store })

-- The frame goes, with its slots and operands, and its answer is an operand of the caller.
abbrev pub leave : State → Value → Step
leave s v = back s (take s.frame.base s.values ++ v ∷ []) (slice_get s.callers (length s.callers - 1))

-- ---- outcomes

-- what a run comes to within a number of instructions
pub data Outcome : Type 0 where
  ends : Meaning → Outcome
  unfinished : Outcome
  is_stuck : Lack → Outcome

-- a run that ended, as the meaning tells it
abbrev pub told : Ending → Store → Outcome
told e s = ends (meaning.told e s)

-- a unit in the first frame, with no caller
abbrev pub opening : ℕ → Unit → Store → State
opening u unit store = record { frame = record { unit = u; place = 0; base = 0 }; callers = []; values = slots unit []; store = store }

-- what follows a step, where it leads on
abbrev pub resume : Step → (State → Outcome) → Outcome
resume (to s) go = go s
resume (over e s) go = told e s
resume (stuck lack) go = is_stuck lack

-- the length of the longest unit
abbrev pub longest : List Unit → ℕ
longest [] = 0
longest (u ∷ more) = max (length u.code) (longest more)

-- `answers` gives the target of each class and selector, as a cell answers it.
module _ (p : Parts) (pool : Pool) (answers : ℕ → ℕ → Target) where
  -- ---- calls

  -- Unit u is entered: it spends a turn, and then its depth may be at most the greatest. Its values lie on top of those below.
  abbrev pub enter : ℕ → State → List Value → List Value → Step
  enter u s below args = some no_number (slice_get pool.units u) (λ unit. when wrong_count (accepts unit (length args))
      (by spend s (λ _ s. choose (nat_lt (length s.callers + 1) greatest_depth) (begin u unit s below args) (over stack_overflow s.store))))

  -- a value of class c has the members of that class
  abbrev pub is_owned : ℕ → ℕ → Bool
  is_owned c owner = hierarchy.is_subtype (supers p.classes) c owner

  -- built-in member n, which the table has as k, on a receiver of class c
  abbrev pub native_as : ℕ → ℕ → State → List Value → Value → List Value → Method → Step
  native_as n c s below v args k = when wrong_receiver (is_owned c k.owner.0) (when wrong_count (nat_eq (length args) k.required)
      (by (calls.natively (of_numbered p) n v args) s (λ w s. push s below w)))

  -- The text of a list takes calls, so it is none of these, and is a unit.
  abbrev pub natively : ℕ → ℕ → State → List Value → Value → List Value → Step
  natively n c s below v args = unless wrong_kind (nat_eq n list_to_string) (some no_number (slice_get built_in_members n) (native_as n c s below v args))

  -- What a member does, on a receiver of class c. A unit has the receiver as its first slot; the others spend no turn and have no frame.
  abbrev pub perform : MethodBody → ℕ → State → List Value → Value → List Value → Step
  perform (Native n) c s below v args = natively n.0 c s below v args
  perform (ReadField k) c s below v [] = when wrong_receiver (has_field s.store.heap v k) (push s below (field_of s.store.heap v k))
  perform (WriteField k) c s below v (w ∷ []) =
      when wrong_receiver (has_field s.store.heap v k) (by (set_field v k w) s (λ _ s. push s below null))
  perform (Code u) c s below v args = enter u.0 s below (v ∷ args)
  perform _ c s below v args = stuck wrong_count

  -- method m on a receiver of class c, which has to have it
  abbrev pub call_method : ℕ → ℕ → State → List Value → Value → List Value → Step
  call_method m c s below v args = some no_number (slice_get pool.methods m) (λ does. some no_number (slice_get p.methods m) (λ (k : Method).
      when wrong_receiver (is_owned c k.owner.0) (perform does c s below v args)))

  -- A call that finds no member makes an Invocation, and calls the receiver's `noSuchMethod` with it.
  abbrev pub reach : Target → Selector → ℕ → State → List Value → Value → List Value → Step
  reach (target.Method m) sel c s below v args = call_method m.0 c s below v args
  reach (target.Nsm m) sel c s below v args = by (invoked sel args) s (λ i s. call_method m.0 c s below v (i ∷ []))

  -- A call through the cell of a site: the cell is asked, and its answer is called.
  abbrev pub send : ℕ → State → List Value → Value → List Value → Step
  send site s below v args = some no_number (slice_get pool.sites site) (λ k. some no_number (slice_get p.selectors k.0) (λ sel.
      by (ask site v) s (λ c s. reach (answers c k.0) sel c s below v args)))

  -- ---- objects, elements

  -- an object is made of this class: Object, or a class of the user's that is not abstract
  abbrev pub may_make : ℕ → Bool
  may_make c = is_open c && is_concrete p.classes c

  -- Element i of the items and the number behind it, or on at a place where there is none.
  abbrev pub element_in : ℕ → State → List Value → ℕ → Option Thing → Step
  element_in t s below i (Some (list items)) =
      choose (nat_lt i (length items)) (on s (below ++ slice_index_or items i null ∷ num (pos (i + 1)) ∷ [])) (jump t s below)
  element_in t s below i _ = stuck wrong_kind

  -- The list is looked at as it is now. Its number is counted by this instruction alone, from 0.
  abbrev pub element : ℕ → State → List Value → Value → Value → Step
  element t s below v (num (pos i)) = element_in t s below i (thing_at s.store.heap v)
  element t s below v _ = stuck wrong_kind

  -- ---- the instructions, in a unit

  abbrev pub act : Unit → Instr → State → Step
  -- pushes constant k of the pool
  act unit (Const k) s = some no_number (slice_get pool.constants k) (λ c. push s s.values (literal c))
  -- pushes the value of slot i
  act unit (Local i) s = when no_slot (nat_lt i unit.locals) (some no_slot (slice_get s.values (s.frame.base + i)) (push s s.values))
  -- pops a value into slot i
  act unit (SetLocal i) s = top_one unit s (λ below v. when no_slot (nat_lt i unit.locals && nat_lt (s.frame.base + i) (length below))
      (on s (slice_set below (s.frame.base + i) v)))
  -- pushes the value of variable g of the top level
  act unit (Global g) s = some no_number (slice_get s.store.globals g) (push s s.values)
  -- pops a value into variable g of the top level
  act unit (SetGlobal g) s = top_one unit s (λ below v. when no_number (nat_lt g (length s.store.globals))
      (on (record s { store = record s.store { globals = slice_set s.store.globals g v } }) below))
  -- drops the top value
  act unit Pop s = top_one unit s (λ below v. on s below)
  -- pushes the top value again
  act unit Dup s = top_one unit s (λ below v. on s (s.values ++ v ∷ []))
  -- pushes the top two values again
  act unit Dup2 s = top_two unit s (λ below v w. on s (s.values ++ v ∷ w ∷ []))
  -- goes to place t
  act unit (Jump t) s = jump t s s.values
  -- pops a bool, and goes to place t where it is false; another value is a TypeFault
  act unit (JumpIfFalse t) s = top_one unit s (λ below v. by (need_bool v) s (λ b s. choose b (on s below) (jump t s below)))
  -- keeps a bool; another value is a TypeFault
  act unit ExpectBool s = top_one unit s (λ below v. by (need_bool v) s (λ b s. push s below (bool b)))
  -- turns a bool about; another value is a TypeFault
  act unit Not s = top_one unit s (λ below v. by (need_bool v) s (λ b s. push s below (bool (not b))))
  -- spends a turn, at each turn of a loop
  act unit LoopTurn s = by spend s (λ _ s. on s s.values)
  -- Takes receiver and n arguments, asks the cell of the site, and calls the target. What is called answers one value.
  act unit (Call site n) s = top (suc n) unit s (λ below vs. receiver vs (send site.0 s below))
  -- `==` of the lower value with the upper one. With null on either side no cell is asked: the answer is whether both are.
  act unit (Equal site) s = top_two unit s (λ below v w. choose (is_null v || is_null w)
      (push s below (bool (is_null v && is_null w)))
      (send site.0 s below v (w ∷ [])))
  -- enters the unit of function or constructor k with n values; of a constructor the first is the object
  act unit (CallStatic k n) s = top n unit s (λ below vs. some no_number (slice_get pool.statics k) (λ u. enter u.0 s below vs))
  -- calls method m of a superclass with n values, `this` first; no cell is asked
  act unit (CallMethod m n) s = top n unit s (λ below vs. receiver vs (λ v. call_method m.0 (class_of s.store.heap v) s below v))
  -- answers the top value to the caller
  act unit Return s = top_one unit s (λ below v. leave s v)
  -- ends the run with the text of the top value; null is a TypeFault
  act unit Throw s = top_one unit s (λ below v. by (calls.throw (of_numbered p) v) s (λ _ s. stuck wrong_kind))
  -- Pushes a new object with the literals of its fields. `C(args)` makes it behind its arguments, so the code puts these into slots of the unit,
  -- the last one first, makes the object, pushes the slots again above it, and enters the constructor by `CallStatic`.
  act unit (New c) s = when wrong_class (may_make c.0) (by (new (object c.0 (fields p c.0))) s (λ v s. push s s.values v))
  -- pops a value and the object below it, and writes field k of the object, final or not: for the `this.x` of a constructor
  act unit (SetField k) s = top_two unit s (λ below v w. when wrong_receiver (has_field s.store.heap v k) (by (set_field v k w) s (λ _ s. on s below)))
  -- makes a list of the top n values, the lowest first
  act unit (MakeList n) s = top n unit s (λ below vs. by (new (list vs)) s (λ v s. push s below v))
  -- makes a text of the top n texts, the lowest first
  act unit (Concat n) s = top n unit s (λ below vs. some wrong_kind (texts vs) (λ t. push s below (text t)))
  -- keeps a text; another value is a TypeFault
  act unit ExpectString s = top_one unit s (λ below v. by (need_text v) s (λ t s. push s below (text t)))
  -- whether the class of the value is c, or c is above it; null is of class Null alone
  act unit (IsClass c) s = top_one unit s (λ below v. when no_number (nat_lt c.0 (length p.classes)) (by (calls.is_of (of_numbered p) v c.0) s (λ holds s. push s below (bool holds))))
  -- pops a text and adds it to the lines
  act unit Emit s = top_one unit s (λ below v. some wrong_kind (text_in v) (λ t. by (add_line t) s (λ _ s. on s below)))
  -- Takes a list and a number. Pushes the element there and the next number; where there is none, pushes nothing and goes to place t.
  act unit (ElementOr t) s = top_two unit s (λ below v i. element t s below v i)

  -- the instruction at the frame's place
  abbrev pub step : State → Step
  step s = some no_place (slice_get pool.units s.frame.unit) (λ unit. some no_place (slice_get unit.code s.frame.place) (λ i. act unit i s))

  -- ---- runs

  -- so many instructions
  unfoldable pub exec : ℕ → State → Outcome
  exec zero s = unfinished
  exec (suc k) s = resume (step s) (exec k)

  -- An entry point's unit takes no values. Its first turn is spent; it has depth 1.
  abbrev pub started : ℕ → ℕ → Step
  started e turns = some no_number (slice_get pool.entries e) (λ u. some no_number (slice_get pool.units u.0) (λ unit. when wrong_count (nat_eq unit.params 0)
      (by spend (opening u.0 unit (first_store (map literal p.globals) turns)) (λ _ s. to s))))

  -- Each turn pays for at most so many instructions.
  abbrev pub most : ℕ → ℕ
  most turns = (turns + 1) * (longest pool.units * (longest pool.units + 1))

  -- what entry point e does with a number of turns
  abbrev pub machine : ℕ → ℕ → Outcome
  machine e turns = resume (started e turns) (exec (most turns))

-- Where the machine goes on, an instruction has what it needs.
use Rattle.std.proofs.Common.{◌≡◌, ℕ, zero, suc, ◌+◌, ◌-◌, ◌<◌, ◌≤◌, Bool, true, false, ◌&&◌, nat_le, nat_lt, List, [], ◌∷◌, ◌++◌, length, map, take, drop, slice_get, slice_set, refl, sym, ◌∙◌, ap, subst, arith, length-append}
use Rattle.std.specs.Prelude.{Option, Some, None, IsTrue}
use Rattle.std.proofs.lemmas.Bool.Decides.{nat_tests}
use Rattle.std.proofs.lemmas.Option.{slice_get_within}
use Rattle.std.proofs.lemmas.List.{length-map}
use Rattle.program.specs.Parts.{Parts, is_concrete, concrete}
use Rattle.program.specs.BuiltIn.{is_open}
use Rattle.program.specs.declared.numbered.Class.{Class}
use Rattle.program.specs.declared.ids.UnitId.{UnitId}
use Rattle.program.specs.declared.literal.Literal.{Literal}
use Rattle.program.specs.declared.numbered.Target.{Target}
use Rattle.dart_values.specs.Values as shown
use Rattle.dart_values.specs.Store.{value_of, values_of}
use Rattle.dart_meaning.specs.Literals.{literal}
use Rattle.code_unit.specs.declared.instr.Instr.{Instr}
use Rattle.code_unit.specs.declared.instr.Instr.TheVariants as instr
use Rattle.code_unit.specs.declared.unit.Unit.{Unit}
use Rattle.code_pool.specs.Pool.{Pool}
use Rattle.code_pool.specs.Machine as m
use Rattle.code_pool.specs.Machine.{State, Step, act, top, top_one, one, two, when, some, no_operand, no_slot, no_number, on, push, receiver, slot_count}
use Rattle.isolate_state.specs.declared.frame.Frame.{Frame}
use Rattle.isolate_state.specs.declared.isolate.Isolate.{Isolate}
use Rattle.isolate_state.specs.State.{seen, goes, below, above, received, IsHeld, TakesValues, CanGo, CanCall, Needs}
use Rattle.isolate_state.proofs.Steps.{when_holds, some_is, operands, top_one_is}
use Rattle.isolate_state.proofs.Grown.{top_split}
use Rattle.isolate_state.proofs.Returns.{last_of}
use Rattle.isolate_state.proofs.Receives.{above_length, called_is, enter_there, by_class}

le_of : (n k : ℕ) → nat_le n k ≡ true → n ≤ k
le_of n k h = grind (arith, nat_tests)

lt_of : (n k : ℕ) → nat_lt n k ≡ true → n < k
lt_of n k h = grind (arith, nat_tests)

right_true : (a b : Bool) → (a && b) ≡ true → b ≡ true
right_true true b e = e
right_true false b e = absurd cc

left_true : (a b : Bool) → (a && b) ≡ true → a ≡ true
left_true true b e = refl
left_true false b e = absurd cc

module _ (p : Parts) (pool : Pool) (unit : Unit) (old : Isolate) (f : Frame) (turns : ℕ) (held : IsHeld p pool old) where
  size : (asked tests : List (ℕ × ℕ)) → length (seen old f turns asked tests).values ≡ length old.values.items
  size asked tests = length-map old.values.items (value_of old.heap)

  -- so many operands
  has : (n : ℕ) (asked tests : List (ℕ × ℕ)) (st : Step) → goes (when no_operand (nat_le (f.base + slot_count unit + n) (length (seen old f turns asked tests).values)) st) ≡ true → n ≤ length old.values.items
  has n asked tests st h =
      let holds = when_holds no_operand (nat_le (f.base + slot_count unit + n) (length (seen old f turns asked tests).values)) st h in
      let room = le_of (f.base + slot_count unit + n) (length (seen old f turns asked tests).values) holds in
      omega (arith, room, size asked tests)

  const_there : (k : ℕ) (go : Literal → Step) → goes (some no_number (slice_get pool.constants k) go) ≡ true → k < length old.constants.items
  const_there k go h =
      let c = some_is no_number (slice_get pool.constants k) go h in
      let within = slice_get_within pool.constants k c.0 c.1 in
      let same : length old.constants.items ≡ length pool.constants =
      sym (length-map old.constants.items (value_of old.heap)) ∙ ap length held.literals ∙ length-map pool.constants literal in
      omega (arith, within, same)

  local_there : (k : ℕ) (asked tests : List (ℕ × ℕ)) (go : shown.Value → Step)
      → goes (when no_slot (nat_lt k unit.locals) (some no_slot (slice_get (seen old f turns asked tests).values (f.base + k)) go)) ≡ true → f.base + k < length old.values.items
  local_there k asked tests go h =
      let s : State = seen old f turns asked tests in
      let st : Step = some no_slot (slice_get s.values (f.base + k)) go in
      let holds = when_holds no_slot (nat_lt k unit.locals) st h in
      let here : goes st ≡ true = subst (λ (b : Bool). goes (when no_slot b st) ≡ true) holds h in
      let v = some_is no_slot (slice_get s.values (f.base + k)) go here in
      let within = slice_get_within s.values (f.base + k) v.0 v.1 in
      omega (arith, within, size asked tests)

  set_local_there : (k : ℕ) (answers : ℕ → ℕ → Target) (asked tests : List (ℕ × ℕ)) → goes (act p pool answers unit (instr.SetLocal k) (seen old f turns asked tests)) ≡ true → f.base + k + 1 < length old.values.items
  set_local_there k answers asked tests h =
      let s : State = seen old f turns asked tests in
      let go : List shown.Value → shown.Value → Step = λ below v. when no_slot (nat_lt k unit.locals && nat_lt (f.base + k) (length below)) (on s (slice_set below (f.base + k) v)) in
      let some_there = has 1 asked tests _ h in
      let split = last_of s.values (omega (arith, some_there, size asked tests)) in
      let first : act p pool answers unit (instr.SetLocal k) s ≡ go split.0 split.1 = top_one_is unit s split.0 split.1 go split.2 h in
      let holds = when_holds no_slot (nat_lt k unit.locals && nat_lt (f.base + k) (length split.0)) _ (ap goes (sym first) ∙ h) in
      let low = lt_of (f.base + k) (length split.0) (right_true (nat_lt k unit.locals) _ holds) in
      let count : length s.values ≡ length split.0 + 1 = ap length split.2 ∙ length-append split.0 (split.1 ∷ []) in
      omega (arith, low, count, size asked tests)

  global_there : (g : ℕ) (go : shown.Value → Step) → goes (some no_number (slice_get (values_of old.heap old.globals.items) g) go) ≡ true → g < length old.globals.items
  global_there g go h =
      let v = some_is no_number (slice_get (values_of old.heap old.globals.items) g) go h in
      let within = slice_get_within (values_of old.heap old.globals.items) g v.0 v.1 in
      omega (arith, within, length-map old.globals.items (value_of old.heap))

  set_global_there : (g : ℕ) (answers : ℕ → ℕ → Target) (asked tests : List (ℕ × ℕ)) → goes (act p pool answers unit (instr.SetGlobal g) (seen old f turns asked tests)) ≡ true
      → (0 < length old.values.items) × (g < length old.globals.items)
  set_global_there g answers asked tests h =
      let s : State = seen old f turns asked tests in
      let go : List shown.Value → shown.Value → Step = λ below v. when no_number (nat_lt g (length s.store.globals)) (on (record s { store = record s.store { globals = slice_set s.store.globals g v } }) below) in
      let some_there = has 1 asked tests _ h in
      let split = last_of s.values (omega (arith, some_there, size asked tests)) in
      let first : act p pool answers unit (instr.SetGlobal g) s ≡ go split.0 split.1 = top_one_is unit s split.0 split.1 go split.2 h in
      let holds = when_holds no_number (nat_lt g (length s.store.globals)) _ (ap goes (sym first) ∙ h) in
      let low = lt_of g (length s.store.globals) holds in
      (omega (arith, some_there), omega (arith, low, length-map old.globals.items (value_of old.heap)))

  static_there : (k n : ℕ) (answers : ℕ → ℕ → Target) (asked tests : List (ℕ × ℕ)) → goes (act p pool answers unit (instr.CallStatic k n) (seen old f turns asked tests)) ≡ true
      → (k < length pool.statics) × (n ≤ length old.values.items) × ((u : UnitId) → slice_get pool.statics k ≡ Some u → (u.0 < length pool.units) × TakesValues pool u.0 n)
  static_there k n answers asked tests h =
      let s : State = seen old f turns asked tests in
      let go : List shown.Value → List shown.Value → Step = λ below vs. some no_number (slice_get pool.statics k) (λ u. m.enter p pool answers u.0 s below vs) in
      let enough = has n asked tests _ h in
      let first : act p pool answers unit (instr.CallStatic k n) s ≡ go (below n old) (above n old) = top_split n unit old f turns asked tests go enough h in
      let here : goes (go (below n old) (above n old)) ≡ true = ap goes (sym first) ∙ h in
      let u = some_is no_number (slice_get pool.statics k) (λ u. m.enter p pool answers u.0 s (below n old) (above n old)) here in (
        slice_get_within pool.statics k u.0 u.1,
        enough,
        λ w is.
            let at : goes (m.enter p pool answers w.0 s (below n old) (above n old)) ≡ true =
            ap goes (sym (ap (λ o. some no_number o (λ (u : UnitId). m.enter p pool answers u.0 s (below n old) (above n old))) is)) ∙ here in
            let there = enter_there p pool answers w.0 s (below n old) (above n old) at in
            (there.0, subst (λ (j : ℕ). TakesValues pool w.0 j) (above_length n old enough) there.1),
      )

  -- a call has a receiver
  received_some : (xs : List shown.Value) (go : shown.Value → List shown.Value → Step) → goes (receiver xs go) ≡ true → 0 < length xs
  received_some [] go h = absurd cc
  received_some (v ∷ args) go h = omega arith

  method_there : (k : ℕ) (n : ℕ) (answers : ℕ → ℕ → Target) (asked tests : List (ℕ × ℕ)) (enough : n ≤ length old.values.items)
      → goes (receiver (above n old) (λ v. m.call_method p pool answers k (shown.class_of (seen old f turns asked tests).store.heap v) (seen old f turns asked tests) (below n old) v)) ≡ true
      → (0 < n) × (n ≤ length old.values.items) × (k < length pool.methods) × CanCall p pool k n old f turns
  method_there k n answers asked tests enough h =
      let s : State = seen old f turns asked tests in
      let class = by_class (above n old) (shown.class_of s.store.heap) (λ c v. m.call_method p pool answers k c s (below n old) v) h in
      let here : goes (received n old (m.call_method p pool answers k class.0 s)) ≡ true = ap goes (sym class.1) ∙ h in
      let found = called_is p pool answers k class.0 s (below n old) (above n old) here in
      let some_there = received_some (above n old) _ h in
      (omega (arith, some_there, above_length n old enough), enough, slice_get_within pool.methods k found.0 found.1, (class.0, (answers, asked, tests, here)))

  new_there : (c : ℕ) (go : Step) → goes (when m.wrong_class (is_open c && is_concrete p.classes c) go) ≡ true → IsTrue (is_open c) × IsTrue (is_concrete p.classes c) × (c < length p.classes)
  new_there c go h =
      let holds = when_holds m.wrong_class (is_open c && is_concrete p.classes c) go h in
      let class = right_true (is_open c) (is_concrete p.classes c) holds in
      (left_true (is_open c) (is_concrete p.classes c) holds, class, concrete_within (slice_get p.classes c) refl class) where
        concrete_within : (o : Option Class) → slice_get p.classes c ≡ o → concrete o ≡ true → c < length p.classes
        concrete_within None is e = absurd cc
        concrete_within (Some k) is e = slice_get_within p.classes c k is

  -- what an instruction needs is there where the machine goes on
  pub needs : (i : Instr) → CanGo (λ answers s. act p pool answers unit i s) old f turns → Needs p pool i old f turns
  needs (instr.Const k) can = const_there k _ can.3
  needs (instr.Local k) can = local_there k can.1 can.2 _ can.3
  needs (instr.SetLocal k) can = set_local_there k can.0 can.1 can.2 can.3
  needs (instr.Global g) can = global_there g _ can.3
  needs (instr.SetGlobal g) can = set_global_there g can.0 can.1 can.2 can.3
  needs instr.Pop can = let n : 1 ≤ length old.values.items = has 1 can.1 can.2 _ can.3 in omega (arith, n)
  needs instr.Dup can = let n : 1 ≤ length old.values.items = has 1 can.1 can.2 _ can.3 in omega (arith, n)
  needs instr.Dup2 can = let n : 2 ≤ length old.values.items = has 2 can.1 can.2 _ can.3 in omega (arith, n)
  needs (instr.Jump t) can = tt
  needs (instr.JumpIfFalse t) can = let n : 1 ≤ length old.values.items = has 1 can.1 can.2 _ can.3 in omega (arith, n)
  needs instr.ExpectBool can = let n : 1 ≤ length old.values.items = has 1 can.1 can.2 _ can.3 in omega (arith, n)
  needs instr.Not can = let n : 1 ≤ length old.values.items = has 1 can.1 can.2 _ can.3 in omega (arith, n)
  needs instr.LoopTurn can = tt
  needs (instr.Call site n) can = tt
  needs (instr.Equal site) can = tt
  needs (instr.CallStatic k n) can = static_there k n can.0 can.1 can.2 can.3
  needs (instr.CallMethod k n) can =
      let enough = has n can.1 can.2 _ can.3 in
      let s : State = seen old f turns can.1 can.2 in
      let go : List shown.Value → List shown.Value → Step = λ below vs. receiver vs (λ v. m.call_method p pool can.0 k.0 (shown.class_of s.store.heap v) s below v) in
      let first : act p pool can.0 unit (instr.CallMethod k n) s ≡ go (below n old) (above n old) = top_split n unit old f turns can.1 can.2 go enough can.3 in
      method_there k.0 n can.0 can.1 can.2 enough (ap goes (sym first) ∙ can.3)
  needs instr.Return can = let n : 1 ≤ length old.values.items = has 1 can.1 can.2 _ can.3 in omega (arith, n)
  needs instr.Throw can = let n : 1 ≤ length old.values.items = has 1 can.1 can.2 _ can.3 in omega (arith, n)
  needs (instr.New c) can = new_there c.0 _ can.3
  needs (instr.SetField k) can = let n : 2 ≤ length old.values.items = has 2 can.1 can.2 _ can.3 in omega (arith, n)
  needs (instr.MakeList n) can = has n can.1 can.2 _ can.3
  needs (instr.Concat n) can = has n can.1 can.2 _ can.3
  needs instr.ExpectString can = let n : 1 ≤ length old.values.items = has 1 can.1 can.2 _ can.3 in omega (arith, n)
  needs (instr.IsClass c) can = tt
  needs instr.Emit can = let n : 1 ≤ length old.values.items = has 1 can.1 can.2 _ can.3 in omega (arith, n)
  needs (instr.ElementOr t) can = let n : 2 ≤ length old.values.items = has 2 can.1 can.2 _ can.3 in omega (arith, n)

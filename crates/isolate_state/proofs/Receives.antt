-- What members do, on the top values of a run.
use Rattle.std.proofs.Common.{◌≡◌, ◌≢◌, ℕ, zero, suc, ◌+◌, ◌-◌, ◌<◌, ◌≤◌, Bool, true, false, not, ◌&&◌, nat_eq, nat_lt, nat_le, List, [], ◌∷◌, ◌++◌, length, map, take, drop, slice_get, slice_index_or, refl, sym, ◌∙◌, ap, subst, arith, append_assoc, length-drop, length-append, drop-cons}
use Rattle.std.specs.Prelude.{All, IsTrue, Option, Some, None}
use Rattle.std.proofs.lemmas.Bool.Decides.{nat_tests}
use Rattle.std.proofs.lemmas.Option.{slice_get_within}
use Rattle.std.proofs.lemmas.List.{length-map}
use Rattle.std.proofs.lemmas.List.Elements.{All-push, All-take}
use Rattle.program.specs.Parts.{Parts, is_concrete}
use Rattle.program.specs.BuiltIn.{built_in_members}
use Rattle.program.specs.declared.ids.NativeId.{NativeId}
use Rattle.program.specs.declared.ids.UnitId.{UnitId}
use Rattle.program.specs.declared.ids.MethodId.{MethodId}
use Rattle.code_unit.specs.declared.instr.Instr.TheVariants.{CallStatic, CallMethod}
use Rattle.program.specs.declared.numbered.Method.{Method}
use Rattle.program.specs.declared.numbered.Target.{Target}
use Rattle.dart_values.specs.declared.value.Value.{Value}
use Rattle.dart_values.specs.declared.value.Value.TheVariants as v
use Rattle.dart_values.specs.declared.fault.Trap.{Trap}
use Rattle.dart_values.specs.Values as shown
use Rattle.dart_values.specs.Values.{Given, gives, traps, classes}
use Rattle.dart_values.specs.Natives.{native}
use Rattle.dart_values.specs.Reads.{class_name, field_of, with_field}
use Rattle.dart_values.specs.Store.{IsOf, Keeps, value_of, values_of, heap_of}
use Rattle.dart_meaning.specs.Run as run
use Rattle.dart_meaning.specs.Calls as calls
use Rattle.dart_meaning.specs.Numbered.{of_numbered}
use Rattle.code_unit.specs.declared.unit.Unit.{Unit}
use Rattle.code_pool.specs.Pool.{Pool}
use Rattle.code_pool.specs.declared.pool.MethodBody.{MethodBody}
use Rattle.code_pool.specs.declared.pool.MethodBody.TheVariants as body
use Rattle.code_pool.specs.Machine as m
use Rattle.code_pool.specs.Machine.{State, Step, over, stuck, by, on, push, when, unless, some, wrong_receiver, wrong_count, wrong_kind, no_number, has_field, receiver, accepts}
use Rattle.isolate_state.specs.declared.frame.Frame.{Frame}
use Rattle.isolate_state.specs.declared.frame.Flow.{Flow}
use Rattle.isolate_state.specs.declared.frame.Flow.TheVariants as flow
use Rattle.isolate_state.specs.declared.isolate.Isolate.{Isolate}
use Rattle.isolate_state.specs.State.{seen, goes, next, below, above, received, IsHeld, Went, Entered, TakesValues, Performed, Called, Answered, Did, CanGo, CanCall}
use Rattle.isolate_state.proofs.Steps.{shown_push, map_push, when_holds, some_is}
use Rattle.isolate_state.proofs.Held.{with_values, held_values}
use Rattle.isolate_state.proofs.Grown.{with_heap, went_made, top_split}
use Rattle.isolate_state.proofs.Moves.{below_is}
use Rattle.isolate_state.proofs.Things.{field_concrete}
use Rattle.dart_values.proofs.Growth.{keeps_same}
use Rattle.std.proofs.Math.Seq.{take-append_seam, drop-append_seam}

-- what must not hold does not, where the machine goes on
unless_holds : (lack : m.Lack) (b : Bool) (st : Step) → goes (unless lack b st) ≡ true → b ≡ false
unless_holds lack true st h = absurd cc
unless_holds lack false st h = refl

-- ---- what the machine finds, from that it goes on

pub above_length : (n : ℕ) (i : Isolate) → n ≤ length i.values.items → length (above n i) ≡ n
above_length n i some = length-map (drop (length i.values.items - n) i.values.items) (value_of i.heap) ∙ length-drop (length i.values.items - n) i.values.items ∙ omega (arith, some)

-- one call that goes on goes to a body
module _ (p : Parts) (pool : Pool) (answers : ℕ → ℕ → Target) (k c : ℕ) (s : State) (bs : List shown.Value) where
  -- the body, and what the machine does with it
  pub called_is : (xs : List shown.Value) → goes (receiver xs (m.call_method p pool answers k c s bs)) ≡ true
      → (does : MethodBody) × (slice_get pool.methods k ≡ Some does) × (receiver xs (m.call_method p pool answers k c s bs) ≡ receiver xs (m.perform p pool answers does c s bs))
  called_is [] h = absurd cc
  called_is (v ∷ args) h =
      let does = some_is no_number (slice_get pool.methods k) _ h in
      let go : MethodBody → Step = λ does. some no_number (slice_get p.methods k) (λ (d : Method). when wrong_receiver (m.is_owned p pool answers c d.owner.0) (m.perform p pool answers does c s bs v args)) in
      let first : m.call_method p pool answers k c s bs v args ≡ go does.0 = ap (λ o. some no_number o go) does.1 in
      let method = some_is no_number (slice_get p.methods k) _ (ap goes (sym first) ∙ h) in
      let second : m.call_method p pool answers k c s bs v args ≡ when wrong_receiver (m.is_owned p pool answers c method.0.owner.0) (m.perform p pool answers does.0 c s bs v args) =
      first ∙ ap (λ o. some no_number o (λ (d : Method). when wrong_receiver (m.is_owned p pool answers c d.owner.0) (m.perform p pool answers does.0 c s bs v args))) method.1 in
      let holds = when_holds wrong_receiver (m.is_owned p pool answers c method.0.owner.0) _ (ap goes (sym second) ∙ h) in
      (does.0, does.1, second ∙ ap (λ b. when wrong_receiver b (m.perform p pool answers does.0 c s bs v args)) holds)

  pub reads_one : (xs : List shown.Value) (field : ℕ) → goes (receiver xs (m.perform p pool answers (body.ReadField field) c s bs)) ≡ true → length xs ≡ 1
  reads_one [] field h = absurd cc
  reads_one (v ∷ []) field h = refl
  reads_one (v ∷ w ∷ xs) field h = absurd cc

  pub writes_two : (xs : List shown.Value) (field : ℕ) → goes (receiver xs (m.perform p pool answers (body.WriteField field) c s bs)) ≡ true → length xs ≡ 2
  writes_two [] field h = absurd cc
  writes_two (v ∷ []) field h = absurd cc
  writes_two (v ∷ w ∷ []) field h = refl
  writes_two (v ∷ w ∷ x ∷ xs) field h = absurd cc

  pub enters_all : (xs : List shown.Value) (u : UnitId) → goes (receiver xs (m.perform p pool answers (body.Code u) c s bs)) ≡ true
      → receiver xs (m.perform p pool answers (body.Code u) c s bs) ≡ m.enter p pool answers u.0 s bs xs
  enters_all [] u h = absurd cc
  enters_all (v ∷ args) u h = refl

  -- a built-in member that is there, and is not the text of a list
  pub native_there : (xs : List shown.Value) (id : NativeId) → goes (receiver xs (m.perform p pool answers (body.Native id) c s bs)) ≡ true → (id.0 < 49) × (nat_eq id.0 43 ≡ false)
  native_there [] id h = absurd cc
  native_there (v ∷ args) id h =
      let other = unless_holds wrong_kind (nat_eq id.0 43) _ h in
      let first = ap (λ b. unless wrong_kind b (some no_number (slice_get built_in_members id.0) (m.native_as p pool answers id.0 c s bs v args))) other in
      let there = some_is no_number (slice_get built_in_members id.0) (m.native_as p pool answers id.0 c s bs v args) (ap goes (sym first) ∙ h) in
      (slice_get_within built_in_members id.0 there.0 there.1, other)

  pub native_is : (v : shown.Value) (args : List shown.Value) (id : NativeId) → goes (m.perform p pool answers (body.Native id) c s bs v args) ≡ true
      → m.perform p pool answers (body.Native id) c s bs v args ≡ by (calls.natively (of_numbered p) id.0 v args) s (λ w s. push s bs w)
  native_is v args id h =
      let other = unless_holds wrong_kind (nat_eq id.0 43) _ h in
      let first = ap (λ b. unless wrong_kind b (some no_number (slice_get built_in_members id.0) (m.native_as p pool answers id.0 c s bs v args))) other in
      let there = some_is no_number (slice_get built_in_members id.0) (m.native_as p pool answers id.0 c s bs v args) (ap goes (sym first) ∙ h) in
      let second = first ∙ ap (λ o. some no_number o (m.native_as p pool answers id.0 c s bs v args)) there.1 in
      let last : Step = by (calls.natively (of_numbered p) id.0 v args) s (λ w s. push s bs w) in
      let owned = when_holds wrong_receiver (m.is_owned p pool answers c there.0.owner.0) _ (ap goes (sym second) ∙ h) in
      let third = second ∙ ap (λ b. when wrong_receiver b (when wrong_count (nat_eq (length args) there.0.required) last)) owned in
      let count = when_holds wrong_count (nat_eq (length args) there.0.required) _ (ap goes (sym third) ∙ h) in
      third ∙ ap (λ b. when wrong_count b last) count

-- a unit that is entered is there, and takes the values
pub enter_there : (p : Parts) (pool : Pool) (answers : ℕ → ℕ → Target) (u : ℕ) (s : State) (bs xs : List shown.Value) → goes (m.enter p pool answers u s bs xs) ≡ true
    → (u < length pool.units) × TakesValues pool u (length xs)
enter_there p pool answers u s bs xs h =
    let unit = some_is no_number (slice_get pool.units u) _ h in
    let go : Unit → Step = λ unit. when wrong_count (accepts unit (length xs)) (by run.spend s (λ _ s. run.choose (nat_lt (length s.callers + 1) 2000) (m.begin u unit s bs xs) (over run.stack_overflow s.store))) in
    let first : m.enter p pool answers u s bs xs ≡ go unit.0 = ap (λ o. some no_number o go) unit.1 in
    let holds = when_holds wrong_count (accepts unit.0 (length xs)) _ (ap goes (sym first) ∙ h) in
    (slice_get_within pool.units u unit.0 unit.1, λ other is. accepts_is other (length xs) (subst (λ (x : Unit). accepts x (length xs) ≡ true) (same_some unit.0 other (sym unit.1 ∙ is)) holds)) where
      same_some : (a b : Unit) → Some a ≡ Some b → a ≡ b
      same_some a b e = cc

      left_true : (a b : Bool) → (a && b) ≡ true → a ≡ true
      left_true true b e = refl
      left_true false b e = absurd cc

      right_true : (a b : Bool) → (a && b) ≡ true → b ≡ true
      right_true true b e = e
      right_true false b e = absurd cc

      le_of : (n k : ℕ) → nat_le n k ≡ true → n ≤ k
      le_of n k h = grind (arith, nat_tests)

      accepts_is : (unit : Unit) (n : ℕ) → accepts unit n ≡ true → (n ≤ unit.params) × (unit.params ≤ n + length unit.defaults)
      accepts_is unit n h = (le_of n unit.params (left_true (nat_le n unit.params) _ h), le_of unit.params (n + length unit.defaults) (right_true (nat_le n unit.params) _ h))

-- ---- the values below the top ones

pub seam : {A : Type 0} (xs ys zs : List A) (n : ℕ) → xs ≡ ys ++ zs → length zs ≡ n → (take (length xs - n) xs ≡ ys) × (drop (length xs - n) xs ≡ zs)
seam xs ys zs n e size =
    let whole : length xs ≡ length ys + length zs = ap length e ∙ length-append ys zs in
    let count : length xs - n ≡ length ys = omega (arith, whole, size) in
    (rw count (rw e (take-append_seam ys zs)), rw count (rw e (drop-append_seam ys zs)))

one_below : (old mid : Isolate) (w : Value) → old.values.items ≡ mid.values.items ++ w ∷ [] → (below 1 old ≡ values_of old.heap mid.values.items) × (above 1 old ≡ value_of old.heap w ∷ [])
one_below old mid w e =
    let parts = seam old.values.items mid.values.items (w ∷ []) 1 e refl in
    (ap (values_of old.heap) parts.0, ap (values_of old.heap) parts.1)

two_below : (old mid low : Isolate) (v w : Value) → old.values.items ≡ mid.values.items ++ w ∷ [] → mid.values.items ≡ low.values.items ++ v ∷ []
    → (below 2 old ≡ values_of old.heap low.values.items) × (above 2 old ≡ value_of old.heap v ∷ value_of old.heap w ∷ [])
two_below old mid low v w e_w e_v =
    let whole : old.values.items ≡ low.values.items ++ v ∷ w ∷ [] = e_w ∙ ap (λ xs. xs ++ w ∷ []) e_v ∙ append_assoc low.values.items (v ∷ []) (w ∷ []) in
    let parts = seam old.values.items low.values.items (v ∷ w ∷ []) 2 whole refl in
    (ap (values_of old.heap) parts.0, ap (values_of old.heap) parts.1)

-- ---- fields

pub reads : (k : ℕ) (old mid after : Isolate) (f : Frame) (o w : Value) → old.values.items ≡ mid.values.items ++ o ∷ [] → value_of old.heap w ≡ field_of (heap_of old.heap) (value_of old.heap o) k
    → IsOf old.heap w → after.values.items ≡ mid.values.items ++ w ∷ [] → (p : Parts) (pool : Pool) (turns : ℕ) → Performed p pool (body.ReadField k) 1 old f turns flow.Here (with_values old after) (next f) turns
reads k old mid after f o w e field of_heap pushed p pool turns c held =
    let parts = one_below old mid o e in
    let bs : List shown.Value = values_of old.heap mid.values.items in
    went_made p pool (λ answers s. received 1 old (m.perform p pool answers (body.ReadField k) c s)) old (record old { values = after.values }) f turns mid.values.items w held (keeps_same old.heap) held.concrete
    (below_is (IsOf old.heap) old.values.items mid.values.items o e held.values).0 of_heap pushed
    (λ answers asked tests h.
    let s : State = seen old f turns asked tests in
    let does : List shown.Value → shown.Value → List shown.Value → Step = m.perform p pool answers (body.ReadField k) c s in
    let first : received 1 old does ≡ does bs (value_of old.heap o) [] = ap (λ xs. receiver xs (does (below 1 old))) parts.1 ∙ ap (λ bs. does bs (value_of old.heap o) []) parts.0 in
    let holds = when_holds wrong_receiver (has_field s.store.heap (value_of old.heap o) k) _ (ap goes (sym first) ∙ h) in
    first ∙ ap (λ b. when wrong_receiver b (push s bs (field_of s.store.heap (value_of old.heap o) k))) holds ∙ ap (λ u. on s (bs ++ u ∷ [])) (sym field))

pub writes : (k : ℕ) (old mid low after : Isolate) (f : Frame) (o w : Value) → old.values.items ≡ mid.values.items ++ w ∷ [] → mid.values.items ≡ low.values.items ++ o ∷ []
    → heap_of after.heap ≡ with_field (heap_of old.heap) (value_of old.heap o) k (value_of old.heap w) → Keeps old.heap after.heap → after.values.items ≡ low.values.items ++ v.Null ∷ []
    → (p : Parts) (pool : Pool) (turns : ℕ) → Performed p pool (body.WriteField k) 2 old f turns flow.Here (with_heap old after) (next f) turns
writes k old mid low after f o w e_w e_o heap keeps pushed p pool turns c held =
    let parts = two_below old mid low o w e_w e_o in
    let bs : List shown.Value = values_of old.heap low.values.items in
    let ov : shown.Value = value_of old.heap o in
    let wv : shown.Value = value_of old.heap w in
    went_made p pool (λ answers s. received 2 old (m.perform p pool answers (body.WriteField k) c s)) old after f turns low.values.items v.Null held keeps (field_concrete p old after o w k heap held.concrete)
    (below_is (IsOf old.heap) mid.values.items low.values.items o e_o (below_is (IsOf old.heap) old.values.items mid.values.items w e_w held.values).0).0 tt pushed
    (λ answers asked tests h.
    let s : State = seen old f turns asked tests in
    let does : List shown.Value → shown.Value → List shown.Value → Step = m.perform p pool answers (body.WriteField k) c s in
    let first : received 2 old does ≡ does bs ov (wv ∷ []) = ap (λ xs. receiver xs (does (below 2 old))) parts.1 ∙ ap (λ bs. does bs ov (wv ∷ [])) parts.0 in
    let holds = when_holds wrong_receiver (has_field s.store.heap ov k) _ (ap goes (sym first) ∙ h) in
    first ∙ ap (λ b. when wrong_receiver b (by (run.set_field ov k wv) s (λ _ s. push s bs shown.null))) holds
    ∙ ap (λ hs. on (record s { store = record s.store { heap = hs } }) (bs ++ shown.null ∷ [])) (sym heap))

-- ---- built-in members

pub receiver_split : (n at : ℕ) (i : Isolate) (r : Value) → at ≡ length i.values.items - n → 0 < n → n ≤ length i.values.items → r ≡ slice_index_or i.values.items at r
    → above n i ≡ value_of i.heap r ∷ values_of i.heap (drop (at + 1) i.values.items)
receiver_split n at i r is some enough e =
    let back : drop at i.values.items ≡ slice_index_or i.values.items at r ∷ drop (suc at) i.values.items = drop-cons i.values.items at r (omega (arith, is, some, enough)) in
    let one_on : suc at ≡ at + 1 = omega arith in
    ap (λ (k : ℕ). values_of i.heap (drop k i.values.items)) (sym is) ∙ ap (values_of i.heap) back ∙ ap (λ (u : Value). value_of i.heap u ∷ values_of i.heap (drop (suc at) i.values.items)) (sym e)
    ∙ ap (λ (k : ℕ). value_of i.heap r ∷ values_of i.heap (drop k i.values.items)) one_on

module _ (p : Parts) (id : NativeId) (n at : ℕ) (old : Isolate) (r : Value) (args : List Value) (is : at ≡ length old.values.items - n) (some_there : 0 < n) (enough : n ≤ length old.values.items)
    (r_is : r ≡ slice_index_or old.values.items at r) (args_are : args ≡ drop (at + 1) old.values.items) where
  natively : (pool : Pool) (answers : ℕ → ℕ → Target) (c : ℕ) (s : State) (given : Given) → native (class_name p.classes) id.0 s.store.heap (value_of old.heap r) (values_of old.heap args) ≡ given
      → goes (received n old (m.perform p pool answers (body.Native id) c s)) ≡ true
      → received n old (m.perform p pool answers (body.Native id) c s) ≡ m.after s (calls.given given (record { vars = []; this = shown.null; store = s.store })) (λ w s. push s (below n old) w)
  natively pool answers c s given e h =
      let does : List shown.Value → shown.Value → List shown.Value → Step = m.perform p pool answers (body.Native id) c s in
      let split : above n old ≡ value_of old.heap r ∷ values_of old.heap args = receiver_split n at old r is some_there enough r_is ∙ ap (λ xs. value_of old.heap r ∷ values_of old.heap xs) (sym args_are) in
      let first : received n old does ≡ does (below n old) (value_of old.heap r) (values_of old.heap args) = ap (λ xs. receiver xs (does (below n old))) split in
      first ∙ native_is p pool answers 0 c s (below n old) (value_of old.heap r) (values_of old.heap args) id (ap goes (sym first) ∙ h)
      ∙ ap (λ g. m.after s (calls.given g (record { vars = []; this = shown.null; store = s.store })) (λ w s. push s (below n old) w)) e

  pub answers_native : (after : Isolate) (w : Value) → native (class_name p.classes) id.0 (heap_of old.heap) (value_of old.heap r) (values_of old.heap args) ≡ gives (heap_of after.heap) (value_of after.heap w)
      → IsOf after.heap w → Keeps old.heap after.heap → classes (heap_of after.heap) ≡ classes (heap_of old.heap) → after.values.items ≡ take at old.values.items ++ w ∷ []
      → Answered p id n old true (with_heap old after)
  answers_native after w e of_heap keeps same pushed pool f turns c held =
      let low : List Value = take at old.values.items in
      let low_is : below n old ≡ values_of old.heap low = ap (λ (k : ℕ). values_of old.heap (take k old.values.items)) (sym is) in
      went_made p pool (λ answers s. received n old (m.perform p pool answers (body.Native id) c s)) old after f turns low w held keeps
      (subst (All (λ c. IsTrue (is_concrete p.classes c))) (sym same) held.concrete) (All-take (IsOf old.heap) at old.values.items held.values) of_heap pushed
      (λ answers asked tests h.
      let s : State = seen old f turns asked tests in
      natively pool answers c s (gives (heap_of after.heap) (value_of after.heap w)) e h
      ∙ ap (λ bs. on (record s { store = record s.store { heap = heap_of after.heap } }) (bs ++ value_of after.heap w ∷ [])) low_is)

  pub traps_native : (new : Isolate) (t : Trap) → native (class_name p.classes) id.0 (heap_of old.heap) (value_of old.heap r) (values_of old.heap args) ≡ traps t
      → new ≡ record old { trap = t } → Answered p id n old false new
  traps_native new t e is_new pool f turns c held = subst (λ (i : Isolate). Went p pool (λ answers s. received n old (m.perform p pool answers (body.Native id) c s)) old f turns flow.Trapped i f turns) (sym is_new) (record {
    led = λ answers asked tests h. natively pool answers c (seen old f turns asked tests) (traps t) e h;
    held = record { values = held.values; globals = held.globals; constants = held.constants; literals = held.literals; concrete = held.concrete; built_in = held.built_in };
    stays = tt;
    calls = refl;
  })

-- ---- calls

same_body : (a b : MethodBody) → Some a ≡ Some b → a ≡ b
same_body a b e = cc

-- a method is called by what its body does
pub lifts : (p : Parts) (pool : Pool) (k n : ℕ) (does : MethodBody) (old new : Isolate) (f g : Frame) (turns left : ℕ) (fl : Flow) → slice_get pool.methods k ≡ Some does
    → Performed p pool does n old f turns fl new g left → Called p pool k n old f turns fl new g left
lifts p pool k n does old new f g turns left fl is performed c held =
    let w = performed c held in
    record {
      led = λ answers asked tests h.
          let s : State = seen old f turns asked tests in
          let found = called_is p pool answers k c s (below n old) (above n old) h in
          let here : received n old (m.call_method p pool answers k c s) ≡ received n old (m.perform p pool answers does c s) =
          found.2 ∙ ap (λ (d : MethodBody). received n old (m.perform p pool answers d c s)) (same_body found.0 does (sym found.1 ∙ is)) in
          here ∙ w.led answers asked tests (ap goes (sym here) ∙ h);
      held = w.held;
      stays = w.stays;
      calls = w.calls;
    }

-- the machine goes on with the body
pub can_do : (p : Parts) (pool : Pool) (k n : ℕ) (does : MethodBody) (i : Isolate) (f : Frame) (turns : ℕ) → slice_get pool.methods k ≡ Some does → CanCall p pool k n i f turns
    → (c : ℕ) × CanGo (λ answers s. received n i (m.perform p pool answers does c s)) i f turns
can_do p pool k n does i f turns is can =
    let c = can.0 in
    let answers = can.1.0 in
    let s : State = seen i f turns can.1.1 can.1.2 in
    let found = called_is p pool answers k c s (below n i) (above n i) can.1.3 in
    let here : received n i (m.call_method p pool answers k c s) ≡ received n i (m.perform p pool answers does c s) =
    found.2 ∙ ap (λ (d : MethodBody). received n i (m.perform p pool answers d c s)) (same_body found.0 does (sym found.1 ∙ is)) in
    (c, (answers, can.1.1, can.1.2, ap goes (sym here) ∙ can.1.3))

pub can_enter : (p : Parts) (pool : Pool) (k n : ℕ) (u : UnitId) (i : Isolate) (f : Frame) (turns : ℕ) → n ≤ length i.values.items → slice_get pool.methods k ≡ Some (body.Code u)
    → CanCall p pool k n i f turns → (u.0 < length pool.units) × TakesValues pool u.0 n
can_enter p pool k n u i f turns enough is can =
    let does = can_do p pool k n (body.Code u) i f turns is can in
    let s : State = seen i f turns does.1.1 does.1.2 in
    let here = enters_all p pool does.1.0 k does.0 s (below n i) (above n i) u does.1.3 in
    let there = enter_there p pool does.1.0 u.0 s (below n i) (above n i) (ap goes (sym here) ∙ does.1.3) in
    (there.0, subst (λ (j : ℕ). TakesValues pool u.0 j) (above_length n i enough) there.1)

pub can_read : (p : Parts) (pool : Pool) (k n field : ℕ) (i : Isolate) (f : Frame) (turns : ℕ) → n ≤ length i.values.items → slice_get pool.methods k ≡ Some (body.ReadField field)
    → CanCall p pool k n i f turns → n ≡ 1
can_read p pool k n field i f turns enough is can =
    let does = can_do p pool k n (body.ReadField field) i f turns is can in
    sym (above_length n i enough) ∙ reads_one p pool does.1.0 k does.0 (seen i f turns does.1.1 does.1.2) (below n i) (above n i) field does.1.3

pub can_write : (p : Parts) (pool : Pool) (k n field : ℕ) (i : Isolate) (f : Frame) (turns : ℕ) → n ≤ length i.values.items → slice_get pool.methods k ≡ Some (body.WriteField field)
    → CanCall p pool k n i f turns → n ≡ 2
can_write p pool k n field i f turns enough is can =
    let does = can_do p pool k n (body.WriteField field) i f turns is can in
    sym (above_length n i enough) ∙ writes_two p pool does.1.0 k does.0 (seen i f turns does.1.1 does.1.2) (below n i) (above n i) field does.1.3

not_so : (n : ℕ) → nat_eq n 43 ≡ false → n ≢ 43
not_so n h = grind (arith, nat_tests)

pub can_native : (p : Parts) (pool : Pool) (k n : ℕ) (id : NativeId) (i : Isolate) (f : Frame) (turns : ℕ) → slice_get pool.methods k ≡ Some (body.Native id)
    → CanCall p pool k n i f turns → (id.0 < 49) × (id.0 ≢ 43)
can_native p pool k n id i f turns is can =
    let does = can_do p pool k n (body.Native id) i f turns is can in
    let there = native_there p pool does.1.0 k does.0 (seen i f turns does.1.1 does.1.2) (below n i) (above n i) id does.1.3 in
    (there.0, not_so id.0 there.1)

-- a unit is entered as a body
pub enters_as : (p : Parts) (pool : Pool) (u : UnitId) (n : ℕ) (old new : Isolate) (f g : Frame) (turns left : ℕ) (fl : Flow)
    → Entered pool u.0 n old f turns fl new g left → Performed p pool (body.Code u) n old f turns fl new g left
enters_as p pool u n old new f g turns left fl entered c held =
    let w = entered p held in
    record {
      led = λ answers asked tests h.
          let s : State = seen old f turns asked tests in
          let here = enters_all p pool answers 0 c s (below n old) (above n old) u h in
          here ∙ w.led answers asked tests (ap goes (sym here) ∙ h);
      held = w.held;
      stays = w.stays;
      calls = w.calls;
    }

-- ---- calls by number

-- A function or constructor is entered.
pub statics : (k n : ℕ) (u : UnitId) (p : Parts) (pool : Pool) (unit : Unit) (old new : Isolate) (f g : Frame) (turns left : ℕ) (fl : Flow) → n ≤ length old.values.items → slice_get pool.statics k ≡ Some u
    → Entered pool u.0 n old f turns fl new g left → IsHeld p pool old → Did p pool unit (CallStatic k n) old f turns fl new g left
statics k n u p pool unit old new f g turns left fl enough is entered held =
    let w = entered p held in
    record {
      led = λ answers asked tests h.
          let s : State = seen old f turns asked tests in
          let go : List shown.Value → List shown.Value → Step = λ below vs. some no_number (slice_get pool.statics k) (λ u. m.enter p pool answers u.0 s below vs) in
          let first : m.act p pool answers unit (CallStatic k n) s ≡ go (below n old) (above n old) = top_split n unit old f turns asked tests go enough h in
          let here = first ∙ ap (λ o. some no_number o (λ (u : UnitId). m.enter p pool answers u.0 s (below n old) (above n old))) is in
          here ∙ w.led answers asked tests (ap goes (sym here) ∙ h);
      held = w.held;
      stays = w.stays;
      calls = w.calls;
    }

-- the receiver may be looked at first
pub by_class : {A : Type 0} (xs : List shown.Value) (class : shown.Value → A) (go : A → shown.Value → List shown.Value → Step) → goes (receiver xs (λ v. go (class v) v)) ≡ true
    → (a : A) × (receiver xs (λ v. go (class v) v) ≡ receiver xs (go a))
by_class [] class go h = absurd cc
by_class (v ∷ args) class go h = (class v, refl)

-- A method of a superclass is called.
pub methods : (k : MethodId) (n : ℕ) (p : Parts) (pool : Pool) (unit : Unit) (old new : Isolate) (f g : Frame) (turns left : ℕ) (fl : Flow) → n ≤ length old.values.items
    → Called p pool k.0 n old f turns fl new g left → IsHeld p pool old → Did p pool unit (CallMethod k n) old f turns fl new g left
methods k n p pool unit old new f g turns left fl enough called held = record {
  led = λ answers asked tests h.
      let s : State = seen old f turns asked tests in
      let go : List shown.Value → List shown.Value → Step = λ below vs. receiver vs (λ v. m.call_method p pool answers k.0 (shown.class_of s.store.heap v) s below v) in
      let first : m.act p pool answers unit (CallMethod k n) s ≡ go (below n old) (above n old) = top_split n unit old f turns asked tests go enough h in
      let class = by_class (above n old) (shown.class_of s.store.heap) (λ c v. m.call_method p pool answers k.0 c s (below n old) v) (ap goes (sym first) ∙ h) in
      let here = first ∙ class.1 in
      here ∙ (called class.0 held).led answers asked tests (ap goes (sym here) ∙ h);
  held = (called 0 held).held;
  stays = (called 0 held).stays;
  calls = (called 0 held).calls;
}

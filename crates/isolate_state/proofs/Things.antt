-- What the instructions on fields and lines do, and what is thrown.
use Rattle.std.proofs.Common.{◌≡◌, ◌≢◌, ℕ, zero, suc, ◌+◌, ◌-◌, ◌<◌, ◌≤◌, true, false, List, [], ◌∷◌, ◌++◌, length, map, nat_lt, slice_get, slice_set, slice_index_or, append_assoc, refl, sym, ◌∙◌, ap, subst, arith}
use Rattle.std.specs.Prelude.{All, IsTrue, Option, Some, None, pos, negsuc}
use Rattle.std.proofs.lemmas.Option.{slice_get_within}
use Rattle.std.proofs.lemmas.List.Elements.{All-push}
use Rattle.std.proofs.lemmas.Bool.Decides.{nat_tests}
use Rattle.dart_meaning.specs.Run.{choose}
use Rattle.program.specs.Parts.{Parts, is_concrete}
use Rattle.dart_values.specs.declared.value.Value.{Value}
use Rattle.dart_values.specs.declared.value.Value.TheVariants as v
use Rattle.dart_values.specs.declared.fault.Trap.TheVariants as trap
use Rattle.dart_values.specs.Values as shown
use Rattle.dart_values.specs.Values.{Heap, Thing, object, list, invocation, thing_class, classes}
use Rattle.dart_values.specs.Natives.{thing_at, address}
use Rattle.dart_values.specs.Reads.{with_field, put_field, items_in, element_of, text_in, class_name, thrown_text}
use Rattle.dart_values.specs.Store.{IsOf, Keeps, value_of, values_of, heap_of}
use Rattle.dart_meaning.specs.Run as run
use Rattle.dart_meaning.specs.Calls as calls
use Rattle.dart_meaning.specs.Numbered.{of_numbered}
use Rattle.code_unit.specs.declared.instr.Instr.TheVariants.{SetField, Emit, Throw, ElementOr}
use Rattle.code_unit.specs.declared.unit.Unit.{Unit}
use Rattle.code_pool.specs.Machine as m
use Rattle.code_pool.specs.Pool.{Pool}
use Rattle.program.specs.declared.numbered.Target.{Target}
use Rattle.code_pool.specs.Machine.{State, Step, act, by, on, jump, top_two, when, some, wrong_receiver, wrong_kind, has_field, stuck, over}
use Rattle.isolate_state.specs.declared.frame.Frame.{Frame}
use Rattle.isolate_state.specs.declared.frame.Flow.TheVariants as flow
use Rattle.isolate_state.specs.declared.isolate.Isolate.{Isolate}
use Rattle.isolate_state.specs.State.{seen, goes, next, place_of, DoesAll, DoesNext, Threw}
use Rattle.isolate_state.proofs.Steps.{shown_push, map_push, when_holds, some_is, top_one_is, top_two_is}
use Rattle.isolate_state.proofs.Held.{with_values, held_values, did_on}
use Rattle.isolate_state.proofs.Grown.{Concrete, with_heap, all_kept, shown_kept, went_over}
use Rattle.isolate_state.proofs.Moves.{below_is}

-- no machine is stuck where it goes on
pub no_way : false ≡ true → ⊥
no_way h = absurd cc

-- another thing of the same class
set_same : (heap : Heap) (a : ℕ) (old new : Thing) → slice_get heap a ≡ Some old → thing_class new ≡ thing_class old → classes (slice_set heap a new) ≡ classes heap
set_same [] a old new is same = refl
set_same (t ∷ heap) zero old new is same = let here : t ≡ old = cc in ap (λ c. c ∷ classes heap) (same ∙ sym (ap thing_class here))
set_same (t ∷ heap) (suc a) old new is same = ap (λ cs. thing_class t ∷ cs) (set_same heap a old new is same)

put_keeps : (heap : Heap) (a k : ℕ) (w : shown.Value) (o : Option Thing) → slice_get heap a ≡ o → classes (put_field o heap a k w) ≡ classes heap
put_keeps heap a k w None is = refl
put_keeps heap a k w (Some (object c fields)) is = set_same heap a (object c fields) (object c (slice_set fields k w)) is refl
put_keeps heap a k w (Some (list items)) is = refl
put_keeps heap a k w (Some (invocation name args kind)) is = refl

-- a field that is written leaves each class as it is
pub with_field_keeps : (heap : Heap) (v : shown.Value) (k : ℕ) (w : shown.Value) → classes (with_field heap v k w) ≡ classes heap
with_field_keeps heap shown.null k w = refl
with_field_keeps heap (shown.bool b) k w = refl
with_field_keeps heap (shown.num z) k w = refl
with_field_keeps heap (shown.text t) k w = refl
with_field_keeps heap (shown.at a) k w = put_keeps heap a k w (slice_get heap a) refl

pub field_concrete : (p : Parts) (old new : Isolate) (v w : Value) (k : ℕ) → heap_of new.heap ≡ with_field (heap_of old.heap) (value_of old.heap v) k (value_of old.heap w)
    → Concrete p old.heap → Concrete p new.heap
field_concrete p old new v w k e h =
    subst (All (λ c. IsTrue (is_concrete p.classes c))) (sym (ap classes e ∙ with_field_keeps (heap_of old.heap) (value_of old.heap v) k (value_of old.heap w))) h

pub sets_field : (k : ℕ) (old mid after : Isolate) (f : Frame) (v w : Value) → old.values.items ≡ mid.values.items ++ w ∷ [] → mid.values.items ≡ after.values.items ++ v ∷ []
    → heap_of after.heap ≡ with_field (heap_of old.heap) (value_of old.heap v) k (value_of old.heap w) → Keeps old.heap after.heap
    → DoesAll (SetField k) old f flow.Here (with_heap old after) (next f)
sets_field k old mid after f v w e_w e_v heap keeps turns p pool unit held =
    let mids = below_is (IsOf old.heap) old.values.items mid.values.items w e_w held.values in
    let afters = below_is (IsOf old.heap) mid.values.items after.values.items v e_v mids.0 in
    let kept : values_of old.heap after.values.items ≡ values_of after.heap after.values.items = sym (shown_kept old.heap after.heap keeps after.values.items afters.0) in
    went_over p pool (λ answers s. act p pool answers unit (SetField k) s) old after f turns held keeps (field_concrete p old after v w k heap held.concrete) (all_kept old.heap after.heap keeps after.values.items afters.0)
    (λ answers asked tests h.
    let s : State = seen old f turns asked tests in
    let go : List shown.Value → shown.Value → shown.Value → Step = λ below v w. when wrong_receiver (has_field s.store.heap v k) (by (run.set_field v k w) s (λ _ s. on s below)) in
    let split = shown_push (value_of old.heap) old.values.items mid.values.items w e_w ∙ ap (λ vs. vs ++ value_of old.heap w ∷ []) (shown_push (value_of old.heap) mid.values.items after.values.items v e_v) in
    let first = top_two_is unit s (values_of old.heap after.values.items) (value_of old.heap v) (value_of old.heap w) go split h in
    let holds = when_holds wrong_receiver (has_field s.store.heap (value_of old.heap v) k) _ (ap goes (sym first) ∙ h) in
    first ∙ rw holds refl
    ∙ ap (λ hs. on (record s { store = record s.store { heap = hs } }) (values_of old.heap after.values.items)) (sym heap)
    ∙ ap (on (record s { store = record s.store { heap = heap_of after.heap } })) kept)

pub emits : (old after : Isolate) (w : Value) (units : shown.Text) → old.values.items ≡ after.values.items ++ w ∷ [] → text_in (value_of old.heap w) ≡ Some units
    → after.lines.items ≡ old.lines.items ++ units ∷ [] → DoesNext Emit old (record old { values = after.values; lines = after.lines })
emits old after w units e is lines f turns p pool unit held = record {
  led = λ answers asked tests h.
      let s : State = seen old f turns asked tests in
      let below : List shown.Value = values_of old.heap after.values.items in
      let go : List shown.Value → shown.Value → Step = λ below v. some wrong_kind (text_in v) (λ t. by (run.add_line t) s (λ _ s. on s below)) in
      top_one_is unit s below (value_of old.heap w) go (shown_push (value_of old.heap) old.values.items after.values.items w e) h
      ∙ ap (λ o. some wrong_kind o (λ t. by (run.add_line t) s (λ _ s. on s below))) is
      ∙ ap (λ ls. on (record s { store = record s.store { lines = ls } }) below) (sym lines);
  held = record {
    values = (below_is (IsOf old.heap) old.values.items after.values.items w e held.values).0;
    globals = held.globals;
    constants = held.constants;
    literals = held.literals;
    concrete = held.concrete;
    built_in = held.built_in;
  };
  stays = refl;
  calls = refl;
}

pub emits_none : (old after : Isolate) (w : Value) → old.values.items ≡ after.values.items ++ w ∷ [] → text_in (value_of old.heap w) ≡ None
    → DoesNext Emit old (with_values old after)
emits_none old after w e is f turns p pool unit held = record {
  led = λ answers asked tests h.
      let s : State = seen old f turns asked tests in
      let below : List shown.Value = values_of old.heap after.values.items in
      let go : List shown.Value → shown.Value → Step = λ below v. some wrong_kind (text_in v) (λ t. by (run.add_line t) s (λ _ s. on s below)) in
      let first : act p pool answers unit Emit s ≡ stuck wrong_kind =
      top_one_is unit s below (value_of old.heap w) go (shown_push (value_of old.heap) old.values.items after.values.items w e) h
      ∙ ap (λ o. some wrong_kind o (λ t. by (run.add_line t) s (λ _ s. on s below))) is in
      absurd (no_way (ap goes (sym first) ∙ h));
  held = held_values p pool old after held (below_is (IsOf old.heap) old.values.items after.values.items w e held.values).0;
  stays = refl;
  calls = refl;
}

pub throws_null : (p : Parts) (old after : Isolate) (w : Value) → old.values.items ≡ after.values.items ++ w ∷ [] → w ≡ v.Null → Threw p old flow.TypeFault (with_values old after)
throws_null p old after w e is pool unit f turns held = record {
  led = λ answers asked tests h.
      let s : State = seen old f turns asked tests in
      let below : List shown.Value = values_of old.heap after.values.items in
      let go : List shown.Value → shown.Value → Step = λ below v. by (calls.throw (of_numbered p) v) s (λ _ s. stuck wrong_kind) in
      top_one_is unit s below (value_of old.heap w) go (shown_push (value_of old.heap) old.values.items after.values.items w e) h
      ∙ ap (λ (w : Value). go below (value_of old.heap w)) is;
  held = held_values p pool old after held (below_is (IsOf old.heap) old.values.items after.values.items w e held.values).0;
  stays = tt;
  calls = refl;
}

throw_is : (p : Parts) (s : State) (old : Isolate) (w : Value) (t : shown.Text) → (w ≡ v.Null → ⊥) → t ≡ thrown_text (class_name p.classes) s.store.heap (value_of old.heap w)
    → by (calls.throw (of_numbered p) (value_of old.heap w)) s (λ _ s. stuck wrong_kind) ≡ over (run.threw (trap.Thrown t)) s.store
throw_is p s old v.Null t h e = absurd (h refl)
throw_is p s old (v.Bool b) t h e = ap (λ t. over (run.threw (trap.Thrown t)) s.store) (sym e)
throw_is p s old (v.Int z) t h e = ap (λ t. over (run.threw (trap.Thrown t)) s.store) (sym e)
throw_is p s old (v.Str i) t h e = ap (λ t. over (run.threw (trap.Thrown t)) s.store) (sym e)
throw_is p s old (v.Ref a) t h e = ap (λ t. over (run.threw (trap.Thrown t)) s.store) (sym e)

pub throws_text : (p : Parts) (old after : Isolate) (w : Value) (t : shown.Text) → old.values.items ≡ after.values.items ++ w ∷ [] → (w ≡ v.Null → ⊥)
    → t ≡ thrown_text (class_name p.classes) (heap_of old.heap) (value_of old.heap w)
    → Threw p old flow.Trapped (record old { values = after.values; trap = trap.Thrown t })
throws_text p old after w t e is told pool unit f turns held = record {
  led = λ answers asked tests h.
      let s : State = seen old f turns asked tests in
      let below : List shown.Value = values_of old.heap after.values.items in
      let go : List shown.Value → shown.Value → Step = λ below v. by (calls.throw (of_numbered p) v) s (λ _ s. stuck wrong_kind) in
      top_one_is unit s below (value_of old.heap w) go (shown_push (value_of old.heap) old.values.items after.values.items w e) h
      ∙ throw_is p s old w t is told;
  held = record {
    values = (below_is (IsOf old.heap) old.values.items after.values.items w e held.values).0;
    globals = held.globals;
    constants = held.constants;
    literals = held.literals;
    concrete = held.concrete;
    built_in = held.built_in;
  };
  stays = tt;
  calls = refl;
}

-- where a value names no place, no element is looked for
no_place : (p : Parts) (pool : Pool) (answers : ℕ → ℕ → Target) (to : ℕ) (s : State) (below : List shown.Value) (v i : shown.Value) → place_of i ≡ None → m.element p pool answers to s below v i ≡ stuck wrong_kind
no_place p pool answers to s below v shown.null h = refl
no_place p pool answers to s below v (shown.bool b) h = refl
no_place p pool answers to s below v (shown.num (pos k)) h = absurd cc
no_place p pool answers to s below v (shown.num (negsuc k)) h = refl
no_place p pool answers to s below v (shown.text t) h = refl
no_place p pool answers to s below v (shown.at a) h = refl

-- the number that names a place
a_place : (p : Parts) (pool : Pool) (answers : ℕ → ℕ → Target) (to k : ℕ) (s : State) (below : List shown.Value) (v i : shown.Value) → place_of i ≡ Some k → m.element p pool answers to s below v i ≡ m.element_in p pool answers to s below k (thing_at s.store.heap v)
a_place p pool answers to k s below v shown.null h = absurd cc
a_place p pool answers to k s below v (shown.bool b) h = absurd cc
a_place p pool answers to k s below v (shown.num (pos n)) h = let e : n ≡ k = cc in ap (λ (n : ℕ). m.element_in p pool answers to s below n (thing_at s.store.heap v)) e
a_place p pool answers to k s below v (shown.num (negsuc n)) h = absurd cc
a_place p pool answers to k s below v (shown.text t) h = absurd cc
a_place p pool answers to k s below v (shown.at a) h = absurd cc

lt_is : (n k : ℕ) → n < k → nat_lt n k ≡ true
lt_is n k h = grind (arith, nat_tests)

read_is : (items : List shown.Value) (k : ℕ) (w : shown.Value) → slice_get items k ≡ Some w → slice_index_or items k shown.null ≡ w
read_is [] k w h = absurd cc
read_is (x ∷ items) zero w h = cc
read_is (x ∷ items) (suc k) w h = read_is items k w h

lt_within : (items : List shown.Value) (k : ℕ) (w : shown.Value) → slice_get items k ≡ Some w → (nat_lt k (length items) ≡ true) × (slice_index_or items k shown.null ≡ w)
lt_within items k w h = let below : k < length items = slice_get_within items k w h in (lt_is k (length items) below, read_is items k w h)

past_len : (items : List shown.Value) (k : ℕ) → slice_get items k ≡ None → length items ≤ k
past_len [] k h = omega arith
past_len (x ∷ items) zero h = absurd cc
past_len (x ∷ items) (suc k) h = let rest = past_len items k h in omega (arith, rest)

lt_not : (n k : ℕ) → k ≤ n → nat_lt n k ≡ false
lt_not n k h = grind (arith, nat_tests)

past : (items : List shown.Value) (k : ℕ) → slice_get items k ≡ None → nat_lt k (length items) ≡ false
past items k h = lt_not k (length items) (past_len items k h)

-- an element that is there
has_element : (p : Parts) (pool : Pool) (answers : ℕ → ℕ → Target) (to k : ℕ) (s : State) (below : List shown.Value) (o : Option Thing) (w : shown.Value) → slice_get (items_in o) k ≡ Some w → goes (m.element_in p pool answers to s below k o) ≡ true
    → m.element_in p pool answers to s below k o ≡ on s (below ++ w ∷ shown.num (pos (k + 1)) ∷ [])
has_element p pool answers to k s below (Some (list items)) w e h =
    let here = lt_within items k w e in
    ap (λ b. choose b (on s (below ++ slice_index_or items k shown.null ∷ shown.num (pos (k + 1)) ∷ [])) (jump to s below)) here.0
    ∙ ap (λ v. on s (below ++ v ∷ shown.num (pos (k + 1)) ∷ [])) here.1
has_element p pool answers to k s below (Some (object c fields)) w e h = absurd cc
has_element p pool answers to k s below (Some (invocation name args kind)) w e h = absurd cc
has_element p pool answers to k s below None w e h = absurd cc

-- an element that is not
lacks_element : (p : Parts) (pool : Pool) (answers : ℕ → ℕ → Target) (to k : ℕ) (s : State) (below : List shown.Value) (o : Option Thing) → slice_get (items_in o) k ≡ None → goes (m.element_in p pool answers to s below k o) ≡ true
    → m.element_in p pool answers to s below k o ≡ jump to s below
lacks_element p pool answers to k s below (Some (list items)) e h =
    ap (λ b. choose b (on s (below ++ slice_index_or items k shown.null ∷ shown.num (pos (k + 1)) ∷ [])) (jump to s below)) (past items k e)
lacks_element p pool answers to k s below (Some (object c fields)) e h = absurd cc
lacks_element p pool answers to k s below (Some (invocation name args kind)) e h = absurd cc
lacks_element p pool answers to k s below None e h = absurd cc

-- what is looked at, and what stands below
module _ (to : ℕ) (old mid after : Isolate) (f : Frame) (l number : Value) (e_n : old.values.items ≡ mid.values.items ++ number ∷ []) (e_v : mid.values.items ≡ after.values.items ++ l ∷ []) where
  looks : (unit : Unit) (s : State) → s.values ≡ values_of old.heap old.values.items → (go : List shown.Value → shown.Value → shown.Value → Step) → goes (top_two unit s go) ≡ true
      → top_two unit s go ≡ go (values_of old.heap after.values.items) (value_of old.heap l) (value_of old.heap number)
  looks unit s is go h = top_two_is unit s (values_of old.heap after.values.items) (value_of old.heap l) (value_of old.heap number) go
      (is ∙ shown_push (value_of old.heap) old.values.items mid.values.items number e_n ∙ ap (λ vs. vs ++ value_of old.heap number ∷ []) (shown_push (value_of old.heap) mid.values.items after.values.items l e_v)) h

  parts : All (IsOf old.heap) old.values.items → All (IsOf old.heap) after.values.items × IsOf old.heap l
  parts h = below_is (IsOf old.heap) mid.values.items after.values.items l e_v (below_is (IsOf old.heap) old.values.items mid.values.items number e_n h).0

  pub no_number_there : place_of (value_of old.heap number) ≡ None → DoesAll (ElementOr to) old f flow.TypeFault (with_values old after) f
  no_number_there none turns p pool unit held = record {
    led = λ answers asked tests h.
        let s : State = seen old f turns asked tests in
        let first = looks unit s refl (λ below v i. m.element p pool answers to s below v i) h ∙ no_place p pool answers to s (values_of old.heap after.values.items) (value_of old.heap l) (value_of old.heap number) none in
        absurd (no_way (ap goes (sym first) ∙ h));
    held = held_values p pool old after held (parts held.values).0;
    stays = tt;
    calls = refl;
  }

  pub no_element_there : (k : ℕ) → place_of (value_of old.heap number) ≡ Some k → element_of (heap_of old.heap) (value_of old.heap l) k ≡ None
      → DoesAll (ElementOr to) old f flow.Here (with_values old after) (record f { place = to })
  no_element_there k is none turns p pool unit held = record {
    led = λ answers asked tests h.
        let s : State = seen old f turns asked tests in
        let first = looks unit s refl (λ below v i. m.element p pool answers to s below v i) h ∙ a_place p pool answers to k s (values_of old.heap after.values.items) (value_of old.heap l) (value_of old.heap number) is in
        first ∙ lacks_element p pool answers to k s (values_of old.heap after.values.items) (thing_at (heap_of old.heap) (value_of old.heap l)) none (ap goes (sym first) ∙ h);
    held = held_values p pool old after held (parts held.values).0;
    stays = refl;
    calls = refl;
  }

  pub element_there : (k : ℕ) (last new : Isolate) (item : Value) → place_of (value_of old.heap number) ≡ Some k
      → element_of (heap_of old.heap) (value_of old.heap l) k ≡ Some (value_of old.heap item) → IsOf old.heap item
      → last.values.items ≡ after.values.items ++ item ∷ [] → new.values.items ≡ last.values.items ++ v.Int (pos (k + 1)) ∷ []
      → DoesAll (ElementOr to) old f flow.Here (with_values old new) (next f)
  element_there k last new item is found of_heap e_item e_next turns p pool unit held =
      let below : List Value = after.values.items in
      let values : values_of old.heap new.values.items ≡ values_of old.heap below ++ value_of old.heap item ∷ shown.num (pos (k + 1)) ∷ [] =
      shown_push (value_of old.heap) new.values.items last.values.items (v.Int (pos (k + 1))) e_next
      ∙ ap (λ vs. vs ++ shown.num (pos (k + 1)) ∷ []) (shown_push (value_of old.heap) last.values.items below item e_item)
      ∙ append_assoc (values_of old.heap below) (value_of old.heap item ∷ []) (shown.num (pos (k + 1)) ∷ []) in
      did_on p pool unit (ElementOr to) old new f turns held
      (subst (All (IsOf old.heap)) (sym e_next) (All-push (IsOf old.heap) last.values.items (v.Int (pos (k + 1)))
      (subst (All (IsOf old.heap)) (sym e_item) (All-push (IsOf old.heap) below item (parts held.values).0 of_heap)) tt))
      (λ answers asked tests h.
      let s : State = seen old f turns asked tests in
      let first = looks unit s refl (λ below v i. m.element p pool answers to s below v i) h ∙ a_place p pool answers to k s (values_of old.heap below) (value_of old.heap l) (value_of old.heap number) is in
      first ∙ has_element p pool answers to k s (values_of old.heap below) (thing_at (heap_of old.heap) (value_of old.heap l)) (value_of old.heap item) found (ap goes (sym first) ∙ h)
      ∙ ap (on s) (sym values))

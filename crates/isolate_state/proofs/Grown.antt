-- What is held stays held where the heap grows.
use Rattle.std.proofs.Common.{◌≡◌, ℕ, zero, suc, ◌+◌, ◌-◌, ◌<◌, ◌≤◌, true, List, [], ◌∷◌, ◌++◌, length, map, take, drop, slice_index_or, refl, sym, ◌∙◌, ap, subst, arith, length-drop, take-append-drop}
use Rattle.std.specs.Prelude.{All, IsTrue}
use Rattle.std.proofs.lemmas.List.{length-map, map-append}
use Rattle.std.proofs.Math.Seq.{take-length}
use Rattle.std.proofs.lemmas.List.Elements.{All-push, All-append, All-take, All-head, All-tail}
use Rattle.program.specs.Parts.{Parts, is_concrete}
use Rattle.program.specs.declared.numbered.Target.{Target}
use Rattle.dart_values.specs.declared.value.Value.{Value}
use Rattle.dart_values.specs.Values as shown
use Rattle.dart_values.specs.Values.{classes, thing_class}
use Rattle.dart_values.specs.Store.{Store, IsOf, Keeps, value_of, values_of, heap_of}
use Rattle.dart_values.proofs.Growth.{of_kept, value_of_kept}
use Rattle.code_unit.specs.declared.instr.Instr.{Instr}
use Rattle.code_unit.specs.declared.unit.Unit.{Unit}
use Rattle.code_pool.specs.Pool.{Pool}
use Rattle.code_pool.specs.Machine.{State, Step, on, top}
use Rattle.isolate_state.specs.declared.frame.Frame.{Frame}
use Rattle.isolate_state.specs.declared.frame.Flow.TheVariants as flow
use Rattle.isolate_state.specs.declared.isolate.Isolate.{Isolate}
use Rattle.isolate_state.specs.State.{seen, goes, next, IsHeld, Went}
use Rattle.isolate_state.proofs.Steps.{shown_push, top_is}

pub all_kept : (old new : Store) → Keeps old new → (xs : List Value) → All (IsOf old) xs → All (IsOf new) xs
all_kept old new k xs h = λ i d below. of_kept old new k (slice_index_or xs i d) (h i d below)

pub shown_kept : (old new : Store) → Keeps old new → (xs : List Value) → All (IsOf old) xs → values_of new xs ≡ values_of old xs
shown_kept old new k [] h = refl
shown_kept old new k (x ∷ xs) h =
    ap (λ v. v ∷ values_of new xs) (value_of_kept old new k x (All-head (IsOf old) x xs h)) ∙ ap (λ vs. value_of old x ∷ vs) (shown_kept old new k xs (All-tail (IsOf old) x xs h))

-- each object has a class of which objects are made
abbrev pub Concrete : Parts → Store → Type 0
Concrete p heap = All (λ c. IsTrue (is_concrete p.classes c)) (classes (heap_of heap))

abbrev pub with_heap : Isolate → Isolate → Isolate
with_heap old after = record old { heap = after.heap; values = after.values }

pub held_heap : (p : Parts) (pool : Pool) (old after : Isolate) → IsHeld p pool old → Keeps old.heap after.heap → Concrete p after.heap → All (IsOf after.heap) after.values.items
    → IsHeld p pool (with_heap old after)
held_heap p pool old after held k concrete all = record {
  values = all;
  globals = all_kept old.heap after.heap k old.globals.items held.globals;
  constants = all_kept old.heap after.heap k old.constants.items held.constants;
  literals = shown_kept old.heap after.heap k old.constants.items held.constants ∙ held.literals;
  concrete = concrete;
  built_in = held.built_in;
}

pub classes_grow : (p : Parts) (old new : Store) (thing : shown.Thing) → heap_of new ≡ heap_of old ++ thing ∷ [] → Concrete p old → IsTrue (is_concrete p.classes (thing_class thing)) → Concrete p new
classes_grow p old new thing e h is =
    let P : ℕ → Type 0 = λ c. IsTrue (is_concrete p.classes c) in
    let shown_classes : classes (heap_of new) ≡ classes (heap_of old) ++ thing_class thing ∷ [] = shown_push thing_class (heap_of new) (heap_of old) thing e in
    subst (All P) (sym shown_classes) (All-push P (classes (heap_of old)) (thing_class thing) h is)

-- It goes on over a heap that changed, with these values.
pub went_over : (p : Parts) (pool : Pool) (go : (ℕ → ℕ → Target) → State → Step) (old after : Isolate) (f : Frame) (turns : ℕ)
    → IsHeld p pool old → Keeps old.heap after.heap → Concrete p after.heap → All (IsOf after.heap) after.values.items
    → ((answers : ℕ → ℕ → Target) (asked tests : List (ℕ × ℕ)) → goes (go answers (seen old f turns asked tests)) ≡ true
    → go answers (seen old f turns asked tests)
    ≡ (let s : State = seen old f turns asked tests in on (record s { store = record s.store { heap = heap_of after.heap } }) (values_of after.heap after.values.items)))
    → Went p pool go old f turns flow.Here (with_heap old after) (next f) turns
went_over p pool go old after f turns held k concrete all led =
    let globals : values_of old.heap old.globals.items ≡ values_of after.heap old.globals.items = sym (shown_kept old.heap after.heap k old.globals.items held.globals) in
    record {
      led = λ answers asked tests h.
          let s : State = seen old f turns asked tests in
          led answers asked tests h
          ∙ ap (λ gs. on (record s { store = record s.store { heap = heap_of after.heap; globals = gs } }) (values_of after.heap after.values.items)) globals;
      held = held_heap p pool old after held k concrete all;
      stays = refl;
      calls = refl;
    }

-- It goes on over a heap that changed, with a value of it on top of some of the values.
pub went_made : (p : Parts) (pool : Pool) (go : (ℕ → ℕ → Target) → State → Step) (old after : Isolate) (f : Frame) (turns : ℕ) (below : List Value) (v : Value)
    → IsHeld p pool old → Keeps old.heap after.heap → Concrete p after.heap → All (IsOf old.heap) below → IsOf after.heap v → after.values.items ≡ below ++ v ∷ []
    → ((answers : ℕ → ℕ → Target) (asked tests : List (ℕ × ℕ)) → goes (go answers (seen old f turns asked tests)) ≡ true
    → go answers (seen old f turns asked tests)
    ≡ (let s : State = seen old f turns asked tests in on (record s { store = record s.store { heap = heap_of after.heap } }) (values_of old.heap below ++ value_of after.heap v ∷ [])))
    → Went p pool go old f turns flow.Here (with_heap old after) (next f) turns
went_made p pool go old after f turns below v held k concrete all of_heap e led =
    let kept : values_of after.heap below ≡ values_of old.heap below = shown_kept old.heap after.heap k below all in
    let values : values_of old.heap below ++ value_of after.heap v ∷ [] ≡ values_of after.heap after.values.items =
    ap (λ vs. vs ++ value_of after.heap v ∷ []) (sym kept) ∙ sym (shown_push (value_of after.heap) after.values.items below v e) in
    went_over p pool go old after f turns held k concrete
    (subst (All (IsOf after.heap)) (sym e) (All-push (IsOf after.heap) below v (all_kept old.heap after.heap k below all) of_heap))
    (λ answers asked tests h.
    let s : State = seen old f turns asked tests in
    led answers asked tests h ∙ ap (on (record s { store = record s.store { heap = heap_of after.heap } })) values)

-- the top n values, and those below
pub top_split : (n : ℕ) (unit : Unit) (i : Isolate) (f : Frame) (turns : ℕ) (asked tests : List (ℕ × ℕ)) (go : List shown.Value → List shown.Value → Step)
    → n ≤ length i.values.items → goes (top n unit (seen i f turns asked tests) go) ≡ true
    → top n unit (seen i f turns asked tests) go ≡ go (values_of i.heap (take (length i.values.items - n) i.values.items)) (values_of i.heap (drop (length i.values.items - n) i.values.items))
top_split n unit i f turns asked tests go some h =
    let at : ℕ = length i.values.items - n in
    let whole : values_of i.heap i.values.items ≡ values_of i.heap (take at i.values.items) ++ values_of i.heap (drop at i.values.items) =
    ap (map (value_of i.heap)) (sym (take-append-drop at i.values.items)) ∙ map-append (value_of i.heap) (take at i.values.items) (drop at i.values.items) in
    let count : length (values_of i.heap (drop at i.values.items)) ≡ n = length-map (drop at i.values.items) (value_of i.heap) ∙ length-drop at i.values.items ∙ omega (arith, some) in
    top_is n unit (seen i f turns asked tests) (values_of i.heap (take at i.values.items)) (values_of i.heap (drop at i.values.items)) go whole count h

-- the end of a list, as a slice of it
pub tail_is : (s all ys : List Value) (k : ℕ) → ys ≡ take (length s - k) (drop k s) → s ≡ all → ys ≡ drop k all
tail_is s all ys k e is =
    e ∙ ap (λ n. take n (drop k s)) (sym (length-drop k s)) ∙ take-length (drop k s) ∙ ap (drop k) is

pub take_map : {A B : Type 0} (f : A → B) (n : ℕ) (xs : List A) → take n (map f xs) ≡ map f (take n xs)
take_map f zero xs = refl
take_map f (suc n) [] = refl
take_map f (suc n) (x ∷ xs) = ap (λ ys. f x ∷ ys) (take_map f n xs)

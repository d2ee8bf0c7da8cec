-- What a test by `is` does.
use Rattle.std.proofs.Common.{◌≡◌, ℕ, zero, suc, ◌<◌, true, Bool, nat_lt, nat_eq, List, [], ◌∷◌, ◌++◌, length, slice_get, refl, sym, ◌∙◌, ap, subst, arith}
use Rattle.std.specs.Prelude.{All, IsTrue, Option, Some, None}
use Rattle.std.proofs.lemmas.List.{append-nil, length-map}
use Rattle.std.proofs.lemmas.List.Elements.{All-push}
use Rattle.std.proofs.lemmas.Option.{slice_get_within}
use Rattle.program.specs.declared.ids.ClassId.{ClassId}
use Rattle.program.specs.declared.numbered.Class.{Class}
use Rattle.program.specs.Hierarchy.{is_subtype}
use Rattle.program.specs.Parts.{Parts, is_concrete, concrete, supers}
use Rattle.dart_values.specs.declared.value.Value.{Value}
use Rattle.dart_values.specs.declared.value.Value.TheVariants as v
use Rattle.dart_values.specs.Values as shown
use Rattle.dart_values.specs.Values.{classes, class_of, thing_class, class_of_thing}
use Rattle.dart_values.specs.Store.{IsOf, value_of, values_of, heap_of, thing_in}
use Rattle.dart_meaning.specs.Calls as calls
use Rattle.dart_meaning.specs.Numbered.{of_numbered}
use Rattle.code_unit.specs.declared.instr.Instr.TheVariants.{IsClass}
use Rattle.code_pool.specs.Pool.{Pool}
use Rattle.code_pool.specs.Machine.{State, Step, act, by, on, push, when, no_number}
use Rattle.isolate_state.specs.declared.frame.Frame.{Frame}
use Rattle.isolate_state.specs.declared.frame.Flow.TheVariants as flow
use Rattle.isolate_state.specs.declared.isolate.Isolate.{Isolate}
use Rattle.isolate_state.specs.State.{seen, goes, next, IsHeld}
use Rattle.isolate_state.proofs.Steps.{shown_push, top_one_is, when_holds}
use Rattle.isolate_state.proofs.Held.{with_values, held_values}
use Rattle.isolate_state.proofs.Moves.{below_is}
use Rattle.isolate_calls.specs.Asking.{HasClasses, Tested}

-- a concrete class is there
pub concrete_there : (p : Parts) (c : ℕ) → IsTrue (is_concrete p.classes c) → c < length p.classes
concrete_there p c h = within (slice_get p.classes c) refl h where
  within : (o : Option Class) → slice_get p.classes c ≡ o → concrete o ≡ true → c < length p.classes
  within None is e = absurd cc
  within (Some k) is e = slice_get_within p.classes c k is

-- each value has a class of the program that is not abstract
pub class_concrete : (p : Parts) (i : Isolate) (w : Value) → HasClasses p i → IsOf i.heap w → IsTrue (is_concrete p.classes (class_of (heap_of i.heap) (value_of i.heap w)))
class_concrete p i v.Null h of_heap = h.built_in 1 (omega arith)
class_concrete p i (v.Bool b) h of_heap = h.built_in 2 (omega arith)
class_concrete p i (v.Int z) h of_heap = h.built_in 3 (omega arith)
class_concrete p i (v.Str k) h of_heap = h.built_in 4 (omega arith)
class_concrete p i (v.Ref a) h of_heap = at_place (heap_of i.heap) a (omega (arith, of_heap, length-map i.heap.things (thing_in i.heap.texts))) h.concrete where
  at_place : (heap : shown.Heap) (a : ℕ) → a < length heap → All (λ c. IsTrue (is_concrete p.classes c)) (classes heap) → IsTrue (is_concrete p.classes (class_of_thing (slice_get heap a)))
  at_place [] a below all = absurd (omega (arith, below))
  at_place (t ∷ heap) zero below all = all 0 0 (omega arith)
  at_place (t ∷ heap) (suc a) below all = at_place heap a (omega arith) (λ k d under. all (suc k) d (omega (arith, under)))

-- what is left of a test, behind the operand
module _ (p : Parts) (c : ClassId) (old : Isolate) (w : Value) (s : State) (bs : List shown.Value) where
  abbrev rest : shown.Value → Step
  rest u = when no_number (nat_lt c.0 (length p.classes)) (by (calls.is_of (of_numbered p) u c.0) s (λ holds s. push s bs (shown.bool holds)))

  null_is : w ≡ v.Null → goes (rest (value_of old.heap w)) ≡ true → rest (value_of old.heap w) ≡ push s bs (shown.bool (nat_eq c.0 1))
  null_is is h =
      let there = when_holds no_number (nat_lt c.0 (length p.classes)) _ h in
      ap (λ b. when no_number b (by (calls.is_of (of_numbered p) (value_of old.heap w) c.0) s (λ holds s. push s bs (shown.bool holds)))) there
      ∙ ap (λ (u : Value). by (calls.is_of (of_numbered p) (value_of old.heap u) c.0) s (λ holds s. push s bs (shown.bool holds))) is

  abbrev noted : shown.Value → Step
  noted u = push (record s { store = record s.store { tests = s.store.tests ++ (class_of s.store.heap u, c.0) ∷ [] } }) bs (shown.bool (is_subtype (supers p.classes) (class_of s.store.heap u) c.0))

  other_by : (u : Value) → (u ≡ v.Null → ⊥) → by (calls.is_of (of_numbered p) (value_of old.heap u) c.0) s (λ holds s. push s bs (shown.bool holds)) ≡ noted (value_of old.heap u)
  other_by v.Null h = absurd (h refl)
  other_by (v.Bool x) h = refl
  other_by (v.Int z) h = refl
  other_by (v.Str k) h = refl
  other_by (v.Ref a) h = refl

  other_is : (w ≡ v.Null → ⊥) → goes (rest (value_of old.heap w)) ≡ true → rest (value_of old.heap w) ≡ noted (value_of old.heap w)
  other_is other h =
      let there = when_holds no_number (nat_lt c.0 (length p.classes)) _ h in
      ap (λ b. when no_number b (by (calls.is_of (of_numbered p) (value_of old.heap w) c.0) s (λ holds s. push s bs (shown.bool holds)))) there ∙ other_by w other

module _ {T : Type 0} (after : List (ℕ × ℕ) → T → Type 0) (types : T) (p : Parts) (c : ClassId) (old mid new : Isolate) (f : Frame) (w : Value) (b : Bool)
    (e : old.values.items ≡ mid.values.items ++ w ∷ []) (pushed : new.values.items ≡ mid.values.items ++ v.Bool b ∷ []) where
  abbrev bs : List shown.Value
  bs = values_of old.heap mid.values.items

  values_are : bs ++ shown.bool b ∷ [] ≡ values_of old.heap new.values.items
  values_are = sym (shown_push (value_of old.heap) new.values.items mid.values.items (v.Bool b) pushed)

  keeps : (pool : Pool) → IsHeld p pool old → IsHeld p pool (with_values old new)
  keeps pool held = held_values p pool old new held
      (subst (All (IsOf old.heap)) (sym pushed) (All-push (IsOf old.heap) mid.values.items (v.Bool b) (below_is (IsOf old.heap) old.values.items mid.values.items w e held.values).0 tt))

  pub tests_null : w ≡ v.Null → b ≡ nat_eq c.0 1 → after [] types → Tested after types p c old f flow.Here (with_values old new) (next f)
  tests_null is answer none = record {
    told = [];
    after_told = none;
    led = λ pool unit answers turns asked tests held h.
        let s : State = seen old f turns asked tests in
        let first : act p pool answers unit (IsClass c) s ≡ rest p c old w s bs (value_of old.heap w) =
        top_one_is unit s bs (value_of old.heap w) (λ below u. rest p c old w s below u) (shown_push (value_of old.heap) old.values.items mid.values.items w e) h in
        first ∙ null_is p c old w s bs is (ap goes (sym first) ∙ h)
        ∙ ap (λ x. push s bs (shown.bool x)) (sym answer)
        ∙ ap (on s) values_are
        ∙ ap (λ ts. on (record s { store = record s.store { tests = ts } }) (values_of old.heap new.values.items)) (sym (append-nil tests));
    held = keeps;
    stays = refl;
    calls = refl;
  }

  pub tests_other : (own : ℕ) → (w ≡ v.Null → ⊥) → own ≡ class_of (heap_of old.heap) (value_of old.heap w) → b ≡ is_subtype (supers p.classes) own c.0 → after ((own, c.0) ∷ []) types
      → Tested after types p c old f flow.Here (with_values old new) (next f)
  tests_other own other class answer one = record {
    told = (own, c.0) ∷ [];
    after_told = one;
    led = λ pool unit answers turns asked tests held h.
        let s : State = seen old f turns asked tests in
        let first : act p pool answers unit (IsClass c) s ≡ rest p c old w s bs (value_of old.heap w) =
        top_one_is unit s bs (value_of old.heap w) (λ below u. rest p c old w s below u) (shown_push (value_of old.heap) old.values.items mid.values.items w e) h in
        first ∙ other_is p c old w s bs other (ap goes (sym first) ∙ h)
        ∙ ap (λ (k : ℕ). push (record s { store = record s.store { tests = tests ++ (k, c.0) ∷ [] } }) bs (shown.bool (is_subtype (supers p.classes) k c.0))) (sym class)
        ∙ ap (λ x. push (record s { store = record s.store { tests = tests ++ (own, c.0) ∷ [] } }) bs (shown.bool x)) (sym answer)
        ∙ ap (on (record s { store = record s.store { tests = tests ++ (own, c.0) ∷ [] } })) values_are;
    held = keeps;
    stays = refl;
    calls = refl;
  }

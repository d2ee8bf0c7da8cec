-- What the instructions on places and bools do.
use Rattle.std.proofs.Common.{◌≡◌, ◌≢◌, ℕ, zero, suc, ◌+◌, ◌-◌, ◌<◌, Bool, true, false, not, List, [], ◌∷◌, ◌++◌, length, take, map, slice_index_or, refl, sym, ◌∙◌, ap, subst, arith}
use Rattle.std.specs.Prelude.{All}
use Rattle.std.proofs.lemmas.List.Elements.{All-push}
use Rattle.dart_values.specs.declared.value.Value.{Value}
use Rattle.dart_values.specs.declared.value.Value.TheVariants as v
use Rattle.dart_values.specs.declared.fault.Trap.TheVariants as trap
use Rattle.dart_values.specs.Values as shown
use Rattle.dart_values.specs.Store.{Store, IsOf, value_of, values_of}
use Rattle.dart_meaning.specs.Run.{choose, threw, need_bool, need_text}
use Rattle.code_unit.specs.declared.instr.Instr.TheVariants.{JumpIfFalse, ExpectBool, Not, ExpectString}
use Rattle.code_unit.specs.declared.unit.Unit.{Unit}
use Rattle.code_pool.specs.Machine.{State, Step, over, act, by, on, jump, push, top_one}
use Rattle.isolate_state.specs.declared.frame.Frame.{Frame}
use Rattle.isolate_state.specs.declared.frame.Flow.TheVariants as flow
use Rattle.isolate_state.specs.declared.isolate.Isolate.{Isolate}
use Rattle.isolate_state.specs.State.{seen, next, DoesAll}
use Rattle.isolate_state.proofs.Steps.{shown_push, top_one_is}
use Rattle.isolate_state.proofs.Held.{with_values, held_values, did_on}
use Rattle.isolate_state.proofs.Moves.{below_is, last_split}

-- what is no bool is a TypeFault
no_bool : (heap : Store) (w : Value) (s : State) (go : Bool → State → Step) → ((b : Bool) → w ≢ v.Bool b) → by (need_bool (value_of heap w)) s go ≡ over (threw trap.TypeFault) s.store
no_bool heap v.Null s go h = refl
no_bool heap (v.Bool b) s go h = absurd (h b refl)
no_bool heap (v.Int z) s go h = refl
no_bool heap (v.Str i) s go h = refl
no_bool heap (v.Ref a) s go h = refl

-- what is no text is a TypeFault
no_text : (heap : Store) (w : Value) (s : State) (go : shown.Text → State → Step) → ((i : ℕ) → w ≢ v.Str i) → by (need_text (value_of heap w)) s go ≡ over (threw trap.TypeFault) s.store
no_text heap v.Null s go h = refl
no_text heap (v.Bool b) s go h = refl
no_text heap (v.Int z) s go h = refl
no_text heap (v.Str i) s go h = absurd (h i refl)
no_text heap (v.Ref a) s go h = refl

pub passes : (to : ℕ) (old after : Isolate) (f : Frame) (w : Value) → old.values.items ≡ after.values.items ++ w ∷ [] → w ≡ v.Bool true
    → DoesAll (JumpIfFalse to) old f flow.Here (with_values old after) (next f)
passes to old after f w e is turns p pool unit held =
    did_on p pool unit (JumpIfFalse to) old after f turns held (below_is (IsOf old.heap) old.values.items after.values.items w e held.values).0
    (λ answers asked tests h.
    let s : State = seen old f turns asked tests in
    let go : List shown.Value → shown.Value → Step = λ below w. by (need_bool w) s (λ b s. choose b (on s below) (jump to s below)) in
    top_one_is unit s (values_of old.heap after.values.items) (value_of old.heap w) go (shown_push (value_of old.heap) old.values.items after.values.items w e) h
    ∙ ap (λ (w : Value). go (values_of old.heap after.values.items) (value_of old.heap w)) is)

pub branches : (to : ℕ) (old after : Isolate) (f : Frame) (w : Value) → old.values.items ≡ after.values.items ++ w ∷ [] → w ≡ v.Bool false
    → DoesAll (JumpIfFalse to) old f flow.Here (with_values old after) (record f { place = to })
branches to old after f w e is turns p pool unit held = record {
  led = λ answers asked tests h.
      let s : State = seen old f turns asked tests in
      let go : List shown.Value → shown.Value → Step = λ below w. by (need_bool w) s (λ b s. choose b (on s below) (jump to s below)) in
      top_one_is unit s (values_of old.heap after.values.items) (value_of old.heap w) go (shown_push (value_of old.heap) old.values.items after.values.items w e) h
      ∙ ap (λ (w : Value). go (values_of old.heap after.values.items) (value_of old.heap w)) is;
  held = held_values p pool old after held (below_is (IsOf old.heap) old.values.items after.values.items w e held.values).0;
  stays = refl;
  calls = refl;
}

pub branch_faults : (to : ℕ) (old after : Isolate) (f : Frame) (w : Value) → old.values.items ≡ after.values.items ++ w ∷ [] → ((b : Bool) → w ≢ v.Bool b)
    → DoesAll (JumpIfFalse to) old f flow.TypeFault (with_values old after) f
branch_faults to old after f w e h turns p pool unit held = record {
  led = λ answers asked tests goes.
      let s : State = seen old f turns asked tests in
      let go : List shown.Value → shown.Value → Step = λ below w. by (need_bool w) s (λ b s. choose b (on s below) (jump to s below)) in
      top_one_is unit s (values_of old.heap after.values.items) (value_of old.heap w) go (shown_push (value_of old.heap) old.values.items after.values.items w e) goes
      ∙ no_bool old.heap w s _ h;
  held = held_values p pool old after held (below_is (IsOf old.heap) old.values.items after.values.items w e held.values).0;
  stays = tt;
  calls = refl;
}

pub nots : (old mid after : Isolate) (f : Frame) (w : Value) (b : Bool) → old.values.items ≡ mid.values.items ++ w ∷ [] → w ≡ v.Bool b
    → after.values.items ≡ mid.values.items ++ v.Bool (not b) ∷ [] → DoesAll Not old f flow.Here (with_values old after) (next f)
nots old mid after f w b e is pushed turns p pool unit held =
    did_on p pool unit Not old after f turns held
    (subst (All (IsOf old.heap)) (sym pushed) (All-push (IsOf old.heap) mid.values.items (v.Bool (not b)) (below_is (IsOf old.heap) old.values.items mid.values.items w e held.values).0 tt))
    (λ answers asked tests h.
    let s : State = seen old f turns asked tests in
    let go : List shown.Value → shown.Value → Step = λ below w. by (need_bool w) s (λ b s. push s below (shown.bool (not b))) in
    top_one_is unit s (values_of old.heap mid.values.items) (value_of old.heap w) go (shown_push (value_of old.heap) old.values.items mid.values.items w e) h
    ∙ ap (λ (w : Value). go (values_of old.heap mid.values.items) (value_of old.heap w)) is
    ∙ ap (on s) (sym (shown_push (value_of old.heap) after.values.items mid.values.items (v.Bool (not b)) pushed)))

pub not_faults : (old after : Isolate) (f : Frame) (w : Value) → old.values.items ≡ after.values.items ++ w ∷ [] → ((b : Bool) → w ≢ v.Bool b)
    → DoesAll Not old f flow.TypeFault (with_values old after) f
not_faults old after f w e h turns p pool unit held = record {
  led = λ answers asked tests goes.
      let s : State = seen old f turns asked tests in
      let go : List shown.Value → shown.Value → Step = λ below w. by (need_bool w) s (λ b s. push s below (shown.bool (not b))) in
      top_one_is unit s (values_of old.heap after.values.items) (value_of old.heap w) go (shown_push (value_of old.heap) old.values.items after.values.items w e) goes
      ∙ no_bool old.heap w s _ h;
  held = held_values p pool old after held (below_is (IsOf old.heap) old.values.items after.values.items w e held.values).0;
  stays = tt;
  calls = refl;
}

-- What an answer does.
use Rattle.std.proofs.Common.{◌≡◌, ℕ, zero, suc, ◌+◌, ◌-◌, ◌<◌, ◌≤◌, true, List, [], ◌∷◌, ◌++◌, length, map, take, drop, slice_get, refl, sym, ◌∙◌, ap, subst, arith, length-append}
use Rattle.std.specs.Prelude.{All, Option, Some, None}
use Rattle.std.proofs.lemmas.List.{length-map, take-append-le}
use Rattle.std.proofs.lemmas.List.Elements.{All-push, All-take}
use Rattle.std.proofs.lemmas.Option.{slice_get_read}
use Rattle.std.proofs.Math.Seq.{take-append_seam, get_or-append_seam}
use Rattle.dart_values.specs.declared.value.Value.{Value}
use Rattle.dart_values.specs.Values as shown
use Rattle.dart_values.specs.Store.{IsOf, value_of, values_of}
use Rattle.dart_meaning.specs.Run.{done}
use Rattle.code_unit.specs.declared.instr.Instr.TheVariants.{Return}
use Rattle.code_unit.specs.declared.unit.Unit.{Unit}
use Rattle.code_pool.specs.Machine as m
use Rattle.code_pool.specs.Machine.{State, Step, to, over, act, back, leave, slot_count, one}
use Rattle.isolate_state.specs.declared.frame.Frame.{Frame}
use Rattle.isolate_state.specs.declared.frame.Flow.TheVariants as flow
use Rattle.isolate_state.specs.declared.isolate.Isolate.{Isolate}
use Rattle.isolate_state.specs.State.{seen, framed, goes, DoesAll}
use Rattle.isolate_state.proofs.Steps.{shown_push, top_one_is, operands}
use Rattle.isolate_state.proofs.Grown.{take_map}
use Rattle.isolate_state.proofs.Moves.{below_is, last_split}

-- where one waits, it goes on
back_last : (s : State) (rest : List m.Frame) (caller : m.Frame) (values : List shown.Value) → s.callers ≡ rest ++ caller ∷ []
    → back s values (slice_get s.callers (length s.callers - 1)) ≡ to (record { frame = caller; callers = rest; values = values; store = s.store })
back_last s rest caller values e =
    let n : length (rest ++ caller ∷ []) ≡ length rest + 1 = length-append rest (caller ∷ []) in
    let one : length (rest ++ caller ∷ []) - 1 ≡ length rest = omega (arith, n) in
    let there : slice_get (rest ++ caller ∷ []) (length rest) ≡ Some caller = slice_get_read (rest ++ caller ∷ []) (length (rest ++ caller ∷ [])) (length rest) caller refl (omega (arith, n)) (sym (get_or-append_seam rest caller [] caller)) in
    let last : slice_get s.callers (length s.callers - 1) ≡ Some caller = rw e (rw one there) in
    let fewer : take (length s.callers - 1) s.callers ≡ rest = rw e (rw one (take-append_seam rest (caller ∷ []))) in
    ap (back s values) last ∙ ap (λ cs. to (record { frame = caller; callers = cs; values = values; store = s.store })) fewer

pub answers_caller : (old mid after : Isolate) (f caller : Frame) (v : Value) → old.values.items ≡ mid.values.items ++ v ∷ [] → old.callers.items ≡ after.callers.items ++ caller ∷ []
    → after.values.items ≡ take f.base mid.values.items ++ v ∷ [] → DoesAll Return old f flow.Elsewhere (record old { values = after.values; callers = after.callers }) caller
answers_caller old mid after f caller v e waits e_after turns p pool unit held =
    let heap = old.heap in
    let below : List Value = mid.values.items in
    let parts = below_is (IsOf heap) old.values.items below v e held.values in
    let shown_values = shown_push (value_of heap) old.values.items below v e in
    let shown_callers : map framed old.callers.items ≡ map framed after.callers.items ++ framed caller ∷ [] = shown_push framed old.callers.items after.callers.items caller waits in
    record {
      led = λ answers asked tests h.
          let s : State = seen old f turns asked tests in
          let room = operands 1 unit s (λ below vs. one vs (λ v. leave s v)) h in
          let size : length (values_of heap old.values.items) ≡ length (values_of heap below) + 1 = ap length shown_values ∙ length-append (values_of heap below) (value_of heap v ∷ []) in
          let low : f.base ≤ length (values_of heap below) = omega (arith, room, size) in
          let cut : take f.base (values_of heap old.values.items) ≡ values_of heap (take f.base below) =
          ap (take f.base) shown_values ∙ take-append-le f.base (values_of heap below) (value_of heap v ∷ []) low ∙ take_map (value_of heap) f.base below in
          let now : take f.base (values_of heap old.values.items) ++ value_of heap v ∷ [] ≡ values_of heap after.values.items =
          ap (λ vs. vs ++ value_of heap v ∷ []) cut ∙ sym (shown_push (value_of heap) after.values.items (take f.base below) v e_after) in
          top_one_is unit s (values_of heap below) (value_of heap v) (λ below v. leave s v) shown_values h
          ∙ back_last s (map framed after.callers.items) (framed caller) (take f.base (values_of heap old.values.items) ++ value_of heap v ∷ []) shown_callers
          ∙ ap (λ vs. to (record { frame = framed caller; callers = map framed after.callers.items; values = vs; store = s.store })) now;
      held = record {
        values = subst (All (IsOf heap)) (sym e_after) (All-push (IsOf heap) (take f.base below) v (All-take (IsOf heap) f.base below parts.0) parts.1);
        globals = held.globals;
        constants = held.constants;
        literals = held.literals;
        concrete = held.concrete;
        built_in = held.built_in;
      };
      stays = tt;
      calls = refl;
    }

-- a list that is not empty ends in a value
pub last_of : (xs : List shown.Value) → 1 ≤ length xs → (below : List shown.Value) × (v : shown.Value) × (xs ≡ below ++ v ∷ [])
last_of [] h = absurd (omega (arith, h))
last_of (x ∷ []) h = ([], x, refl)
last_of (x ∷ y ∷ xs) h = let rest = last_of (y ∷ xs) (omega arith) in (x ∷ rest.0, rest.1, ap (λ zs. x ∷ zs) rest.2)

pub answers_none : (old : Isolate) (f : Frame) → 0 < length old.values.items → old.callers.items ≡ [] → DoesAll Return old f flow.Done old f
answers_none old f some none turns p pool unit held = record {
  led = λ answers asked tests h.
      let s : State = seen old f turns asked tests in
      let there : 1 ≤ length (values_of old.heap old.values.items) = omega (arith, some, length-map old.values.items (value_of old.heap)) in
      let split = last_of (values_of old.heap old.values.items) there in
      top_one_is unit s split.0 split.1 (λ below v. leave s v) split.2 h
      ∙ rw none refl;
  held = held;
  stays = tt;
  calls = refl;
}

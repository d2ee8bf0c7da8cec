-- What is held stays held, and what values are shown as.
use Rattle.std.proofs.Common.{◌≡◌, ℕ, zero, suc, ◌+◌, ◌<◌, true, List, [], ◌∷◌, ◌++◌, length, map, slice_get, slice_set, slice_index_or, refl, sym, ◌∙◌, ap, subst, arith}
use Rattle.std.specs.Prelude.{All, Some, option_map}
use Rattle.std.proofs.lemmas.List.{map-set}
use Rattle.std.proofs.lemmas.List.Elements.{All-push, All-set}
use Rattle.std.proofs.lemmas.Option.{slice_get_read}
use Rattle.program.specs.Parts.{Parts}
use Rattle.program.specs.declared.numbered.Target.{Target}
use Rattle.dart_values.specs.declared.value.Value.{Value}
use Rattle.dart_values.specs.Store.{IsOf, value_of, values_of, heap_of}
use Rattle.code_unit.specs.declared.instr.Instr.{Instr}
use Rattle.code_unit.specs.declared.unit.Unit.{Unit}
use Rattle.code_pool.specs.Pool.{Pool}
use Rattle.code_pool.specs.Machine.{act, on, jump}
use Rattle.isolate_state.specs.declared.frame.Frame.{Frame}
use Rattle.isolate_state.specs.declared.frame.Flow.TheVariants as flow
use Rattle.isolate_state.specs.declared.isolate.Isolate.{Isolate}
use Rattle.isolate_state.specs.State.{seen, goes, next, IsHeld, Did}
use Rattle.isolate_state.proofs.Steps.{shown_push}

pub map_get : {A B : Type 0} (f : A → B) (xs : List A) (k : ℕ) → slice_get (map f xs) k ≡ option_map f (slice_get xs k)
map_get f [] k = refl
map_get f (x ∷ xs) zero = refl
map_get f (x ∷ xs) (suc k) = map_get f xs k

-- the shown value at a place
pub shown_at : {A B : Type 0} (f : A → B) (xs : List A) (k : ℕ) (x : A) → k < length xs → x ≡ slice_index_or xs k x → slice_get (map f xs) k ≡ Some (f x)
shown_at f xs k x there is = map_get f xs k ∙ ap (option_map f) (slice_get_read xs (length xs) k x refl there is)

abbrev pub with_values : Isolate → Isolate → Isolate
with_values old after = record old { values = after.values }

pub held_values : (p : Parts) (pool : Pool) (old after : Isolate) → IsHeld p pool old → All (IsOf old.heap) after.values.items → IsHeld p pool (with_values old after)
held_values p pool old after held all = record { values = all; globals = held.globals; constants = held.constants; literals = held.literals; concrete = held.concrete; built_in = held.built_in }

-- it goes on with other values
pub did_on : (p : Parts) (pool : Pool) (unit : Unit) (i : Instr) (old after : Isolate) (f : Frame) (turns : ℕ) → IsHeld p pool old → All (IsOf old.heap) after.values.items
    → ((answers : ℕ → ℕ → Target) (asked tests : List (ℕ × ℕ)) → goes (act p pool answers unit i (seen old f turns asked tests)) ≡ true
    → act p pool answers unit i (seen old f turns asked tests) ≡ on (seen old f turns asked tests) (values_of old.heap after.values.items))
    → Did p pool unit i old f turns flow.Here (with_values old after) (next f) turns
did_on p pool unit i old after f turns held all led = record { led = led; held = held_values p pool old after held all; stays = refl; calls = refl }

-- it goes on with one value more
pub did_push : (p : Parts) (pool : Pool) (unit : Unit) (i : Instr) (old after : Isolate) (f : Frame) (turns : ℕ) (v : Value) → IsHeld p pool old → IsOf old.heap v
    → after.values.items ≡ old.values.items ++ v ∷ []
    → ((answers : ℕ → ℕ → Target) (asked tests : List (ℕ × ℕ)) → goes (act p pool answers unit i (seen old f turns asked tests)) ≡ true
    → act p pool answers unit i (seen old f turns asked tests) ≡ on (seen old f turns asked tests) (values_of old.heap old.values.items ++ value_of old.heap v ∷ []))
    → Did p pool unit i old f turns flow.Here (with_values old after) (next f) turns
did_push p pool unit i old after f turns v held of_heap e led =
    did_on p pool unit i old after f turns held
    (subst (All (IsOf old.heap)) (sym e) (All-push (IsOf old.heap) old.values.items v held.values of_heap))
    (λ answers asked tests h. led answers asked tests h ∙ ap (on (seen old f turns asked tests)) (sym (shown_push (value_of old.heap) after.values.items old.values.items v e)))

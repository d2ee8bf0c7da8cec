-- What entering a unit does.
use Rattle.std.proofs.Common.{◌≡◌, ℕ, zero, suc, ◌+◌, ◌-◌, ◌<◌, ◌≤◌, Bool, true, false, ◌&&◌, nat_lt, nat_le, List, [], ◌∷◌, ◌++◌, length, map, take, drop, replicate, slice_get, refl, sym, ◌∙◌, ap, subst, arith, length-append, append_assoc, take-append-drop, length-drop}
use Rattle.std.specs.Prelude.{All, IsTrue, Option, Some, None}
use Rattle.std.proofs.lemmas.Bool.Decides.{nat_tests}
use Rattle.std.proofs.lemmas.List.{length-map, map-append, length-take-le}
use Rattle.program.specs.Parts.{Parts, is_concrete}
use Rattle.program.specs.declared.numbered.Target.{Target}
use Rattle.dart_values.specs.declared.value.Value.{Value}
use Rattle.dart_values.specs.Values as shown
use Rattle.dart_values.specs.Values.{classes}
use Rattle.dart_values.specs.Store.{IsOf, value_of, values_of, heap_of}
use Rattle.dart_meaning.specs.Literals.{literal}
use Rattle.dart_meaning.specs.Run.{choose, spend, stack_overflow}
use Rattle.code_unit.specs.declared.unit.Unit.{Unit}
use Rattle.code_pool.specs.Pool.{Pool}
use Rattle.code_pool.specs.Machine as m
use Rattle.code_pool.specs.Machine.{State, Step, to, over, by, when, some, no_number, wrong_count, accepts, begin, slots}
use Rattle.isolate_state.specs.declared.frame.Frame.{Frame}
use Rattle.isolate_state.specs.declared.frame.Flow.TheVariants as flow
use Rattle.isolate_state.specs.declared.isolate.Isolate.{Isolate}
use Rattle.isolate_state.specs.State.{seen, framed, goes, next, below, above, IsHeld, Went, Entered, Filled}
use Rattle.isolate_state.proofs.Steps.{shown_push, when_holds, map_push}
use Rattle.isolate_state.proofs.Grown.{held_heap, shown_kept}

lt_true : (n k : ℕ) → n < k → nat_lt n k ≡ true
lt_true n k h = grind (arith, nat_tests)

lt_false : (n k : ℕ) → k ≤ n → nat_lt n k ≡ false
lt_false n k h = grind (arith, nat_tests)

-- the machine goes on as far as the turn
spends : (p : Parts) (pool : Pool) (answers : ℕ → ℕ → Target) (u : ℕ) (unit : Unit) (s : State) (bs args : List shown.Value) → slice_get pool.units u ≡ Some unit
    → goes (m.enter p pool answers u s bs args) ≡ true
    → m.enter p pool answers u s bs args ≡ by spend s (λ _ s. choose (nat_lt (length s.callers + 1) 2000) (begin u unit s bs args) (over stack_overflow s.store))
spends p pool answers u unit s bs args is h =
    let go : Unit → Step = λ unit. when wrong_count (accepts unit (length args)) (by spend s (λ _ s. choose (nat_lt (length s.callers + 1) 2000) (begin u unit s bs args) (over stack_overflow s.store))) in
    let first : m.enter p pool answers u s bs args ≡ go unit = ap (λ o. some no_number o go) is in
    let holds = when_holds wrong_count (accepts unit (length args)) _ (ap goes (sym first) ∙ h) in
    first ∙ rw holds refl

pub no_turn : (pool : Pool) (u n : ℕ) (unit : Unit) (old : Isolate) (f : Frame) (turns : ℕ) → slice_get pool.units u ≡ Some unit → turns ≡ 0
    → Entered pool u n old f turns flow.OutOfTurns old f turns
no_turn pool u n unit old f turns is none p held = record {
  led = λ answers asked tests h. spends p pool answers u unit (seen old f turns asked tests) (below n old) (above n old) is h ∙ rw none refl;
  held = held;
  stays = tt;
  calls = refl;
}

pub too_deep : (pool : Pool) (u n : ℕ) (unit : Unit) (old : Isolate) (f : Frame) (turns left : ℕ) → slice_get pool.units u ≡ Some unit → turns ≡ suc left → 1999 ≤ length old.callers.items
    → Entered pool u n old f turns flow.StackOverflow old f left
too_deep pool u n unit old f turns left is spent deep p held = record {
  led = λ answers asked tests h.
      let s : State = seen old f left asked tests in
      let many : 2000 ≤ length (map framed old.callers.items) + 1 = omega (arith, deep, length-map old.callers.items framed) in
      spends p pool answers u unit (seen old f turns asked tests) (below n old) (above n old) is h
      ∙ ap (λ (t : ℕ). by spend (seen old f t asked tests) (λ _ s. choose (nat_lt (length s.callers + 1) 2000) (begin u unit s (below n old) (above n old)) (over stack_overflow s.store))) spent
      ∙ ap (λ b. choose b (begin u unit s (below n old) (above n old)) (over stack_overflow s.store)) (lt_false (length (map framed old.callers.items) + 1) 2000 many);
  held = held;
  stays = tt;
  calls = refl;
}

pub begins : (pool : Pool) (u n : ℕ) (unit : Unit) (old mid after : Isolate) (f g : Frame) (turns left : ℕ) → slice_get pool.units u ≡ Some unit → turns ≡ suc left → length old.callers.items < 1999
    → n ≤ length old.values.items → Filled unit n (unit.locals - unit.params) old mid → after.callers.items ≡ mid.callers.items ++ next f ∷ []
    → framed g ≡ record { unit = u; place = 0; base = length old.values.items - n }
    → Entered pool u n old f turns flow.Elsewhere (record mid { callers = after.callers }) g left
begins pool u n unit old mid after f g turns left is spent few enough filled waits into p held =
    let at : ℕ = length old.values.items - n in
    let rest : mid ≡ record old { heap = mid.heap; values = mid.values } = filled.rest in
    let few_shown : length (map framed old.callers.items) + 1 < 2000 = omega (arith, few, length-map old.callers.items framed) in
    let whole : values_of old.heap old.values.items ≡ below n old ++ above n old =
    ap (map (value_of old.heap)) (sym (take-append-drop at old.values.items)) ∙ map-append (value_of old.heap) (take at old.values.items) (drop at old.values.items) in
    let all_len : length (above n old) ≡ n = length-map (drop at old.values.items) (value_of old.heap) ∙ length-drop at old.values.items ∙ omega (arith, enough) in
    let base : length (below n old) ≡ at = length-map (take at old.values.items) (value_of old.heap) ∙ length-take-le at old.values.items (omega arith) in
    let ds : List shown.Value = drop (n + length unit.defaults - unit.params) (map literal unit.defaults) in
    let nulls : List shown.Value = replicate (unit.locals - unit.params) shown.null in
    let slots_are : below n old ++ slots unit (above n old) ≡ values_of mid.heap mid.values.items =
    ap (λ (k : ℕ). below n old ++ ((above n old ++ drop (k + length unit.defaults - unit.params) (map literal unit.defaults)) ++ nulls)) all_len
    ∙ ap (λ vs. below n old ++ vs) (append_assoc (above n old) ds nulls)
    ∙ sym (append_assoc (below n old) (above n old) (ds ++ nulls))
    ∙ ap (λ vs. vs ++ (ds ++ nulls)) (sym whole)
    ∙ sym filled.values in
    let callers_are : map framed old.callers.items ++ framed (next f) ∷ [] ≡ map framed after.callers.items =
    ap (λ (i : Isolate). map framed i.callers.items ++ framed (next f) ∷ []) (sym rest) ∙ sym (shown_push framed after.callers.items mid.callers.items (next f) waits) in
    let globals_are : values_of old.heap old.globals.items ≡ values_of mid.heap mid.globals.items =
    sym (shown_kept old.heap mid.heap filled.keeps old.globals.items held.globals) ∙ ap (λ (i : Isolate). values_of mid.heap i.globals.items) (sym rest) in
    let lines_are : old.lines.items ≡ mid.lines.items = ap (λ (i : Isolate). i.lines.items) (sym rest) in
    let kept : IsHeld p pool (record old { heap = mid.heap; values = mid.values }) =
    held_heap p pool old mid held filled.keeps (subst (λ hs. All (λ c. IsTrue (is_concrete p.classes c)) (classes hs)) (sym filled.same) held.concrete) filled.all in
    let mid_held : IsHeld p pool mid = subst (IsHeld p pool) (sym rest) kept in
    record {
      led = λ answers asked tests h.
          let s : State = seen old f left asked tests in
          spends p pool answers u unit (seen old f turns asked tests) (below n old) (above n old) is h
          ∙ ap (λ (t : ℕ). by spend (seen old f t asked tests) (λ _ s. choose (nat_lt (length s.callers + 1) 2000) (begin u unit s (below n old) (above n old)) (over stack_overflow s.store))) spent
          ∙ ap (λ b. choose b (begin u unit s (below n old) (above n old)) (over stack_overflow s.store)) (lt_true (length (map framed old.callers.items) + 1) 2000 few_shown)
          ∙ ap (λ (k : ℕ). to (record { frame = record { unit = u; place = 0; base = k }; callers = s.callers ++ framed (next f) ∷ []; values = below n old ++ slots unit (above n old); store = s.store })) base
          ∙ ap (λ fr. to (record { frame = fr; callers = s.callers ++ framed (next f) ∷ []; values = below n old ++ slots unit (above n old); store = s.store })) (sym into)
          ∙ ap (λ cs. to (record { frame = framed g; callers = cs; values = below n old ++ slots unit (above n old); store = s.store })) callers_are
          ∙ ap (λ vs. to (record { frame = framed g; callers = map framed after.callers.items; values = vs; store = s.store })) slots_are
          ∙ ap (λ hs. to (record { frame = framed g; callers = map framed after.callers.items; values = values_of mid.heap mid.values.items; store = record s.store { heap = hs } })) (sym filled.same)
          ∙ ap (λ gs. to (record { frame = framed g; callers = map framed after.callers.items; values = values_of mid.heap mid.values.items; store = record s.store { heap = heap_of mid.heap; globals = gs } })) globals_are
          ∙ ap (λ ls. to (record { frame = framed g; callers = map framed after.callers.items; values = values_of mid.heap mid.values.items; store = record s.store { heap = heap_of mid.heap; globals = values_of mid.heap mid.globals.items; lines = ls } })) lines_are;
      held = record { values = mid_held.values; globals = mid_held.globals; constants = mid_held.constants; literals = mid_held.literals; concrete = mid_held.concrete; built_in = mid_held.built_in };
      stays = tt;
      calls = ap (λ (i : Isolate). i.calls.items) rest;
    }

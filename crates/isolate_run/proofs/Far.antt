-- How far a run is come.
use Rattle.std.proofs.Common.{◌≡◌, ℕ, suc, ◌-◌, ◌<◌, true, List, [], ◌++◌, length, slice_get, refl, sym, ◌∙◌, ap, subst, arith}
use Rattle.std.specs.Prelude.{Some, option_map}
use Rattle.program.specs.Parts.{Parts}
use Rattle.program.specs.declared.numbered.Target.{Target}
use Rattle.dart_values.specs.declared.fault.Trap.{Trap}
use Rattle.code_unit.specs.declared.instr.Instr.{Instr}
use Rattle.code_unit.specs.declared.unit.Unit.{Unit}
use Rattle.code_pool.specs.Pool.{Pool}
use Rattle.code_pool.specs.Machine.{State, Outcome, to, over, resume, act, exec}
use Rattle.isolate_state.specs.declared.frame.Frame.{Frame}
use Rattle.isolate_state.specs.declared.frame.Flow.{Flow}
use Rattle.isolate_state.specs.declared.frame.Flow.TheVariants as flow
use Rattle.isolate_state.specs.declared.isolate.Isolate.{Isolate}
use Rattle.isolate_state.specs.State.{seen, goes, led, Stays, IsHeld}
use Rattle.isolate_calls.specs.Stepping.{counted, CanStep, Stepped}
use Rattle.isolate_run.specs.Loop.{Ends, ending_by, Came}
use Rattle.isolate_run.proofs.Counts.{counted_both, counted_none, counted_length}
use Rattle.isolate_run.proofs.Runs.{unit_of, positive, has_unit, fetched, leads, fit}

-- So much of a run is left, from what the isolate holds now; what was asked and tested led the cells and the types here.
pub record Far {C T : Type 0} (after_calls : List (ℕ × ℕ) → C → Type 0) (cells : C) (after_tests : List (ℕ × ℕ) → T → Type 0) (types : T)
    (p : Parts) (pool : Pool) (answers : ℕ → ℕ → Target) (whole : Outcome) (calls : List ℕ) (left : ℕ) (i : Isolate) (f : Frame) (turns : ℕ) : Type 0 where
  pub asked : List (ℕ × ℕ)
  pub tests : List (ℕ × ℕ)
  pub after_asked : after_calls asked cells
  pub after_told : after_tests tests types
  pub is : whole ≡ exec p pool answers left (seen i f turns asked tests)
  pub held : IsHeld p pool i
  pub counts : i.calls.items ≡ counted calls asked

-- Where the flow leads on, the machine does.
abbrev pub LeadsOn : Flow → Type 0
LeadsOn fl = (trap : Trap) (s : State) → led fl trap s ≡ to s

-- Where it does not, the machine ends.
pub leads_out : (fl : Flow) → (fl ≡ flow.Here → ⊥) → (fl ≡ flow.Elsewhere → ⊥) → (trap : Trap) (s : State) → led fl trap s ≡ over (ending_by fl trap) s.store
leads_out flow.Here a b trap s = absurd (a refl)
leads_out flow.Elsewhere a b trap s = absurd (b refl)
leads_out flow.Done a b trap s = refl
leads_out flow.TypeFault a b trap s = refl
leads_out flow.Trapped a b trap s = refl
leads_out flow.OutOfTurns a b trap s = refl
leads_out flow.StackOverflow a b trap s = refl

-- where a run begins
pub at_start : {C T : Type 0} (after_calls : List (ℕ × ℕ) → C → Type 0) (cells : C) (after_tests : List (ℕ × ℕ) → T → Type 0) (types : T)
    (p : Parts) (pool : Pool) (answers : ℕ → ℕ → Target) (bound steps : ℕ) (i : Isolate) (f : Frame) (turns : ℕ) → after_calls [] cells → after_tests [] types → IsHeld p pool i
    → Far after_calls cells after_tests types p pool answers (exec p pool answers bound (seen i f turns [] [])) i.calls.items (bound - (steps - steps)) i f turns
at_start after_calls cells after_tests types p pool answers bound steps i f turns no_calls no_tests held =
    let all : bound ≡ bound - (steps - steps) = omega arith in
    record {
      asked = [];
      tests = [];
      after_asked = no_calls;
      after_told = no_tests;
      is = ap (λ n. exec p pool answers n (seen i f turns [] [])) all;
      held = held;
      counts = counted_none i.calls.items;
    }

module _ {C T : Type 0} {after_calls : List (ℕ × ℕ) → C → Type 0} {cells : C} {after_tests : List (ℕ × ℕ) → T → Type 0} {types : T}
    {p : Parts} {pool : Pool} {answers : ℕ → ℕ → Target} {whole : Outcome} {calls : List ℕ} {left : ℕ} {i : Isolate} {f : Frame} {turns : ℕ}
    (far : Far after_calls cells after_tests types p pool answers whole calls left i f turns) where
  pub as_many : length i.calls.items ≡ length calls
  as_many = ap length far.counts ∙ counted_length calls far.asked

  -- what is left comes to an end
  rest_ends : Ends whole → Ends (exec p pool answers left (seen i f turns far.asked far.tests))
  rest_ends ends = subst Ends far.is ends

  pub some_left : Ends whole → 0 < left
  some_left ends = positive p pool answers left (seen i f turns far.asked far.tests) (rest_ends ends)

  pub unit_there : Ends whole → f.unit.0 < length pool.units
  unit_there ends = has_unit p pool answers left (seen i f turns far.asked far.tests) (rest_ends ends)

  pub place_there : Ends whole → (code : List Instr) → option_map (λ unit. unit.code) (slice_get pool.units f.unit.0) ≡ Some code → f.place < length code
  place_there ends code coded = fetched p pool answers code left (seen i f turns far.asked far.tests) coded (rest_ends ends)

  module _ (ends : Ends whole) {code : List Instr} {instr : Instr} {j : ℕ} (coded : option_map (λ unit. unit.code) (slice_get pool.units f.unit.0) ≡ Some code) (at : slice_get code f.place ≡ Some instr)
      (n : left ≡ suc j) {now : ℕ → ℕ → Target} (same : now ≡ answers) where
    abbrev unit : Unit
    unit = (unit_of (slice_get pool.units f.unit.0) code coded).0

    here : slice_get pool.units f.unit.0 ≡ Some unit
    here = (unit_of (slice_get pool.units f.unit.0) code coded).1

    at_unit : slice_get unit.code f.place ≡ Some instr
    at_unit = ap (λ (c : List Instr). slice_get c f.place) (unit_of (slice_get pool.units f.unit.0) code coded).2 ∙ at

    fits : goes (act p pool answers unit instr (seen i f turns far.asked far.tests)) ≡ true
    fits = fit p pool answers unit instr left j (seen i f turns far.asked far.tests) here at_unit n (rest_ends ends)

    -- the machine goes on by the instruction
    pub can_step : CanStep p pool now instr i f turns
    can_step = record {
      unit = unit;
      asked = far.asked;
      tests = far.tests;
      on = subst (λ (a : ℕ → ℕ → Target). goes (act p pool a unit instr (seen i f turns far.asked far.tests)) ≡ true) (sym same) fits;
    }

    module _ {D U : Type 0} {after_more : List (ℕ × ℕ) → D → Type 0} {next_cells : D} {after_more_tests : List (ℕ × ℕ) → U → Type 0} {next_types : U} {fl : Flow} {new : Isolate} {g : Frame} {turns_left : ℕ}
        (step_now : Stepped after_more next_cells after_more_tests next_types p pool now instr i f turns fl new g turns_left) where
      stepped : Stepped after_more next_cells after_more_tests next_types p pool answers instr i f turns fl new g turns_left
      stepped = subst (λ (a : ℕ → ℕ → Target). Stepped after_more next_cells after_more_tests next_types p pool a instr i f turns fl new g turns_left) same step_now

      done : whole ≡ resume (led fl new.trap (seen new g turns_left (far.asked ++ stepped.asks) (far.tests ++ stepped.told))) (exec p pool answers j)
      done = far.is ∙ leads p pool answers unit instr left j (seen i f turns far.asked far.tests) here at_unit n
          ∙ ap (λ st. resume st (exec p pool answers j)) (stepped.led unit far.asked far.tests fits)

      all_calls : new.calls.items ≡ counted calls (far.asked ++ stepped.asks)
      all_calls = stepped.calls ∙ ap (λ c. counted c stepped.asks) far.counts ∙ counted_both calls far.asked stepped.asks

      -- An instruction that stays in its unit has its code.
      pub same_code : fl ≡ flow.Here → option_map (λ unit. unit.code) (slice_get pool.units g.unit.0) ≡ Some code
      same_code is =
          let stays : g.unit.0 ≡ f.unit.0 = subst (λ fl. Stays f.unit.0 fl g.unit.0) is stepped.stays in
          ap (λ u. option_map (λ unit. unit.code) (slice_get pool.units u)) stays ∙ coded

      module _ {first_calls : List (ℕ × ℕ) → D → Type 0} {first_tests : List (ℕ × ℕ) → U → Type 0}
          (both_calls : (first second : List (ℕ × ℕ)) → after_calls first cells → after_more second next_cells → first_calls (first ++ second) next_cells)
          (both_tests : (first second : List (ℕ × ℕ)) → after_tests first types → after_more_tests second next_types → first_tests (first ++ second) next_types) where
        -- Where the flow leads on, one instruction less is left.
        pub far_on : LeadsOn fl → Far first_calls next_cells first_tests next_types p pool answers whole calls j new g turns_left
        far_on on = record {
          asked = far.asked ++ stepped.asks;
          tests = far.tests ++ stepped.told;
          after_asked = both_calls far.asked stepped.asks far.after_asked stepped.after_asks;
          after_told = both_tests far.tests stepped.told far.after_told stepped.after_told;
          is = done ∙ ap (λ st. resume st (exec p pool answers j)) (on new.trap (seen new g turns_left (far.asked ++ stepped.asks) (far.tests ++ stepped.told)));
          held = stepped.held;
          counts = all_calls;
        }

        -- Where it does not, the run ended.
        pub came : (first : Isolate) → first.calls.items ≡ calls → (fl ≡ flow.Here → ⊥) → (fl ≡ flow.Elsewhere → ⊥) → Came first_calls next_cells first_tests next_types whole first fl new
        came first kept a b = record {
          asked = far.asked ++ stepped.asks;
          tests = far.tests ++ stepped.told;
          after_asked = both_calls far.asked stepped.asks far.after_asked stepped.after_asks;
          after_told = both_tests far.tests stepped.told far.after_told stepped.after_told;
          is = done ∙ ap (λ st. resume st (exec p pool answers j)) (leads_out fl a b new.trap (seen new g turns_left (far.asked ++ stepped.asks) (far.tests ++ stepped.told)));
          calls = all_calls ∙ ap (λ c. counted c (far.asked ++ stepped.asks)) (sym kept);
        }

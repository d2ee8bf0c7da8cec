-- What one instruction does, over any cells and any tests of types.
use Rattle.std.specs.Prelude.{◌≡◌, ◌+◌, ◌%◌, ◌^◌, ℕ, true, List, ◌++◌, fold, slice_set, slice_index}
use Rattle.program.specs.declared.numbered.Target.{Target}
use Rattle.program.specs.Parts.{Parts}
use Rattle.code_unit.specs.declared.instr.Instr.{Instr}
use Rattle.code_unit.specs.declared.unit.Unit.{Unit}
use Rattle.code_pool.specs.Pool.{Pool}
use Rattle.code_pool.specs.Machine.{act}
use Rattle.isolate_state.specs.declared.frame.Frame.{Frame}
use Rattle.isolate_state.specs.declared.frame.Flow.{Flow}
use Rattle.isolate_state.specs.declared.isolate.Isolate.{Isolate}
use Rattle.isolate_state.specs.State.{seen, goes, led, Stays, IsHeld}

-- the counts of the sites after a call, a site and a class
abbrev pub count_one : List ℕ → ℕ × ℕ → List ℕ
count_one calls call = slice_set calls call.0 ((slice_index calls call.0 + 1) % 2 ^ 64)

-- the same after these calls, one after the other
unfoldable pub counted : List ℕ → List (ℕ × ℕ) → List ℕ
counted calls asked = fold count_one calls asked

-- The machine goes on from here by the instruction, in some unit, whatever was asked and tested so far.
pub record CanStep (p : Parts) (pool : Pool) (answers : ℕ → ℕ → Target) (i : Instr) (isolate : Isolate) (f : Frame) (turns : ℕ) : Type 0 where
  pub unit : Unit
  pub asked : List (ℕ × ℕ)
  pub tests : List (ℕ × ℕ)
  pub on : goes (act p pool answers unit i (seen isolate f turns asked tests)) ≡ true

-- An instruction was done: where the machine goes on it does the same, with the calls that it asked and the tests that it told,
-- and these led the cells and the types on.
pub record Stepped {C T : Type 0} (after_calls : List (ℕ × ℕ) → C → Type 0) (cells : C) (after_tests : List (ℕ × ℕ) → T → Type 0) (types : T)
    (p : Parts) (pool : Pool) (answers : ℕ → ℕ → Target) (i : Instr)
    (old : Isolate) (f : Frame) (turns : ℕ) (flow : Flow) (new : Isolate) (g : Frame) (left : ℕ) : Type 0 where
  pub asks : List (ℕ × ℕ)
  pub told : List (ℕ × ℕ)
  pub after_asks : after_calls asks cells
  pub after_told : after_tests told types
  pub led : (unit : Unit) (asked tests : List (ℕ × ℕ)) → goes (act p pool answers unit i (seen old f turns asked tests)) ≡ true
      → act p pool answers unit i (seen old f turns asked tests) ≡ led flow new.trap (seen new g left (asked ++ asks) (tests ++ told))
  pub held : IsHeld p pool new
  pub stays : Stays f.unit.0 flow g.unit.0
  pub calls : new.calls.items ≡ counted old.calls.items asks

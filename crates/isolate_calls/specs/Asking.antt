-- Instructions that ask a cell or a test of types: what they add to what was asked and tested.
use Rattle.std.specs.Prelude.{◌≡◌, ◌<◌, ℕ, true, List, ◌++◌, All, IsTrue}
use Rattle.program.specs.Parts.{Parts, is_concrete}
use Rattle.program.specs.declared.ids.ClassId.{ClassId}
use Rattle.program.specs.declared.numbered.Target.{Target}
use Rattle.dart_values.specs.Values.{classes}
use Rattle.dart_values.specs.Store.{heap_of}
use Rattle.code_unit.specs.declared.instr.Instr.TheVariants as instr
use Rattle.code_unit.specs.declared.unit.Unit.{Unit}
use Rattle.code_pool.specs.Pool.{Pool}
use Rattle.code_pool.specs.Machine.{act}
use Rattle.isolate_state.specs.declared.frame.Frame.{Frame}
use Rattle.isolate_state.specs.declared.frame.Flow.{Flow}
use Rattle.isolate_state.specs.declared.isolate.Isolate.{Isolate}
use Rattle.isolate_state.specs.State.{seen, goes, led, Stays, IsHeld}

-- Each value has a class of the program that is not abstract.
pub record HasClasses (p : Parts) (i : Isolate) : Type 0 where
  pub concrete : All (λ c. IsTrue (is_concrete p.classes c)) (classes (heap_of i.heap))
  pub built_in : (c : ℕ) → c < 7 → IsTrue (is_concrete p.classes c)

-- A test by `is` was done: where the machine goes on it does the same, with the tests that it tells, and these led the types on.
pub record Tested {T : Type 0} (after : List (ℕ × ℕ) → T → Type 0) (types : T) (p : Parts) (c : ClassId) (old : Isolate) (f : Frame) (flow : Flow) (new : Isolate) (g : Frame) : Type 0 where
  pub told : List (ℕ × ℕ)
  pub after_told : after told types
  pub led : (pool : Pool) (unit : Unit) (answers : ℕ → ℕ → Target) (turns : ℕ) (asked tests : List (ℕ × ℕ)) → IsHeld p pool old
      → goes (act p pool answers unit (instr.IsClass c) (seen old f turns asked tests)) ≡ true
      → act p pool answers unit (instr.IsClass c) (seen old f turns asked tests) ≡ led flow new.trap (seen new g turns asked (tests ++ told))
  pub held : (pool : Pool) → IsHeld p pool old → IsHeld p pool new
  pub stays : Stays f.unit.0 flow g.unit.0
  pub calls : new.calls.items ≡ old.calls.items

-- An isolate that begins, and one whose code ran to its end.
use Rattle.std.specs.Prelude.{◌≡◌, ℕ, List, [], map, length, replicate, slice_get, Some}
use Rattle.program.specs.Parts.{Parts}
use Rattle.program.specs.declared.ids.UnitId.{UnitId}
use Rattle.program.specs.declared.numbered.Target.{Target}
use Rattle.dart_values.specs.declared.fault.Trap.{Trap}
use Rattle.dart_values.specs.declared.fault.Trap.TheVariants as trap
use Rattle.dart_meaning.specs.Run.{Ending, done, threw, out_of_turns, stack_overflow}
use Rattle.dart_meaning.specs.Literals.{literal}
use Rattle.dart_meaning.specs.Entry.{Meaning, first_store}
use Rattle.code_unit.specs.declared.unit.Unit.{Unit}
use Rattle.code_pool.specs.Pool.{Pool}
use Rattle.code_pool.specs.Machine.{Outcome, ends, unfinished, is_stuck, opening, exec}
use Rattle.isolate_state.specs.declared.frame.Frame.{Frame}
use Rattle.isolate_state.specs.declared.frame.Flow.{Flow}
use Rattle.isolate_state.specs.declared.frame.Flow.TheVariants as flow
use Rattle.isolate_state.specs.declared.isolate.Isolate.{Isolate}
use Rattle.isolate_state.specs.State.{seen, IsHeld}
use Rattle.isolate_calls.specs.Stepping.{counted}
use Rattle.isolate_run.specs.Ran.{selector_of}

-- the run comes to an end
abbrev pub Ends : Outcome → Type 0
Ends (ends m) = Prim.Unit {0}
Ends unfinished = ⊥
Ends (is_stuck lack) = ⊥

-- a unit that begins as an entry, with no slots below its own
abbrev pub first_frame : UnitId → Frame
first_frame u = record { unit = u; place = 0; base = 0 }

-- a unit takes no values
abbrev pub TakesNone : Pool → ℕ → Type 0
TakesNone pool u = (unit : Unit) → slice_get pool.units u ≡ Some unit → unit.params ≡ 0

-- An isolate begins with unit u: the heap is empty, the variables of the top level are at their literals, no site was asked.
pub record Begun (p : Parts) (pool : Pool) (u : UnitId) (i : Isolate) : Type 0 where
  pub opens : (unit : Unit) (turns : ℕ) → slice_get pool.units u.0 ≡ Some unit
      → seen i (first_frame u) turns [] [] ≡ opening u.0 unit (first_store (map literal p.globals) turns)
  pub held : IsHeld p pool i
  pub calls : i.calls.items ≡ replicate (length p.sites) 0

-- the same with the unit of an entry
abbrev pub BegunAt : Parts → Pool → ℕ → Isolate → Type 0
BegunAt p pool e i = (u : UnitId) → slice_get pool.entries e ≡ Some u → Begun p pool u i

-- The code of unit u comes to an end from its first place, within so many instructions. The pool has the sites of the program, and each has its count.
pub record CanLoop (p : Parts) (pool : Pool) (answers : ℕ → ℕ → Target) (bound : ℕ) (i : Isolate) (u : UnitId) (turns : ℕ) : Type 0 where
  pub held : IsHeld p pool i
  pub sites : pool.sites ≡ map selector_of p.sites
  pub counts : length i.calls.items ≡ length p.sites
  pub comes : Ends (exec p pool answers bound (seen i (first_frame u) turns [] []))

-- The ending that a flow stands for, with the trap that the isolate keeps. The first two end nothing.
abbrev pub ending_by : Flow → Trap → Ending
ending_by flow.Here kept = done
ending_by flow.Elsewhere kept = done
ending_by flow.Done kept = done
ending_by flow.TypeFault kept = threw trap.TypeFault
ending_by flow.Trapped kept = threw kept
ending_by flow.OutOfTurns kept = out_of_turns
ending_by flow.StackOverflow kept = stack_overflow

-- what an isolate tells that ended by a flow, with what it asked and tested
abbrev pub told_by : Flow → Isolate → List (ℕ × ℕ) → List (ℕ × ℕ) → Meaning
told_by flow i asked tests = record { lines = i.lines.items; ending = ending_by flow i.trap; asked = asked; tests = tests }

-- A run ended by a flow: that is what the machine comes to, and what it asked and tested led the cells and the types on.
pub record Came {C T : Type 0} (after_calls : List (ℕ × ℕ) → C → Type 0) (cells : C) (after_tests : List (ℕ × ℕ) → T → Type 0) (types : T)
    (whole : Outcome) (old : Isolate) (flow : Flow) (new : Isolate) : Type 0 where
  pub asked : List (ℕ × ℕ)
  pub tests : List (ℕ × ℕ)
  pub after_asked : after_calls asked cells
  pub after_told : after_tests tests types
  pub is : whole ≡ ends (told_by flow new asked tests)
  pub calls : new.calls.items ≡ counted old.calls.items asked

-- What the code of a program does.
use Rattle.std.specs.Prelude.{◌≡◌, ℕ, ◌+◌, ◌*◌, ◌^◌, ◌<◌, ◌≤◌, [], length, slice_get, Option, Some, None, option_map}
use Rattle.program.specs.declared.numbered.Function.{Function}
use Rattle.program.specs.Lookup.{resolve}
use Rattle.program.specs.Parts.{Parts}
use Rattle.program.specs.Sizes.{size}
use Rattle.program.specs.Whole.{IsSound}
use Rattle.dart_meaning.specs.Entry.{Meaning}
use Rattle.dart_meaning.specs.Numbered.{entry_meaning_n}
use Rattle.code_pool.specs.Pool.{Pool}
use Rattle.code_pool.specs.Machine.{Outcome, ends, resume, exec, started, machine, longest}
use Rattle.program_code.specs.IsCode.{HasCode}

-- Function e is there and takes nothing.
pub record TakesNothing (p : Parts) (e : ℕ) : Type 0 where
  pub function : Function
  pub there : slice_get p.functions e ≡ Some function
  pub required : function.required ≡ 0
  pub defaults : function.defaults ≡ []

-- the outcome of the program itself, which ends with every number of turns
abbrev pub program_outcome : Parts → ℕ → ℕ → Option Outcome
program_outcome p e turns = option_map ends (entry_meaning_n p e turns)

-- From an entry point the machine, asking lookup for each target, does what the numbered program does: the same lines, the same ending, the same calls
-- that ask a cell and the same tests by `is`. So it is never stuck, and never unfinished.
abbrev pub CodeMeansProgram : Type 0
CodeMeansProgram = (p : Parts) → ∥ IsSound p ∥₁ → (pool : Pool) → HasCode p pool →
    (e : ℕ) → TakesNothing p e → (turns : ℕ) → Some (machine p pool (resolve p) e turns) ≡ program_outcome p e turns

-- what entry point e comes to within so many instructions
abbrev pub within : Parts → Pool → ℕ → ℕ → ℕ → Outcome
within p pool e turns n = resume (started p pool (resolve p) e turns) (exec p pool (resolve p) n)

-- It takes no more instructions than the longest unit has, for each turn.
abbrev pub EachTurnPaysForOneUnit : Type 0
EachTurnPaysForOneUnit = (p : Parts) → ∥ IsSound p ∥₁ → (pool : Pool) → HasCode p pool →
    (e : ℕ) → TakesNothing p e → (turns n : ℕ) → turns * longest pool.units ≤ n → Some (within p pool e turns n) ≡ program_outcome p e turns

-- so many instructions: sixteen for each node of the program, and those of a list's text
abbrev pub paid_for : Parts → ℕ
paid_for p = 16 * size p + 21

-- It takes no more than that for each turn, whatever else is in the pool.
abbrev pub EachTurnPaysForNodes : Type 0
EachTurnPaysForNodes = (p : Parts) → ∥ IsSound p ∥₁ → (pool : Pool) → HasCode p pool →
    (e : ℕ) → TakesNothing p e → (turns n : ℕ) → turns * paid_for p ≤ n → Some (within p pool e turns n) ≡ program_outcome p e turns

-- what an entry asks, at all sites together
abbrev pub AsksFewer : ℕ → Option Meaning → Type 0
AsksFewer bound None = Unit {0}
AsksFewer bound (Some m) = length m.asked < bound

-- With up to 10^9 turns all calls that ask a cell are fewer than 2^64.
abbrev pub AsksAreCounted : Type 0
AsksAreCounted = (p : Parts) → ∥ IsSound p ∥₁ → (pool : Pool) → HasCode p pool →
    (e : ℕ) → TakesNothing p e → (turns : ℕ) → turns ≤ 10 ^ 9 → AsksFewer (2 ^ 64) (entry_meaning_n p e turns)

-- What the code of a program can run.
use Rattle.std.specs.Prelude.{◌≡◌, ℕ, ◌^◌, ◌≤◌}
use Rattle.program.specs.declared.numbered.Target.{Target}
use Rattle.program.specs.Lookup.{resolve}
use Rattle.program.specs.Parts.{Parts}
use Rattle.program.specs.Whole.{IsSound}
use Rattle.code_pool.specs.Pool.{Pool}
use Rattle.program_code.specs.IsCode.{HasCode}
use Rattle.code_meaning.specs.Laws.{TakesNothing}
use Rattle.isolate_run.specs.Ran.{CanRun}

-- The code of a program can run from each function that takes nothing, with up to 10^9 turns and any cells that answer as lookup does.
abbrev pub CompiledCanRun : Type 0
CompiledCanRun = (p : Parts) → ∥ IsSound p ∥₁ → (pool : Pool) → HasCode p pool → (answers : ℕ → ℕ → Target) → answers ≡ resolve p →
    (e : ℕ) → TakesNothing p e → (turns : ℕ) → turns ≤ 10 ^ 9 → CanRun p pool answers e turns

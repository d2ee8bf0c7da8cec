-- The law: code is sound.
use Rattle.std.specs.Prelude.{◌≡◌, ℕ, slice_get, Some}
use Rattle.program.specs.declared.literal.Literal.{Literal}
use Rattle.program.specs.Parts.{Parts}
use Rattle.program.specs.Whole as program
use Rattle.code_unit.specs.declared.unit.Unit.{Unit}
use Rattle.code_unit.specs.Sound.{IsSound}
use Rattle.code_pool.specs.Pool.{Pool}
use Rattle.program_code.specs.IsCode.{IsCode, HasUse}

-- In the code of a sound program, each unit of a function, a constructor or a member is sound.
abbrev pub CodeIsSound : Type 0
CodeIsSound =
    (p : Parts) → program.IsSound p → (pool : Pool) (constant : Literal → ℕ) → IsCode p pool constant → (u : ℕ) (unit : Unit) → HasUse p pool u → slice_get pool.units u ≡ Some unit → IsSound unit

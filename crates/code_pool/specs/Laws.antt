-- What sound units are worth: which lacks a run of the machine never comes to.
use Rattle.std.specs.Prelude.{◌≡◌, ⊤, ℕ, slice_get, Some}
use Rattle.program.specs.declared.numbered.Target.{Target}
use Rattle.program.specs.Parts.{Parts}
use Rattle.code_unit.specs.declared.unit.Unit.{Unit}
use Rattle.code_unit.specs.Sound.{IsSound}
use Rattle.code_pool.specs.Pool.{Pool}
use Rattle.code_pool.specs.Machine.{Lack, no_place, no_operand, no_slot, no_number, wrong_count, wrong_receiver, wrong_kind, wrong_class, Outcome, ends, unfinished, is_stuck, resume, exec, started}

-- each unit passes the test of units
abbrev pub AllSound : Pool → Type 0
AllSound pool = (u : ℕ) (unit : Unit) → slice_get pool.units u ≡ Some unit → IsSound unit

-- The lacks that no test of single units rules out: the one who makes the code owes that none comes.
abbrev pub IsOwed : Lack → Type 0
IsOwed no_place = ⊥
IsOwed no_operand = ⊥
IsOwed no_slot = ⊥
IsOwed no_number = ⊤
IsOwed wrong_count = ⊤
IsOwed wrong_receiver = ⊤
IsOwed wrong_kind = ⊤
IsOwed wrong_class = ⊤

-- where the run is stuck, it is for one of these
abbrev pub HasItsParts : Outcome → Type 0
HasItsParts (ends _) = ⊤
HasItsParts unfinished = ⊤
HasItsParts (is_stuck lack) = IsOwed lack

-- From each entry point, for every number of turns and of instructions, a run over sound units lacks no place, no operand and no slot.
abbrev pub SoundUnitsHaveTheirParts : Type 0
SoundUnitsHaveTheirParts =
    (p : Parts) (pool : Pool) (answers : ℕ → ℕ → Target) → AllSound pool → (e turns n : ℕ) → HasItsParts (resume (started p pool answers e turns) (exec p pool answers n))

-- How many operands stand above the slots at each place of a unit, read off its instructions from the first to the last.
use Rattle.std.specs.Prelude.{ℕ, ◌+◌, ◌-◌, List, [], ◌∷◌}
use Rattle.code_unit.specs.declared.instr.Instr.{Instr}
use Rattle.code_unit.specs.declared.instr.Instr.TheVariants.{Jump, Throw}
use Rattle.code_unit.specs.Effects.{effect}

-- What the next place states. Behind a jump the other part of a `?:` begins, whose value is not there yet; a statement's jump has no operand at all.
-- What stands behind a `throw` is never come to, and is as if that had answered a value.
abbrev pub depth_behind : Instr → ℕ → ℕ
depth_behind (Jump t) d = d - 1
depth_behind Throw d = d
depth_behind i d = d - (effect i).takes + (effect i).leaves

-- the depth of each place of a code that begins with so many operands
abbrev pub depths_from : ℕ → List Instr → List ℕ
depths_from d [] = []
depths_from d (i ∷ more) = d ∷ depths_from (depth_behind i d) more

-- Those of a list's text, whose loop keeps the text so far: no reading from the first to the last gives that of the place where its loop ends.
abbrev pub list_text_depths : List ℕ
list_text_depths = 0 ∷ 1 ∷ 2 ∷ 1 ∷ 2 ∷ 1 ∷ 2 ∷ 3 ∷ 4 ∷ 4 ∷ 3 ∷ 3 ∷ 3 ∷ 3 ∷ 1 ∷ 2 ∷ 1 ∷ 2 ∷ 1 ∷ 2 ∷ 1 ∷ []

-- the depth behind a code
abbrev pub depth_after : ℕ → List Instr → ℕ
depth_after d [] = d
depth_after d (i ∷ more) = depth_after (depth_behind i d) more

-- Code written from its end: the last instruction is written first, and a jump tells how many instructions stand from its target to the end.
use Rattle.std.specs.Prelude.{ℕ, zero, suc, ◌+◌, ◌-◌, Bool, true, false, nat_eq, List, [], ◌∷◌, ◌++◌, length, slice_set, max, if◌then◌else◌}
use Rattle.program.specs.declared.literal.Literal.{Literal}
use Rattle.code_unit.specs.declared.instr.Instr.{Instr}
use Rattle.code_unit.specs.declared.instr.Instr.TheVariants.{Const, Jump, JumpIfFalse, ElementOr}
use Rattle.code_unit.specs.Effects.{effect}
use Rattle.code_writer.specs.Constants.{number_in, with_literal}

-- what is written: the instructions, the constants, and the most arguments of a construction
pub record Out : Type 0 where
  pub code : List Instr
  pub table : List Literal
  pub room : ℕ

-- one more instruction, before the others
abbrev pub put : Instr → Out → Out
put i s = record s { code = s.code ++ i ∷ [] }

-- the push of a literal
abbrev pub put_constant : Literal → Out → Out
put_constant l s = record s { code = s.code ++ Const (number_in s.table l) ∷ []; table = with_literal l s.table }

-- a construction with so many arguments is in the code
abbrev pub with_room : ℕ → Out → Out
with_room n s = record s { room = max s.room n }

-- the last instruction of a loop, which was written at this number, jumps to where so many instructions are behind
abbrev pub patched : ℕ → ℕ → Out → Out
patched at d s = record s { code = slice_set s.code at (Jump d) }

-- how many instructions there are
abbrev pub behind : Out → ℕ
behind s = length s.code

-- an instruction in a unit of so many, with its jump's place
abbrev pub placed : ℕ → Instr → Instr
placed n (Jump d) = Jump (n - d)
placed n (JumpIfFalse d) = JumpIfFalse (n - d)
placed n i = i

-- the code from its first instruction on, in a unit of so many
abbrev pub turned : ℕ → List Instr → List Instr
turned n [] = []
turned n (i ∷ more) = turned n more ++ placed n i ∷ []

-- what an instruction that goes on leaves of so many operands
abbrev pub left_by : Instr → ℕ → ℕ
left_by i d = d - (effect i).takes + (effect i).leaves

-- nothing is written
abbrev pub unwritten : Out
unwritten = record { code = []; table = []; room = 0 }

-- a unit that begins, with the constants so far
abbrev pub started : Out → Out
started s = record { code = []; table = s.table; room = 0 }

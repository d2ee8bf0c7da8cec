-- Laws of code.
use Rattle.std.specs.Prelude.{◌≡◌, ℕ, List, length}
use Rattle.code_unit.specs.declared.instr.Instr.{Instr}
use Rattle.program.specs.declared.literal.Literal.{Literal}
use Rattle.program.specs.Bodies.{Exp, Sta}
use Rattle.program.specs.Parts.{Parts}
use Rattle.program_code.specs.Code.{code, sta}
use Rattle.program_code.specs.Sizes.{size, sta_size}

-- The code of an expression is as long as its size tells, wherever it stands.
abbrev pub ExpressionsHaveTheirSizes : Type 0
ExpressionsHaveTheirSizes =
    (p : Parts) (constant : Literal → ℕ) (first scratch : ℕ) (e : Exp) (t : ℕ) → length (code p constant first scratch e t) ≡ size e

-- So is that of a statement, also wherever `break` and `continue` lead.
abbrev pub StatementsHaveTheirSizes : Type 0
StatementsHaveTheirSizes =
    (p : Parts) (constant : Literal → ℕ) (first scratch : ℕ) (leave : List Instr) (x : Sta) (n brk cont t : ℕ) →
    length (sta p constant first scratch leave x n brk cont t) ≡ sta_size (length leave) x

-- Laws of what is written.
use Rattle.std.specs.Prelude.{◌≡◌, ℕ, ◌+◌, ◌-◌, ◌≤◌, List, [], ◌++◌, length, slice_get, Some}
use Rattle.program.specs.declared.literal.Literal.{Literal}
use Rattle.program.specs.Bodies.{Exp}
use Rattle.program.specs.Parts.{Parts}
use Rattle.program_code.specs.Code.{code}
use Rattle.program_code.specs.Needs.{Covers}
use Rattle.program_code.specs.Sizes.{size}
use Rattle.code_writer.specs.declared.layout.Layout.{Layout}
use Rattle.code_writer.specs.Constants.{number_in}
use Rattle.code_writer.specs.Emitted.{emit}
use Rattle.code_writer.specs.Out.{Out, turned}

-- a layout of the program
pub record IsLayout (p : Parts) (layout : Layout) : Type 0 where
  pub print_site : layout.print_site ≡ length p.sites - 2
  pub functions : layout.functions ≡ length p.functions

-- the literal is among the constants, at its number
abbrev pub IsKnown : List Literal → Literal → Type 0
IsKnown constants l = slice_get constants (number_in constants l) ≡ Some l

-- Where an expression is all that is written, and the constants are those of the end, it is the expression's code, and what that needs is there.
abbrev pub WrittenExpressionsAreCode : Type 0
WrittenExpressionsAreCode =
    (p : Parts) (layout : Layout) → IsLayout p layout → (e : Exp) (s : Out) → s.code ≡ [] → (more : List Literal) →
    (turned (size e) (emit layout e s).code ≡ code p (number_in ((emit layout e s).table ++ more)) layout.first layout.scratch e 0)
    × Covers (IsKnown ((emit layout e s).table ++ more)) (emit layout e s).room e

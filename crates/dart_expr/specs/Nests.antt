-- A function value that parses expressions to a depth.
use Rattle.std.specs.Prelude.{ℕ, Bool, Result, if◌then◌else◌}
use Rattle.std.specs.declared.alloc.Global.{Global}
use denote.Ref.{MutBor}
use Rattle.dart_syntax.specs.declared.tree.Expr.{Expr}
use Rattle.dart_syntax.specs.Syntax.{Exp}
use Rattle.dart_syntax.specs.View.{exp}
use Rattle.dart_syntax.specs.Words.{Tokens}
use Rattle.dart_expr.specs.declared.refusal.Refusal.{Refusal}
use Rattle.dart_expr.specs.Input.{Parser, Reads}
use Rattle.dart_expr.specs.Model.{expr, operand}

-- reads an expression that may nest so deep, or what may stand under a sign there
abbrev pub parser_at : ℕ → Bool → Parser Exp
parser_at depth under_sign = if under_sign then operand depth else expr depth

-- a function value that may be called at any time, and reads what `parser_at` reads at this depth
pub record Nests (depth : ℕ) (pre : Global → MutBor Tokens → ℕ → Bool → Type 0)
    (post : Global → MutBor Tokens → ℕ → Bool → Result Expr Refusal → MutBor Tokens → Type 0) : Type 0 where
  pub callable : (alloc : Global) (old : MutBor Tokens) (under_sign : Bool) → pre alloc old depth under_sign
  pub reads : (alloc : Global) (old new : MutBor Tokens) (under_sign : Bool) (r : Result Expr Refusal) → post alloc old depth under_sign r new
      → Reads exp (parser_at depth under_sign old.now) r new.now

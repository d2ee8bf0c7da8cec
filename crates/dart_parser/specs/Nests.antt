-- A function value that parses statements to a depth.
use Rattle.std.specs.Prelude.{ℕ, Result}
use Rattle.std.specs.declared.alloc.Global.{Global}
use denote.Ref.{MutBor}
use Rattle.dart_syntax.specs.declared.tree.Stmt.{Stmt}
use Rattle.dart_syntax.specs.View.{sta}
use Rattle.dart_syntax.specs.Words.{Tokens}
use Rattle.dart_expr.specs.declared.refusal.Refusal.{Refusal}
use Rattle.dart_expr.specs.Input.{Reads}
use Rattle.dart_parser.specs.Statements.{stmt}

-- a function value that may be called at any time, and reads statements of at most so many levels
pub record NestsStmt (depth : ℕ) (pre : Global → MutBor Tokens → ℕ → Type 0)
    (post : Global → MutBor Tokens → ℕ → Result Stmt Refusal → MutBor Tokens → Type 0) : Type 0 where
  pub callable : (alloc : Global) (old : MutBor Tokens) → pre alloc old depth
  pub reads : (alloc : Global) (old new : MutBor Tokens) (r : Result Stmt Refusal) → post alloc old depth r new → Reads sta (stmt depth old.now) r new.now

-- The recursion of statements, at a number that is not 0.
use Rattle.std.proofs.Common.{◌≡◌, ℕ, zero, suc, ◌-◌, ◌<◌, ap, arith}
use Rattle.dart_syntax.specs.Words.{Tokens}
use Rattle.dart_expr.specs.Model.{expr}
use Rattle.dart_parser.specs.Statements.{stmt, statement}

pub stmt_step : (n : ℕ) (ts : Tokens) → 0 < n → stmt n ts ≡ statement (stmt (n - 1)) (expr (n - 1)) ts
unfolding stmt
stmt_step zero ts h = absurd (omega arith)
stmt_step (suc n) ts h = let e : n ≡ suc n - 1 = omega arith in ap (λ m. statement (stmt m) (expr m) ts) e

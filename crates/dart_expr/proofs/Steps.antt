-- The recursions of the model, at a number that is not 0.
use Rattle.std.proofs.Common.{◌≡◌, ℕ, zero, suc, ◌+◌, ◌-◌, ◌<◌, Ok, Err, refl, ap, ◌∙◌, arith}
use Rattle.dart_syntax.specs.Syntax.{Exp}
use Rattle.dart_syntax.specs.Words.{Tokens}
use Rattle.dart_expr.specs.Input.{Parser, Outcome, and_then}
use Rattle.dart_expr.specs.Model.{chain, chained, followed, climb, expr, operand, expression, unary, under}

then_pure : {A : Type 0} (o : Outcome A) → o ≡ and_then o (λ x us. Ok (x, us))
then_pure (Ok p) = refl
then_pure (Err e) = refl

then_then : {A B C : Type 0} (o : Outcome A) (f : A → Parser B) (g : B → Parser C) → and_then (and_then o f) g ≡ and_then o (λ x us. and_then (f x us) g)
then_then (Ok p) f g = refl
then_then (Err e) f g = refl

climb_more : (w o : Parser Exp) (k n : ℕ) (ts : Tokens) → chain w o (k + n) ts ≡ and_then (chain w o n ts) (climb w o n k)
unfolding chain chained
climb_more w o zero n ts = let e : zero + n ≡ n = omega arith in rw e (then_pure (chain w o n ts))
climb_more w o (suc k) n ts =
    let e : suc k + n ≡ k + suc n = omega arith in
    rw e (climb_more w o k (suc n) ts ∙ then_then (chain w o n ts) (followed (suc n) (chain w o n)) (climb w o (suc n) k))

-- a chain is an operand with a sign, and then the operators of each level
pub chain_climbs : (w o : Parser Exp) (n : ℕ) (ts : Tokens) → chain w o n ts ≡ and_then (unary w o ts) (climb w o 0 n)
unfolding chain
chain_climbs w o n ts = let e : n + 0 ≡ n = omega arith in rw e at (climb_more w o n 0 ts)

pub climb_step : (w o : Parser Exp) (n k : ℕ) (x : Exp) (ts : Tokens) → climb w o n (suc k) x ts ≡ and_then (followed (n + 1) (chain w o (n + 1 - 1)) x ts) (climb w o (n + 1) k)
climb_step w o n k x ts = let e : n + 1 ≡ suc n = omega arith in let f : suc n - 1 ≡ n = omega arith in rw (e, f) refl

pub expr_step : (n : ℕ) (ts : Tokens) → 0 < n → expr n ts ≡ expression (expr (n - 1)) (operand (n - 1)) ts
unfolding expr
expr_step zero ts h = absurd (omega arith)
expr_step (suc n) ts h = let e : n ≡ suc n - 1 = omega arith in ap (λ m. expression (expr m) (operand m) ts) e

pub operand_step : (n : ℕ) (ts : Tokens) → 0 < n → operand n ts ≡ under (expr (n - 1)) (operand (n - 1)) ts
unfolding operand
operand_step zero ts h = absurd (omega arith)
operand_step (suc n) ts h = let e : n ≡ suc n - 1 = omega arith in ap (λ m. under (expr m) (operand m) ts) e

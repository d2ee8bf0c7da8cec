-- The bodies of a small program as mathematics.
use Rattle.std.proofs.Common.{◌≡◌, ℕ, ◌+◌, List, [], ◌∷◌, refl, ap, ◌∙◌}
use Rattle.program.specs.declared.body.Expression.{Expression}
use Rattle.program.specs.declared.body.Expression.TheVariants as expression
use Rattle.program.specs.declared.body.Expression.TheFolds.{fold_out-Expression}
use Rattle.program.specs.declared.body.Statement.TheVariants as statement
use Rattle.program.specs.declared.body.Statement.TheFolds.{fold_out-Statement}
use Rattle.program.specs.declared.body.SiteCall.{SiteCall}
use Rattle.program.specs.declared.literal.Literal.{Literal}
use Rattle.program.specs.Bodies as c
use Rattle.program.specs.Bodies.{Exp, Sta, exp, exps, sta, exp_step, sta_step}
use Rattle.small_program.specs.declared.small.SmallPrint.{SmallPrint}
use Rattle.small_program.specs.Numbering.{call_of, statement_of}

pub constant_is : (k : Literal) → exp (expression.Constant k) ≡ c.constant k
constant_is k = fold_out-Expression Exp exp_step (expression.Constant k) ∙ rw (expression.outs-Constant k) refl

new_is : (n : ℕ) → exp (expression.New (record { 0 = n }) []) ≡ c.new n c.no_more
new_is n = fold_out-Expression Exp exp_step (expression.New (record { 0 = n }) []) ∙ rw (expression.outs-New (record { 0 = n }) []) refl

-- one call without arguments
abbrev one : ℕ → List (SiteCall Expression)
one j = record { site = record { 0 = j }; arguments = [] } ∷ []

call_is : (j : ℕ) (e : Expression) → exp (expression.Postfix e (one j)) ≡ c.postfix (exp e) (c.call j c.no_more c.no_call)
call_is j e = fold_out-Expression Exp exp_step (expression.Postfix e (one j)) ∙ rw (expression.outs-Postfix e (one j)) refl

print_is : (e : Expression) → exp (expression.Print e) ≡ c.print (exp e)
print_is e = fold_out-Expression Exp exp_step (expression.Print e) ∙ rw (expression.outs-Print e) refl

run_is : (e : Expression) → sta (statement.Run e) ≡ c.run (exp e)
run_is e = fold_out-Statement Sta sta_step (statement.Run e) ∙ rw (statement.outs-Run e) refl

pub statement_is : (j : ℕ) (p : SmallPrint) → sta (statement_of j p) ≡ c.run (c.print (c.postfix (c.new (7 + p.class) c.no_more) (c.call j c.no_more c.no_call)))
statement_is j p =
    run_is (expression.Print (call_of j p))
    ∙ ap c.run (print_is (call_of j p)
    ∙ ap c.print (call_is j (expression.New (record { 0 = 7 + p.class }) []) ∙ ap (λ e. c.postfix e (c.call j c.no_more c.no_call)) (new_is (7 + p.class))))

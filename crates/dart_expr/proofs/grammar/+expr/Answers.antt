use Rattle.std.proofs.Common.{arith}
use Rattle.dart_expr.proofs.Steps.{expr_step, operand_step}
use Rattle.dart_expr.proofs.grammar.+expr.Goals as goal

pub returns-then-under_sign-2 : goal.returns-then-under_sign-2
returns-then-under_sign-2 t c = rw (c.if-under_sign-2.true, operand_step c.args.depth c.args.tokens.now (omega arith)) c.under.ensures

pub returns-else-under_sign-2 : goal.returns-else-under_sign-2
returns-else-under_sign-2 t c = rw (c.if-under_sign-2.false, expr_step c.args.depth c.args.tokens.now (omega arith)) c.expression.ensures

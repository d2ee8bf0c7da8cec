use Rattle.std.proofs.Common.{rules, arith}
use Rattle.std.proofs.lemmas.Grind.{common_steps}
use Rattle.dart_printer.proofs.Exprs.{text_joined, text_call, text_super_get, text_super_call, text_paren, text_list, text_postfix, text_before, text_after, text_unary, text_chain, text_is, text_is_not, text_cond, text_assign, text_throw}
use Rattle.dart_printer.proofs.expr.+print.Goals as goal

pub print_expr-returns-in_ok-put_piece-in-Joined : goal.print_expr-returns-in_ok-put_piece-in-Joined
print_expr-returns-in_ok-put_piece-in-Joined t c =
    let e = text_joined c.in-Joined.units c.in-Joined.field-1 c.in-Joined.more in
    first_of (search rules, grind (arith, common_steps))

pub print_expr-returns-in_ok-print_exprs-in-Call : goal.print_expr-returns-in_ok-print_exprs-in-Call
print_expr-returns-in_ok-print_exprs-in-Call t c =
    let e = text_call c.in-Call.name c.in-Call.args in
    first_of (search rules, grind (arith, common_steps))

pub print_expr-returns-in_ok-put-in-SuperGet-2 : goal.print_expr-returns-in_ok-put-in-SuperGet-2
print_expr-returns-in_ok-put-in-SuperGet-2 t c =
    let e = text_super_get c.in-SuperGet.field-0 c.in-SuperGet.name in
    first_of (search rules, grind (arith, common_steps))

pub print_expr-returns-in_ok-print_exprs-in-SuperCall : goal.print_expr-returns-in_ok-print_exprs-in-SuperCall
print_expr-returns-in_ok-print_exprs-in-SuperCall t c =
    let e = text_super_call c.in-SuperCall.field-0 c.in-SuperCall.name c.in-SuperCall.args in
    first_of (search rules, grind (arith, common_steps))

pub print_expr-returns-in_ok-print_expr-in-Paren : goal.print_expr-returns-in_ok-print_expr-in-Paren
print_expr-returns-in_ok-print_expr-in-Paren t c =
    let e = text_paren c.in-Paren.x in
    first_of (search rules, grind (arith, common_steps))

pub print_expr-returns-in_ok-print_exprs-in-List : goal.print_expr-returns-in_ok-print_exprs-in-List
print_expr-returns-in_ok-print_exprs-in-List t c =
    let e = text_list c.in-List.field-0 c.in-List.items in
    first_of (search rules, grind (arith, common_steps))

pub print_expr-returns-in_ok-print_expr-in-Postfix : goal.print_expr-returns-in_ok-print_expr-in-Postfix
print_expr-returns-in_ok-print_expr-in-Postfix t c =
    let e = text_postfix c.in-Postfix.x c.in-Postfix.more in
    first_of (search rules, grind (arith, common_steps))

pub print_expr-returns-in_ok-put_step-in-Step-true-default-default-default : goal.print_expr-returns-in_ok-put_step-in-Step-true-default-default-default
print_expr-returns-in_ok-put_step-in-Step-true-default-default-default t c =
    let e = text_before c.in-Step-true-default-default-default.step c.in-Step-true-default-default-default.field-2 c.in-Step-true-default-default-default.x in
    first_of (search rules, grind (arith, common_steps))

pub print_expr-returns-in_ok-print_expr-in-Step-false-default-default-default : goal.print_expr-returns-in_ok-print_expr-in-Step-false-default-default-default
print_expr-returns-in_ok-print_expr-in-Step-false-default-default-default t c =
    let e = text_after c.in-Step-false-default-default-default.step c.in-Step-false-default-default-default.field-2 c.in-Step-false-default-default-default.x in
    first_of (search rules, grind (arith, common_steps))

pub print_expr-returns-in_ok-put_unary-in-Unary : goal.print_expr-returns-in_ok-put_unary-in-Unary
print_expr-returns-in_ok-put_unary-in-Unary t c =
    let e = text_unary c.in-Unary.operator c.in-Unary.field-1 c.in-Unary.x in
    first_of (search rules, grind (arith, common_steps))

pub print_expr-returns-in_ok-print_expr-in-Chain : goal.print_expr-returns-in_ok-print_expr-in-Chain
print_expr-returns-in_ok-print_expr-in-Chain t c =
    let e = text_chain c.in-Chain.x c.in-Chain.more in
    first_of (search rules, grind (arith, common_steps))

pub print_expr-returns-in_ok-put-in-Is-default-false-default-default : goal.print_expr-returns-in_ok-put-in-Is-default-false-default-default
print_expr-returns-in_ok-put-in-Is-default-false-default-default t c =
    let e = text_is c.in-Is-default-false-default-default.x c.in-Is-default-false-default-default.field-2 c.in-Is-default-false-default-default.name in
    first_of (search rules, grind (arith, common_steps))

pub print_expr-returns-in_ok-put-in-Is-default-true-default-default-2 : goal.print_expr-returns-in_ok-put-in-Is-default-true-default-default-2
print_expr-returns-in_ok-put-in-Is-default-true-default-default-2 t c =
    let e = text_is_not c.in-Is-default-true-default-default.x c.in-Is-default-true-default-default.field-2 c.in-Is-default-true-default-default.name in
    first_of (search rules, grind (arith, common_steps))

pub print_expr-returns-in_ok-put-in-Cond-2 : goal.print_expr-returns-in_ok-put-in-Cond-2
print_expr-returns-in_ok-put-in-Cond-2 t c =
    let e = text_cond c.in-Cond.x c.in-Cond.y c.in-Cond.z in
    first_of (search rules, grind (arith, common_steps))

pub print_expr-returns-in_ok-put_assignment-in-Assign : goal.print_expr-returns-in_ok-put_assignment-in-Assign
print_expr-returns-in_ok-put_assignment-in-Assign t c =
    let e = text_assign c.in-Assign.x c.in-Assign.operator c.in-Assign.field-2 c.in-Assign.y in
    first_of (search rules, grind (arith, common_steps))

pub print_expr-returns-in_ok-put-in-Throw : goal.print_expr-returns-in_ok-put-in-Throw
print_expr-returns-in_ok-put-in-Throw t c =
    let e = text_throw c.in-Throw.field-0 c.in-Throw.x in
    first_of (search rules, grind (arith, common_steps))

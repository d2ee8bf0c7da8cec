use Rattle.std.proofs.Common.{rules, arith}
use Rattle.std.proofs.lemmas.Grind.{common_steps}
use Rattle.dart_expr.specs.Input.{many_from}
use Rattle.dart_parser.specs.Tops.{comma_name, more_names}
use Rattle.dart_expr.proofs.Turns.{one_more, no_more}
use Rattle.dart_parser.proofs.class.more_names.Goals as goal

pub returns-in_err-x : goal.returns-in_err-x
unfolding more_names
returns-in_err-x c =
    let e = one_more (λ n. many_from comma_name n c.loop-turn.found c.loop-turn.tokens) _ c.loop-turn._turn c.loop-turn-test.true c.loop-turn.invariant in
    first_of (search rules, grind (arith, common_steps))

pub returns-in-None : goal.returns-in-None
unfolding more_names
returns-in-None c =
    let e = one_more (λ n. many_from comma_name n c.loop-turn.found c.loop-turn.tokens) _ c.loop-turn._turn c.loop-turn-test.true c.loop-turn.invariant in
    first_of (search rules, grind (arith, common_steps))

pub loop-turn-preserved : goal.loop-turn-preserved
unfolding more_names
loop-turn-preserved c =
    let e = one_more (λ n. many_from comma_name n c.loop-turn.found c.loop-turn.tokens) _ c.loop-turn._turn c.loop-turn-test.true c.loop-turn.invariant in
    first_of (search rules, grind (arith, common_steps))

pub returns : goal.returns
unfolding more_names
returns c =
    let e = no_more (λ n. many_from comma_name n c.loop-turn.found c.loop-turn.tokens) _ c.loop-turn._turn c.loop-turn-test.false c.loop-turn.invariant in
    first_of (search rules, grind (arith, common_steps))

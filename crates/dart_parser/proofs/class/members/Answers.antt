use Rattle.std.proofs.Common.{map, rules, arith}
use Rattle.std.proofs.lemmas.Grind.{common_steps}
use Rattle.dart_expr.specs.Input.{many_from}
use Rattle.dart_expr.specs.Model.{expr}
use Rattle.dart_parser.specs.Statements.{stmt}
use Rattle.dart_syntax.specs.View as view
use Rattle.dart_parser.specs.Tops.{member_item, members}
use Rattle.dart_expr.proofs.Turns.{one_more, no_more}
use Rattle.dart_parser.proofs.class.members.Goals as goal

pub returns-in_err-x : goal.returns-in_err-x
unfolding members
returns-in_err-x c =
    let e = one_more (λ n. many_from (member_item (stmt 200) (expr 200) c.args.class.now) n (map view.member c.loop-turn.found) c.loop-turn.tokens) _ c.loop-turn._turn c.loop-turn-test.true c.loop-turn.invariant in
    first_of (search rules, grind (arith, common_steps))

pub returns-in-None : goal.returns-in-None
unfolding members
returns-in-None c =
    let e = one_more (λ n. many_from (member_item (stmt 200) (expr 200) c.args.class.now) n (map view.member c.loop-turn.found) c.loop-turn.tokens) _ c.loop-turn._turn c.loop-turn-test.true c.loop-turn.invariant in
    first_of (search rules, grind (arith, common_steps))

pub loop-turn-preserved : goal.loop-turn-preserved
unfolding members
loop-turn-preserved c =
    let e = one_more (λ n. many_from (member_item (stmt 200) (expr 200) c.args.class.now) n (map view.member c.loop-turn.found) c.loop-turn.tokens) _ c.loop-turn._turn c.loop-turn-test.true c.loop-turn.invariant in
    first_of (search rules, grind (arith, common_steps))

pub returns : goal.returns
unfolding members
returns c =
    let e = no_more (λ n. many_from (member_item (stmt 200) (expr 200) c.args.class.now) n (map view.member c.loop-turn.found) c.loop-turn.tokens) _ c.loop-turn._turn c.loop-turn-test.false c.loop-turn.invariant in
    first_of (search rules, grind (arith, common_steps))

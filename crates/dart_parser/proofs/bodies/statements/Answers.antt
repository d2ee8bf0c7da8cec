use Rattle.std.proofs.Common.{map, rules, arith}
use Rattle.std.proofs.lemmas.Grind.{common_steps}
use Rattle.dart_syntax.specs.declared.token.Sign.TheVariants as s
use Rattle.dart_syntax.specs.View.{sta}
use Rattle.dart_expr.specs.Input.{many_from, sees}
use Rattle.dart_parser.specs.Statements.{item, stmt}
use Rattle.dart_parser.specs.Members.{statements}
use Rattle.dart_expr.proofs.Turns.{one_more, no_more}
use Rattle.dart_parser.proofs.bodies.statements.Goals as goal

pub returns-in_err-x : goal.returns-in_err-x
unfolding statements
returns-in_err-x c =
    let e = one_more (λ n. many_from (item (sees s.BraceClose) (stmt 200)) n (map sta c.loop-turn.found) c.loop-turn.tokens) _ c.loop-turn._turn c.loop-turn-test.true c.loop-turn.invariant in
    first_of (search rules, grind (arith, common_steps))

pub returns-in-None : goal.returns-in-None
unfolding statements
returns-in-None c =
    let e = one_more (λ n. many_from (item (sees s.BraceClose) (stmt 200)) n (map sta c.loop-turn.found) c.loop-turn.tokens) _ c.loop-turn._turn c.loop-turn-test.true c.loop-turn.invariant in
    first_of (search rules, grind (arith, common_steps))

pub loop-turn-preserved : goal.loop-turn-preserved
unfolding statements
loop-turn-preserved c =
    let e = one_more (λ n. many_from (item (sees s.BraceClose) (stmt 200)) n (map sta c.loop-turn.found) c.loop-turn.tokens) _ c.loop-turn._turn c.loop-turn-test.true c.loop-turn.invariant in
    first_of (search rules, grind (arith, common_steps))

pub returns : goal.returns
unfolding statements
returns c =
    let e = no_more (λ n. many_from (item (sees s.BraceClose) (stmt 200)) n (map sta c.loop-turn.found) c.loop-turn.tokens) _ c.loop-turn._turn c.loop-turn-test.false c.loop-turn.invariant in
    first_of (search rules, grind (arith, common_steps))

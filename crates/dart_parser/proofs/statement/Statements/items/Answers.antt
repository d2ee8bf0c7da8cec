use Rattle.std.proofs.Common.{map, rules, arith}
use Rattle.std.proofs.lemmas.Grind.{common_steps}
use Rattle.dart_syntax.specs.declared.token.Sign.TheVariants as s
use Rattle.dart_syntax.specs.View.{sta}
use Rattle.dart_expr.specs.Input.{sees, many_from}
use Rattle.dart_parser.specs.Statements.{item, stmt}
use Rattle.dart_expr.proofs.Turns.{one_more, no_more}
use Rattle.dart_parser.proofs.statement.Statements.items.Goals as goal

pub returns-in_err-statement : goal.returns-in_err-statement
returns-in_err-statement g c =
    let e = one_more (λ n. many_from (item (sees s.BraceClose) (stmt c.args.self.now.depth)) n (map sta c.loop-turn.found) c.loop-turn.tokens) _ c.loop-turn._turn c.loop-turn-test.true c.loop-turn.invariant in
    first_of (search rules, grind (arith, common_steps))

pub returns-in-None : goal.returns-in-None
returns-in-None g c =
    let e = one_more (λ n. many_from (item (sees s.BraceClose) (stmt c.args.self.now.depth)) n (map sta c.loop-turn.found) c.loop-turn.tokens) _ c.loop-turn._turn c.loop-turn-test.true c.loop-turn.invariant in
    first_of (search rules, grind (arith, common_steps))

pub loop-turn-preserved : goal.loop-turn-preserved
loop-turn-preserved g c =
    let e = one_more (λ n. many_from (item (sees s.BraceClose) (stmt c.args.self.now.depth)) n (map sta c.loop-turn.found) c.loop-turn.tokens) _ c.loop-turn._turn c.loop-turn-test.true c.loop-turn.invariant in
    first_of (search rules, grind (arith, common_steps))

pub returns : goal.returns
returns g c =
    let e = no_more (λ n. many_from (item (sees s.BraceClose) (stmt c.args.self.now.depth)) n (map sta c.loop-turn.found) c.loop-turn.tokens) _ c.loop-turn._turn c.loop-turn-test.false c.loop-turn.invariant in
    first_of (search rules, grind (arith, common_steps))

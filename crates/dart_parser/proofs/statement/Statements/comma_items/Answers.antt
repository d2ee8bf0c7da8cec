use Rattle.std.proofs.Common.{map, rules, arith}
use Rattle.std.proofs.lemmas.Grind.{common_steps}
use Rattle.dart_syntax.specs.View.{exp}
use Rattle.dart_expr.specs.Input.{many_from}
use Rattle.dart_expr.specs.Model.{expr}
use Rattle.dart_parser.specs.Statements.{comma_item, comma_items, stmt}
use Rattle.dart_expr.proofs.Turns.{one_more, no_more}
use Rattle.dart_parser.proofs.statement.Statements.comma_items.Goals as goal

pub returns-in_err-x : goal.returns-in_err-x
unfolding comma_items
returns-in_err-x g c =
    let e = one_more (λ n. many_from (comma_item (stmt c.args.self.now.depth) (expr c.args.self.now.depth)) n (map exp c.loop-turn.found) c.loop-turn.tokens) _ c.loop-turn._turn c.loop-turn-test.true c.loop-turn.invariant in
    first_of (search rules, grind (arith, common_steps))

pub returns-in-None : goal.returns-in-None
unfolding comma_items
returns-in-None g c =
    let e = one_more (λ n. many_from (comma_item (stmt c.args.self.now.depth) (expr c.args.self.now.depth)) n (map exp c.loop-turn.found) c.loop-turn.tokens) _ c.loop-turn._turn c.loop-turn-test.true c.loop-turn.invariant in
    first_of (search rules, grind (arith, common_steps))

pub loop-turn-preserved : goal.loop-turn-preserved
unfolding comma_items
loop-turn-preserved g c =
    let e = one_more (λ n. many_from (comma_item (stmt c.args.self.now.depth) (expr c.args.self.now.depth)) n (map exp c.loop-turn.found) c.loop-turn.tokens) _ c.loop-turn._turn c.loop-turn-test.true c.loop-turn.invariant in
    first_of (search rules, grind (arith, common_steps))

pub returns : goal.returns
unfolding comma_items
returns g c =
    let e = no_more (λ n. many_from (comma_item (stmt c.args.self.now.depth) (expr c.args.self.now.depth)) n (map exp c.loop-turn.found) c.loop-turn.tokens) _ c.loop-turn._turn c.loop-turn-test.false c.loop-turn.invariant in
    first_of (search rules, grind (arith, common_steps))

use Rattle.std.proofs.Common.{map, rules, arith}
use Rattle.std.proofs.lemmas.Grind.{common_steps}
use Rattle.dart_syntax.specs.View.{selector as seen}
use Rattle.dart_expr.specs.Input.{many_from}
use Rattle.dart_expr.specs.Model.{expr, selector, selectors}
use Rattle.dart_expr.proofs.Turns.{one_more, no_more}
use Rattle.dart_expr.proofs.grammar.Grammar.selectors.Goals as goal

pub returns-in_err-selector : goal.returns-in_err-selector
unfolding selector selectors
returns-in_err-selector g c =
    let e = one_more (λ n. many_from (selector (expr c.args.self.now.depth)) n (map seen c.loop-turn.found) c.loop-turn.tokens) _ c.loop-turn._turn c.loop-turn-test.true c.loop-turn.invariant in
    first_of (search rules, grind (arith, common_steps))

pub returns-in-None : goal.returns-in-None
unfolding selector selectors
returns-in-None g c =
    let e = one_more (λ n. many_from (selector (expr c.args.self.now.depth)) n (map seen c.loop-turn.found) c.loop-turn.tokens) _ c.loop-turn._turn c.loop-turn-test.true c.loop-turn.invariant in
    first_of (search rules, grind (arith, common_steps))

pub loop-turn-preserved : goal.loop-turn-preserved
unfolding selector selectors
loop-turn-preserved g c =
    let e = one_more (λ n. many_from (selector (expr c.args.self.now.depth)) n (map seen c.loop-turn.found) c.loop-turn.tokens) _ c.loop-turn._turn c.loop-turn-test.true c.loop-turn.invariant in
    first_of (search rules, grind (arith, common_steps))

pub returns : goal.returns
unfolding selector selectors
returns g c =
    let e = no_more (λ n. many_from (selector (expr c.args.self.now.depth)) n (map seen c.loop-turn.found) c.loop-turn.tokens) _ c.loop-turn._turn c.loop-turn-test.false c.loop-turn.invariant in
    first_of (search rules, grind (arith, common_steps))

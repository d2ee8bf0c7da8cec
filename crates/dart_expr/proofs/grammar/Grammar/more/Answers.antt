use Rattle.std.proofs.Common.{map, rules, arith}
use Rattle.std.proofs.lemmas.Grind.{common_steps}
use Rattle.dart_syntax.specs.View.{exp}
use Rattle.dart_expr.specs.Model.{expr, more_from}
use Rattle.dart_expr.proofs.Turns.{one_more, no_more}
use Rattle.dart_expr.proofs.grammar.Grammar.more.Goals as goal

pub returns-then-eat : goal.returns-then-eat
unfolding more_from
returns-then-eat g c =
    let e = one_more (λ n. more_from (expr c.args.self.now.depth) c.args.close n (map exp c.loop-turn.found) c.loop-turn.tokens) _ c.loop-turn._turn c.loop-turn-test.true c.loop-turn.invariant in
    first_of (search rules, grind (arith, common_steps))

pub returns-in_err-expect : goal.returns-in_err-expect
unfolding more_from
returns-in_err-expect g c =
    let e = one_more (λ n. more_from (expr c.args.self.now.depth) c.args.close n (map exp c.loop-turn.found) c.loop-turn.tokens) _ c.loop-turn._turn c.loop-turn-test.true c.loop-turn.invariant in
    first_of (search rules, grind (arith, common_steps))

pub returns-then-eat-2 : goal.returns-then-eat-2
unfolding more_from
returns-then-eat-2 g c =
    let e = one_more (λ n. more_from (expr c.args.self.now.depth) c.args.close n (map exp c.loop-turn.found) c.loop-turn.tokens) _ c.loop-turn._turn c.loop-turn-test.true c.loop-turn.invariant in
    first_of (search rules, grind (arith, common_steps))

pub returns-in_err-whole : goal.returns-in_err-whole
unfolding more_from
returns-in_err-whole g c =
    let e = one_more (λ n. more_from (expr c.args.self.now.depth) c.args.close n (map exp c.loop-turn.found) c.loop-turn.tokens) _ c.loop-turn._turn c.loop-turn-test.true c.loop-turn.invariant in
    first_of (search rules, grind (arith, common_steps))

pub loop-turn-preserved : goal.loop-turn-preserved
unfolding more_from
loop-turn-preserved g c =
    let e = one_more (λ n. more_from (expr c.args.self.now.depth) c.args.close n (map exp c.loop-turn.found) c.loop-turn.tokens) _ c.loop-turn._turn c.loop-turn-test.true c.loop-turn.invariant in
    first_of (search rules, grind (arith, common_steps))

pub returns : goal.returns
unfolding more_from
returns g c =
    let e = no_more (λ n. more_from (expr c.args.self.now.depth) c.args.close n (map exp c.loop-turn.found) c.loop-turn.tokens) _ c.loop-turn._turn c.loop-turn-test.false c.loop-turn.invariant in
    first_of (search rules, grind (arith, common_steps))

use Rattle.std.proofs.Common.{map, ◌+◌, ◌-◌, rules, arith}
use Rattle.std.proofs.lemmas.Grind.{common_steps}
use Rattle.dart_syntax.specs.View.{exp, link as seen}
use Rattle.dart_expr.specs.Input.{many_from}
use Rattle.dart_expr.specs.Model.{expr, operand, chain, climb, followed, link, links}
use Rattle.dart_expr.proofs.View.{some_links}
use Rattle.dart_expr.proofs.Turns.{one_more, no_more}
use Rattle.dart_expr.proofs.Steps.{chain_climbs, climb_step}
use Rattle.dart_expr.proofs.grammar.Grammar.+chain.Goals as goal

pub links-returns-in_err-link : goal.links-returns-in_err-link
unfolding links
links-returns-in_err-link g t c =
    let e = one_more (λ n. many_from (link c.args.level (chain (expr c.args.self.now.depth) (operand c.args.self.now.depth) (c.args.level - 1))) n (map seen c.loop-turn.found) c.loop-turn.tokens) _ c.loop-turn._turn c.loop-turn-test.true c.loop-turn.invariant in
    first_of (search rules, grind (arith, common_steps))

pub links-returns-in-None : goal.links-returns-in-None
unfolding links
links-returns-in-None g t c =
    let e = one_more (λ n. many_from (link c.args.level (chain (expr c.args.self.now.depth) (operand c.args.self.now.depth) (c.args.level - 1))) n (map seen c.loop-turn.found) c.loop-turn.tokens) _ c.loop-turn._turn c.loop-turn-test.true c.loop-turn.invariant in
    first_of (search rules, grind (arith, common_steps))

pub links-loop-turn-preserved : goal.links-loop-turn-preserved
unfolding links
links-loop-turn-preserved g t c =
    let e = one_more (λ n. many_from (link c.args.level (chain (expr c.args.self.now.depth) (operand c.args.self.now.depth) (c.args.level - 1))) n (map seen c.loop-turn.found) c.loop-turn.tokens) _ c.loop-turn._turn c.loop-turn-test.true c.loop-turn.invariant in
    first_of (search rules, grind (arith, common_steps))

pub links-returns : goal.links-returns
unfolding links
links-returns g t c =
    let e = no_more (λ n. many_from (link c.args.level (chain (expr c.args.self.now.depth) (operand c.args.self.now.depth) (c.args.level - 1))) n (map seen c.loop-turn.found) c.loop-turn.tokens) _ c.loop-turn._turn c.loop-turn-test.false c.loop-turn.invariant in
    first_of (search rules, grind (arith, common_steps))

pub followed-returns : goal.followed-returns
unfolding followed
followed-returns g t c =
    let e = some_links c.args.first c.in-Ok.links c.if-is_empty.ensures.1 in
    first_of (search rules, grind (arith, common_steps))

pub chain-returns-in_err-x : goal.chain-returns-in_err-x
chain-returns-in_err-x g t c =
    let e = chain_climbs (expr c.args.self.now.depth) (operand c.args.self.now.depth) c.args.level c.args.tokens.now in
    first_of (search rules, grind (arith, common_steps))

pub chain-loop-tighter-init : goal.chain-loop-tighter-init
chain-loop-tighter-init g t c =
    let e = chain_climbs (expr c.args.self.now.depth) (operand c.args.self.now.depth) c.args.level c.args.tokens.now in
    first_of (search rules, grind (arith, common_steps))

pub chain-loop-tighter-preserved : goal.chain-loop-tighter-preserved
chain-loop-tighter-preserved g t c =
    let w = expr c.args.self.now.depth in
    let o = operand c.args.self.now.depth in
    let l = c.loop-tighter in
    let e = one_more (λ k. climb w o l.tighter k (exp l.x) l.tokens) c.args.level l.tighter c.loop-tighter-test.true l.invariant in
    let f = climb_step w o l.tighter (c.args.level - (l.tighter + 1)) (exp l.x) l.tokens in
    first_of (search rules, grind (arith, common_steps))

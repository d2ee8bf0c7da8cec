use Rattle.std.proofs.Common.{map, rules, arith}
use Rattle.std.proofs.lemmas.Grind.{common_steps}
use Rattle.dart_syntax.specs.View.{piece}
use Rattle.dart_expr.specs.Model.{expr, pieces, pieces_from}
use Rattle.dart_expr.proofs.Turns.{one_more, no_more}
use Rattle.dart_expr.proofs.grammar.Grammar.pieces.Goals as goal

pub returns-in_err-piece : goal.returns-in_err-piece
unfolding pieces pieces_from
returns-in_err-piece g c =
    let e = one_more (λ n. pieces_from (expr c.args.self.now.depth) n (map piece c.loop-turn.found) c.loop-turn.tokens) _ c.loop-turn._turn c.loop-turn-test.true c.loop-turn.invariant in
    first_of (search rules, grind (arith, common_steps))

pub returns-then-is_last : goal.returns-then-is_last
unfolding pieces pieces_from
returns-then-is_last g c =
    let e = one_more (λ n. pieces_from (expr c.args.self.now.depth) n (map piece c.loop-turn.found) c.loop-turn.tokens) _ c.loop-turn._turn c.loop-turn-test.true c.loop-turn.invariant in
    first_of (search rules, grind (arith, common_steps))

pub loop-turn-preserved : goal.loop-turn-preserved
unfolding pieces pieces_from
loop-turn-preserved g c =
    let e = one_more (λ n. pieces_from (expr c.args.self.now.depth) n (map piece c.loop-turn.found) c.loop-turn.tokens) _ c.loop-turn._turn c.loop-turn-test.true c.loop-turn.invariant in
    first_of (search rules, grind (arith, common_steps))

pub returns : goal.returns
unfolding pieces pieces_from
returns g c =
    let e = no_more (λ n. pieces_from (expr c.args.self.now.depth) n (map piece c.loop-turn.found) c.loop-turn.tokens) _ c.loop-turn._turn c.loop-turn-test.false c.loop-turn.invariant in
    first_of (search rules, grind (arith, common_steps))

use Rattle.std.proofs.Common.{rules, arith}
use Rattle.std.proofs.lemmas.Grind.{common_steps}
use Rattle.dart_lexer.specs.Model.{segment_from}
use Rattle.dart_lexer.proofs.Turns.{one_more}
use Rattle.dart_lexer.proofs.text.segment.Goals as goal

pub returns-in_err-units : goal.returns-in_err-units
returns-in_err-units c =
    let e = one_more (λ m. segment_from c.args.total c.args.quote c.args.opened m c.loop-turn.is_first c.loop-turn.from c.loop-turn.found c.loop-turn.input) _ c.loop-turn._turn c.loop-turn-test.true c.loop-turn.invariant in
    first_of (search rules, grind (arith, common_steps))

pub returns-in_err-name : goal.returns-in_err-name
returns-in_err-name c =
    let e = one_more (λ m. segment_from c.args.total c.args.quote c.args.opened m c.loop-turn.is_first c.loop-turn.from c.loop-turn.found c.loop-turn.input) _ c.loop-turn._turn c.loop-turn-test.true c.loop-turn.invariant in
    first_of (search rules, grind (arith, common_steps))

pub loop-turn-preserved : goal.loop-turn-preserved
loop-turn-preserved c =
    let e = one_more (λ m. segment_from c.args.total c.args.quote c.args.opened m c.loop-turn.is_first c.loop-turn.from c.loop-turn.found c.loop-turn.input) _ c.loop-turn._turn c.loop-turn-test.true c.loop-turn.invariant in
    first_of (search rules, grind (arith, common_steps))

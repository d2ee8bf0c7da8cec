use Rattle.std.proofs.Common.{rules, arith}
use Rattle.std.proofs.lemmas.Grind.{common_steps}
use Rattle.dart_lexer.specs.Model.{raw_from}
use Rattle.dart_lexer.proofs.Turns.{one_more}
use Rattle.dart_lexer.proofs.text.raw.Goals as goal

pub loop-turn-preserved : goal.loop-turn-preserved
loop-turn-preserved c =
    let e = one_more (λ n. raw_from c.args.quote c.args.opened n c.loop-turn.found c.loop-turn.input) _ c.loop-turn._turn c.loop-turn-test.true c.loop-turn.invariant in
    first_of (search rules, grind (arith, common_steps))

pub returns-in_err-c : goal.returns-in_err-c
returns-in_err-c c =
    let e = one_more (λ n. raw_from c.args.quote c.args.opened n c.loop-turn.found c.loop-turn.input) _ c.loop-turn._turn c.loop-turn-test.true c.loop-turn.invariant in
    first_of (search rules, grind (arith, common_steps))

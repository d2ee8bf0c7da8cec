use Rattle.std.proofs.Common.{rules, length, arith}
use Rattle.std.proofs.lemmas.Grind.{common_steps}
use Rattle.dart_lexer.specs.Model.{lex_from}
use Rattle.dart_lexer.proofs.Turns.{one_more, no_more}
use Rattle.dart_lexer.proofs.whole.lex.Goals as goal

pub returns-then-left-eq0 : goal.returns-then-left-eq0
returns-then-left-eq0 c =
    let e = one_more (λ m. lex_from (length c.args.text.now) m c.loop-turn.stack c.loop-turn.found c.loop-turn.input) _ c.loop-turn._turn c.loop-turn-test.true c.loop-turn.invariant in
    first_of (search rules, grind (arith, common_steps))

pub returns-in_err-stack : goal.returns-in_err-stack
returns-in_err-stack c =
    let e = one_more (λ m. lex_from (length c.args.text.now) m c.loop-turn.stack c.loop-turn.found c.loop-turn.input) _ c.loop-turn._turn c.loop-turn-test.true c.loop-turn.invariant in
    first_of (search rules, grind (arith, common_steps))

pub loop-turn-preserved : goal.loop-turn-preserved
loop-turn-preserved c =
    let e = one_more (λ m. lex_from (length c.args.text.now) m c.loop-turn.stack c.loop-turn.found c.loop-turn.input) _ c.loop-turn._turn c.loop-turn-test.true c.loop-turn.invariant in
    first_of (search rules, grind (arith, common_steps))

pub returns : goal.returns
returns c =
    let e = no_more (λ m. lex_from (length c.args.text.now) m c.loop-turn.stack c.loop-turn.found c.loop-turn.input) _ c.loop-turn._turn c.loop-turn-test.false c.loop-turn.invariant in
    first_of (search rules, grind (arith, common_steps))

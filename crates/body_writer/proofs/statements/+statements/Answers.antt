use Rattle.std.proofs.Common.{rules, arith, ◌-◌, ◌<◌, ◌≤◌, ◌≡◌, ◌∙◌, ap, length, true}
use Rattle.program.specs.Bodies.{sta}
use Rattle.body_writer.specs.Variables.{declared}
use Rattle.body_writer.proofs.Opens.{one_open, before_declared, before_other, written_next, same_item}
use Rattle.body_writer.proofs.statements.+statements.Goals as goal
use Rattle.body_writer.proofs.statements.+statements.Goals.{emit_statements-then-declares, emit_statements-else-declares}

pub emit_statements-overflow_sub-variables : goal.emit_statements-overflow_sub-variables
emit_statements-overflow_sub-variables t c =
    one_open c.args.scope.variables c.args.all.now c.loop-i.i (c.loop-i.i - 1) c.loop-i.variables c.index-all-i.result c.declares.result
    (omega (arith, c.loop-i.auto.i, c.loop-i-test.true)) (omega (arith, c.loop-i-test.true)) c.index-all-i.is c.loop-i.invariant.0 c.declares.ensures c.if-declares.true

pub emit_statements-loop-i-preserved : goal.emit_statements-loop-i-preserved
emit_statements-loop-i-preserved t c =
    let small : c.loop-i.i - 1 < length c.args.all.now = omega (arith, c.loop-i.auto.i, c.loop-i-test.true) in
    let same = same_item c.args.all.now (c.loop-i.i - 1) c.index-all-i.result c.index-all-i-in-loop-i.result small c.index-all-i.is c.index-all-i-in-loop-i.is in
    let says : c.declares.result ≡ declared (sta c.index-all-i-in-loop-i.result) = c.declares.ensures ∙ ap (λ x. declared (sta x)) same in
    let some : c.declares.result ≡ true → 1 ≤ c.loop-i.variables
    = one_open c.args.scope.variables c.args.all.now c.loop-i.i (c.loop-i.i - 1) c.loop-i.variables c.index-all-i.result c.declares.result
    small (omega (arith, c.loop-i-test.true)) c.index-all-i.is c.loop-i.invariant.0 c.declares.ensures in
    let next = written_next c.args.layout c.args.scope.variables c.loop-i.i (c.loop-i.i - 1) c.loop-i.variables c.if-declares.variables c.args.scope.break_to c.args.scope.continue_to c.args.all.now c.index-all-i-in-loop-i.result c.args.out.now c.loop-i.out c.emit_statement.new.out
    small (omega (arith, c.loop-i-test.true)) c.index-all-i-in-loop-i.is c.loop-i.invariant.0 c.loop-i.invariant.1 c.in_ok-emit_statement.ensures in
    elim c.if-declares.branch [
      | emit_statements-then-declares w ↦ next (before_declared c.loop-i.variables c.if-declares.variables (sta c.index-all-i-in-loop-i.result) c.declares.result says w.if-declares.true (some w.if-declares.true) w.variables-is)
      | emit_statements-else-declares w ↦ next (before_other c.loop-i.variables c.if-declares.variables (sta c.index-all-i-in-loop-i.result) c.declares.result says w.if-declares.false w.variables-is)
    ]

use Rattle.std.proofs.Common.{arith, ◌-◌, ◌∙◌, ap, ◌+◌}
use Rattle.compiler.proofs.BodiesOfUnits.{sets_next}
use Rattle.compiler.proofs.units.emit_sets.Goals as goal

pub loop-i-preserved : goal.loop-i-preserved
loop-i-preserved c =
    sets_next c.args.layout c.args.sets.now c.loop-i.i (c.loop-i.i - 1) c.in_ok-slot.slot _ c.args.out.now c.loop-i.out c.emit_set.new.out
    (omega (arith, c.loop-i.auto.i, c.loop-i-test.true)) (omega (arith, c.loop-i-test.true)) c.loop-i.invariant (c.in_ok-slot.ensures ∙ ap (λ k. c.args.layout.first + k) c.in_ok-small.ensures) (c.in_ok-emit_set.ensures c.args.layout)

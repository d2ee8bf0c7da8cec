use Rattle.class_chains.specs.Overriding.{find_in, own_in}
use Rattle.class_chains.proofs.Overriding.{up_one}
use Rattle.class_chains.proofs.chains.Chains.count_up.Goals as goal

pub loop-left-preserved : goal.loop-left-preserved
loop-left-preserved c =
    up_one (own_in c.args.self.now c.args.name.now) (find_in c.args.self.now) c.loop-left.left c.loop-left.at.now c.in-Some-parent.parent.now _ c.loop-left-test.true c.in_default.ensures c.in-Some-parent.ensures c.loop-left.invariant

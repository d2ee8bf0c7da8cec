use Rattle.std.proofs.Common.{◌+◌, drop, refl}
use Rattle.name_uses.specs.Undo.{meaning}
use Rattle.name_uses.proofs.Blocks.{begin_next}
use Rattle.name_uses.proofs.Lists.{cut}
use Rattle.name_uses.proofs.Meanings.{extends_none, extends_twice}
use Rattle.name_uses.proofs.stmts.begin_all.Goals as goal

pub loop-x-init : goal.loop-x-init
loop-x-init c = record { begins = refl; undo = extends_none c.args.scope.now }

pub loop-x-preserved : goal.loop-x-preserved
loop-x-preserved c =
    let all = c.args.all.now in
    let is = cut all c.loop-x.x-index c.x-item.result c.loop-x-test.true c.x-item.is in
    record {
      begins = begin_next all c.loop-x.x-index c.x-item.result (drop (c.loop-x.x-index + 1) all) (meaning c.loop-x.scope) (meaning c.begin.new.scope) _ is c.in_ok-begin.ensures.begins c.loop-x.invariant.begins;
      undo = extends_twice c.args.scope.now c.loop-x.scope c.begin.new.scope c.loop-x.invariant.undo c.in_ok-begin.ensures.undo;
    }

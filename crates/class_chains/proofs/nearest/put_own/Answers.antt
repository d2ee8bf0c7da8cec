use Rattle.std.proofs.Common.{length, refl, arith}
use Rattle.dart_syntax.specs.View.{member}
use Rattle.class_chains.specs.Descending.{counted}
use Rattle.class_chains.proofs.Descending.{own_begin, own_turn}
use Rattle.class_chains.proofs.nearest.put_own.Goals as goal

pub loop-left-init : goal.loop-left-init
loop-left-init c =
    record {
      within = omega arith;
      counts = own_begin member c.args.members.now (length c.args.members.now) (counted c.args.counts.now) refl;
    }

pub loop-left-preserved : goal.loop-left-preserved
loop-left-preserved c =
    record {
      within = omega (arith, c.loop-left.invariant.within);
      counts = own_turn member c.args.members.now c.loop-left.left c.index-members-left.result (counted c.loop-left.counts) _ (counted c.args.counts.now) c.loop-left-test.true c.loop-left.invariant.within
          c.index-members-left.is c.in_ok-put_member.ensures c.loop-left.invariant.counts;
    }

use Rattle.std.proofs.Common.{◌≡◌, ◌∙◌, length, refl, arith, bytes_eq}
use Rattle.std.specs.Map.{lookup}
use Rattle.class_chains.specs.Descending.{counted, no_count}
use Rattle.class_chains.proofs.Descending.{built_in_begin, built_in_turn}
use Rattle.class_chains.proofs.nearest.built_in_counts.Goals as goal

pub loop-left-init : goal.loop-left-init
unfolding counted
loop-left-init c =
    let none : counted c.new-counts.result ≡ no_count = λ i q. lookup (λ k. bytes_eq q k.now) (c.new-counts.ensures.empty i) in
    record {
      within = omega arith;
      counts = none ∙ built_in_begin c.args.number c.args.methods.now (length c.args.methods.now) no_count refl;
    }

pub loop-left-preserved : goal.loop-left-preserved
loop-left-preserved c =
    record {
      within = omega (arith, c.loop-left.invariant.within);
      counts = built_in_turn c.args.number c.args.methods.now c.loop-left.left c.index-methods-left.result (counted c.loop-left.counts) _ no_count c.loop-left-test.true c.loop-left.invariant.within
          c.index-methods-left.is c.in_ok-put_method.ensures c.loop-left.invariant.counts;
    }

use Rattle.std.proofs.Common.{ap, ◌∙◌, ◌+◌}
use Rattle.dart_syntax.specs.View.{member}
use Rattle.static_rules.specs.Accepted.{methods_of}
use Rattle.declaration_rules.proofs.Counting.{next_sum}
use Rattle.declaration_rules.proofs.counts.methods_of_all.Goals as goal

pub loop-m-preserved : goal.loop-m-preserved
loop-m-preserved c =
    next_sum methods_of member c.args.members.now c.loop-m.m-index c.m-item.result c.loop-m.n c.in_ok-n.n _ c.loop-m-test.true c.m-item.is
    (c.in_ok-n.ensures ∙ ap (λ k. c.loop-m.n + k) c.methods_of.ensures) c.loop-m.invariant

use Rattle.std.proofs.Common.{ap, ◌∙◌}
use Rattle.dart_syntax.specs.View.{top}
use Rattle.static_rules.specs.Places.{◌or_else◌}
use Rattle.static_rules.specs.DuplicateName.{in_top}
use Rattle.declaration_rules.proofs.Firsts.{next_in}
use Rattle.declaration_rules.proofs.tops.repeated_in_tops.Goals as goal

pub loop-t-preserved : goal.loop-t-preserved
loop-t-preserved c =
    next_in in_top top c.args.tops.now c.loop-t.t-index c.t-item.result c.loop-t.at c.earlier_of-at.result _ c.loop-t-test.true c.t-item.is
    (c.earlier_of-at.ensures ∙ ap (λ o. c.loop-t.at or_else o) c.in_ok-repeated_in_top.ensures) c.loop-t.invariant

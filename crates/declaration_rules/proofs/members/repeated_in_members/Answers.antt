use Rattle.std.proofs.Common.{ap, ◌∙◌}
use Rattle.dart_syntax.specs.View.{member}
use Rattle.static_rules.specs.Places.{◌or_else◌}
use Rattle.static_rules.specs.DuplicateName.{in_member}
use Rattle.declaration_rules.proofs.Firsts.{next_in}
use Rattle.declaration_rules.proofs.members.repeated_in_members.Goals as goal

pub loop-m-preserved : goal.loop-m-preserved
loop-m-preserved c =
    next_in in_member member c.args.members.now c.loop-m.m-index c.m-item.result c.loop-m.at c.earlier_of-at.result _ c.loop-m-test.true c.m-item.is
    (c.earlier_of-at.ensures ∙ ap (λ o. c.loop-m.at or_else o) c.in_ok-repeated_in_member.ensures) c.loop-m.invariant

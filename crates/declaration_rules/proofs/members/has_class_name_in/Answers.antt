use Rattle.std.proofs.Common.{ap, ◌∙◌}
use Rattle.dart_syntax.specs.View.{member}
use Rattle.static_rules.specs.Places.{◌or_else◌}
use Rattle.static_rules.specs.DuplicateName.{has_class_name}
use Rattle.declaration_rules.proofs.Firsts.{next_in}
use Rattle.declaration_rules.proofs.members.has_class_name_in.Goals as goal

pub loop-m-preserved : goal.loop-m-preserved
loop-m-preserved c =
    next_in (has_class_name c.args.class.now) member c.args.members.now c.loop-m.m-index c.m-item.result c.loop-m.at c.earlier_of-at.result _ c.loop-m-test.true c.m-item.is
    (c.earlier_of-at.ensures ∙ ap (λ o. c.loop-m.at or_else o) c.has_class_name.ensures) c.loop-m.invariant

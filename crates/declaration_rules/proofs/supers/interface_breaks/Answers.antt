use Rattle.std.proofs.Common.{ap, ◌∙◌}
use Rattle.static_rules.specs.Places.{◌or_else◌}
use Rattle.declaration_rules.specs.Seen.{has}
use Rattle.declaration_rules.specs.Known.{breaks_at, class_names, is_one_of}
use Rattle.declaration_rules.proofs.Firsts.{next_plain}
use Rattle.declaration_rules.proofs.supers.interface_breaks.Goals as goal

pub loop-name-preserved : goal.loop-name-preserved
loop-name-preserved c =
    next_plain (breaks_at c.args.rule (has c.args.known.now) (is_one_of (class_names c.args.built_in.now))) c.args.names.now c.loop-name.name-index c.name-item.result c.loop-name.at c.earlier_of-at.result _ c.loop-name-test.true c.name-item.is
    (c.earlier_of-at.ensures ∙ ap (λ o. c.loop-name.at or_else o) c.breaks_at.ensures) c.loop-name.invariant

use Rattle.std.proofs.Common.{ap, ◌∙◌}
use Rattle.static_rules.specs.Places.{◌or_else◌}
use Rattle.declaration_rules.specs.Seen.{has, class_of}
use Rattle.declaration_rules.specs.Known.{breaks_in, class_names, is_one_of}
use Rattle.declaration_rules.proofs.Firsts.{next_in}
use Rattle.declaration_rules.proofs.supers.first_breaks.Goals as goal

pub loop-c-preserved : goal.loop-c-preserved
loop-c-preserved c =
    next_in (breaks_in c.args.rule (has c.args.known.now) (is_one_of (class_names c.args.built_in.now))) class_of c.args.classes.now c.loop-c.c-index c.c-item.result c.loop-c.at c.earlier_of-at.result _ c.loop-c-test.true c.c-item.is
    (c.earlier_of-at.ensures ∙ ap (λ o. c.loop-c.at or_else o) c.breaks_in.ensures) c.loop-c.invariant

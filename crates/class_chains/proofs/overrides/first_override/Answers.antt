use Rattle.std.proofs.Common.{◌≡◌, ◌<◌, subst, ap, ◌∙◌, length, get_or}
use Rattle.static_rules.specs.Places.{◌or_else◌}
use Rattle.declaration_rules.specs.Seen.{class_of}
use Rattle.declaration_rules.proofs.Firsts.{next_in}
use Rattle.class_chains.specs.Overriding.{overrides_of}
use Rattle.class_chains.proofs.overrides.first_override.Goals as goal

pub loop-number-preserved : goal.loop-number-preserved
loop-number-preserved c =
    let item = c.index-all-number.result in
    next_in (overrides_of c.args.chains.now) class_of c.args.chains.now.all.items c.loop-number.number item c.loop-number.at c.earlier_of-at.result _
    (subst (λ xs. c.loop-number.number < length xs) c.all-all.ensures c.loop-number-test.true)
    (subst (λ xs. item ≡ get_or xs c.loop-number.number item) c.all-all.ensures c.index-all-number.is)
    (c.earlier_of-at.ensures ∙ ap (λ o. c.loop-number.at or_else o) c.first_in_class.ensures) c.loop-number.invariant

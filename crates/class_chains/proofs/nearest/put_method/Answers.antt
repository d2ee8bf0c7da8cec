use Rattle.std.proofs.Common.{ap, ◌∙◌}
use Rattle.class_chains.specs.Descending.{counted, put_pair}
use Rattle.class_chains.proofs.Descending.{built_in_one}
use Rattle.class_chains.proofs.nearest.put_method.Goals as goal

pub returns : goal.returns
returns c =
    c.in_ok-put_option.ensures ∙ ap (λ o. put_pair o (counted c.args.counts.now)) c.built_in_pair.ensures ∙ built_in_one c.args.number c.args.m.now (counted c.args.counts.now)

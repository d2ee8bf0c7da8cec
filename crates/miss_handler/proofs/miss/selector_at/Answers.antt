use Rattle.std.proofs.Common.{◌∙◌, ap}
use Rattle.miss_handler.proofs.Places.{selector_low}
use Rattle.miss_handler.proofs.miss.selector_at.Goals as goal

pub returns-clause-there : goal.returns-clause-there
returns-clause-there c = selector_low c.args.linked.now.program c.as_slice.result.now c.args.site.0 _ (c.as_slice.ensures ∙ ap (λ p. p.sites) c.program.ensures) c.requires

use Rattle.std.proofs.Common.{◌∙◌, ap}
use Rattle.program.specs.declared.numbered.Numbered.{Numbered}
use Rattle.site_report.proofs.Walks.{selector_in}
use Rattle.site_report.proofs.sites.push_sites.Goals as goal

pub push_site-requires-clause-selector : goal.push_site-requires-clause-selector
push_site-requires-clause-selector g c =
    selector_in c.args.linked.now.program c.as_slice-sites.result.now c.loop-number.number _ (c.as_slice-sites.ensures ∙ ap (λ (p : Numbered). p.sites) c.program.ensures) c.loop-number-test.true

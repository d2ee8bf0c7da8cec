use Rattle.meaning_laws.proofs.laws.calls_go_by_site.Goals as goal
use Rattle.meaning_laws.proofs.Selectors.{calls_go_by_site}

pub returns : goal.returns
returns c = calls_go_by_site

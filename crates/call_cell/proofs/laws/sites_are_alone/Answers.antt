use Rattle.call_cell.proofs.Calls.{sites_alone}
use Rattle.call_cell.proofs.laws.sites_are_alone.Goals as goal

pub returns : goal.returns
returns c = sites_alone

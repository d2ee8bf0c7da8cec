use Rattle.dart_meaning.proofs.laws.calls_are_at_sites.Goals as goal
use Rattle.dart_meaning.proofs.Entries.{asked_at_sites, asked_at_sites_of_tree}

pub returns : goal.returns
returns c = record { numbering = asked_at_sites; tree = asked_at_sites_of_tree }

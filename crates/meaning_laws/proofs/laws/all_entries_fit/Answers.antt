use Rattle.meaning_laws.proofs.laws.all_entries_fit.Goals as goal
use Rattle.meaning_laws.proofs.Entered.{all_entries_fit}

pub returns : goal.returns
returns c = all_entries_fit

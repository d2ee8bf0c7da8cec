use Rattle.cell_rule.proofs.Packs.{data_inj, entry_inj, check_inj}
use Rattle.cell_rule.proofs.laws.words_differ.Goals as goal

pub returns-clause-data : goal.returns-clause-data
returns-clause-data c = data_inj

pub returns-clause-target : goal.returns-clause-target
returns-clause-target c = entry_inj

pub returns-clause-check : goal.returns-clause-check
returns-clause-check c = check_inj

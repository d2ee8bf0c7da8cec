use Rattle.cell_rule.proofs.Endings.{ends}
use Rattle.cell_rule.proofs.table.CellWords.close.Goals as goal

pub returns-clause-end : goal.returns-clause-end
returns-clause-end c = let f = c.close_with.ensures.values.2 in ends _ f.0 f.1.0 _ _ f.1.1 c.requires.whole c.requires.closed c.requires.settled _ f.2

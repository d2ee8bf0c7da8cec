use Rattle.std.proofs.Common.{arith}
use Rattle.cell_rule.proofs.Views.{joins_keep}
use Rattle.cell_rule.proofs.Endings.{coheres}
use Rattle.cell_rule.proofs.table.CellWords.join.Goals as goal

pub join_seat-requires : goal.join_seat-requires
join_seat-requires c = let size = c.args.self.now.size in (c.requires.own, c.requires.other.0, c.requires.other.1, omega arith, joins_keep _ _ _ _ _ c.requires.share c.requires.closed.0 c.requires.closed.1)

pub returns-clause-coherent : goal.returns-clause-coherent
returns-clause-coherent c = let k = c.look.ensures.knows in coheres _ k.0 _ k.1

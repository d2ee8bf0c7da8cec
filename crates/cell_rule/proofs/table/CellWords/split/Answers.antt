use Rattle.std.proofs.Common.{arith}
use Rattle.cell_rule.proofs.Views.{splits_keep}
use Rattle.cell_rule.proofs.table.CellWords.split.Goals as goal

pub split_seat-requires : goal.split_seat-requires
split_seat-requires c = let size = c.args.self.now.size in (c.requires.own, omega arith, splits_keep _ _ _ c.requires.share)

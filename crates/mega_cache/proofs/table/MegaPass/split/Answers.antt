use Rattle.std.proofs.Common.{arith}
use Rattle.mega_cache.proofs.Keeps.{splits_keep}
use Rattle.mega_cache.proofs.table.MegaPass.split.Goals as goal

pub split_seat-seat-requires : goal.split_seat-seat-requires
split_seat-seat-requires c = let size = c.args.table.now.size in (c.requires.pass, omega arith, splits_keep _ _ _)

use Rattle.std.proofs.Common.{arith}
use Rattle.mega_cache.proofs.Keeps.{joins_keep}
use Rattle.mega_cache.proofs.table.MegaPass.join.Goals as goal

pub join_seat-requires : goal.join_seat-requires
join_seat-requires c = let size = c.args.table.now.size in (c.requires.pass, c.requires.other, c.args.other.bare, omega arith, joins_keep _ _ _ _ _)

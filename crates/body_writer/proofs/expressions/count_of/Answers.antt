use Rattle.std.proofs.Common.{rules, arith}
use Rattle.body_writer.proofs.Counts.{count_is}
use Rattle.body_writer.proofs.expressions.count_of.Goals as goal

pub returns : goal.returns
returns c = let e = count_is c.args.all.now in first_of (search rules, cc)

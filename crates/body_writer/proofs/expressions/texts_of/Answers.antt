use Rattle.std.proofs.Common.{rules, arith}
use Rattle.body_writer.proofs.Counts.{pieces_are}
use Rattle.body_writer.proofs.expressions.texts_of.Goals as goal

pub returns : goal.returns
returns c = let e = pieces_are c.args.all.now in first_of (search rules, cc)

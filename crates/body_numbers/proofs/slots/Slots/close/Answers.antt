use Rattle.std.proofs.Common.{rules, arith}
use Rattle.body_numbers.proofs.Opened.{close_next}
use Rattle.body_numbers.proofs.slots.Slots.close.Goals as goal

pub loop-self-preserved : goal.loop-self-preserved
loop-self-preserved c = close_next c.loop-self.self c.close_newest.new.self _ c.args.count (search rules) (search (rules, arith)) c.loop-self.invariant

use Rattle.std.proofs.Common.{rules, arith}
use Rattle.body_numbers.proofs.Lists.{body_names_done}
use Rattle.body_numbers.proofs.slots.with_body_params.Goals as goal

pub returns : goal.returns
returns c = body_names_done c.args.params.now c.loop-x.x-index c.loop-x.slots _ (search (rules, arith)) c.loop-x.invariant

use Rattle.isolate_state.proofs.Moves.{locals}
use Rattle.isolate_state.proofs.slots.local.Goals as goal

pub returns : goal.returns
returns c = locals c.args.i c.args.isolate.now (record c.args.isolate.now { values = c.push.new.self }) c.args.frame.now c.index-v.result.now c.requires.there c.index-v.ensures c.in_ok-push.ensures.items

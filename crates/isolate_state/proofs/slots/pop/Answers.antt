use Rattle.isolate_state.proofs.Moves.{pops}
use Rattle.isolate_state.proofs.slots.pop.Goals as goal

pub returns : goal.returns
returns c = pops c.args.isolate.now (record c.args.isolate.now { values = c.take_last.new.self }) c.args.frame.now c.take_last.result c.take_last.ensures.items

use Rattle.isolate_state.specs.declared.isolate.Isolate.{Isolate}
use Rattle.isolate_state.proofs.Moves.{constants}
use Rattle.isolate_state.proofs.slots.constant.Goals as goal

pub returns : goal.returns
returns c = constants c.args.k c.args.isolate.now (record c.args.isolate.now { values = c.push.new.self }) c.args.frame.now c.index-v.result.now c.requires.there c.index-v.ensures c.in_ok-push.ensures.items

use Rattle.isolate_state.proofs.Moves.{globals}
use Rattle.isolate_state.proofs.slots.global.Goals as goal

pub returns : goal.returns
returns c = globals c.args.g c.args.isolate.now (record c.args.isolate.now { values = c.push.new.self }) c.args.frame.now c.index-v.result.now c.requires.there c.index-v.ensures c.in_ok-push.ensures.items

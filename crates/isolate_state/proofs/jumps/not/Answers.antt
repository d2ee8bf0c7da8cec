use Rattle.isolate_state.proofs.Branches.{nots, not_faults}
use Rattle.isolate_state.proofs.jumps.not.Goals as goal

pub returns : goal.returns
returns c = nots c.args.isolate.now (record c.args.isolate.now { values = c.take_last.new.self }) (record c.args.isolate.now { values = c.push.new.self }) c.args.frame.now c.take_last.result c.in-Bool.b
    c.take_last.ensures.items c.in-Bool.is c.in_ok-push.ensures.items

pub returns-in_default : goal.returns-in_default
returns-in_default c = not_faults c.args.isolate.now (record c.args.isolate.now { values = c.take_last.new.self }) c.args.frame.now c.take_last.result
    c.take_last.ensures.items c.in_default.not-Bool

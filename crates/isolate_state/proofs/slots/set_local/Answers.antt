use Rattle.std.specs.Vec.{with_item}
use Rattle.std.proofs.Common.{◌+◌, refl, arith}
use Rattle.isolate_state.proofs.Moves.{sets_local}
use Rattle.isolate_state.proofs.slots.set_local.Goals as goal

pub returns : goal.returns
returns c = sets_local c.args.i c.args.isolate.now (record c.args.isolate.now { values = c.take_last-v.new.self })
    (record c.args.isolate.now { values = with_item c.take_last-v.new.self (c.args.frame.now.base + c.args.i) c.take_last-v.result }) c.args.frame.now c.take_last-v.result
    c.requires.there c.take_last-v.ensures.items refl

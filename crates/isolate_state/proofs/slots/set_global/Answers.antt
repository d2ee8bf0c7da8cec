use Rattle.std.specs.Vec.{with_item}
use Rattle.std.proofs.Common.{refl}
use Rattle.isolate_state.proofs.Moves.{sets_global}
use Rattle.isolate_state.proofs.slots.set_global.Goals as goal

pub returns : goal.returns
returns c = sets_global c.args.g c.args.isolate.now (record c.args.isolate.now { values = c.take_last-v.new.self })
    (record c.args.isolate.now { globals = with_item c.args.isolate.now.globals c.args.g c.take_last-v.result }) c.args.frame.now c.take_last-v.result
    c.requires.there c.take_last-v.ensures.items refl

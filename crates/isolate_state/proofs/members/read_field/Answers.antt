use Rattle.isolate_state.proofs.Receives.{reads}
use Rattle.isolate_state.proofs.members.read_field.Goals as goal

pub returns : goal.returns
returns c = reads c.args.k c.args.isolate.now (record c.args.isolate.now { values = c.take_last-v.new.self }) (record c.args.isolate.now { values = c.push.new.self }) c.args.frame.now
    c.take_last-v.result c.field-w.result c.take_last-v.ensures.items c.field-w.ensures.value c.field-w.ensures.of_heap c.in_ok-push.ensures.items

use Rattle.isolate_state.proofs.Things.{sets_field}
use Rattle.isolate_state.proofs.objects.set_field.Goals as goal

pub returns : goal.returns
returns c = sets_field c.args.k c.args.isolate.now (record c.args.isolate.now { values = c.take_last-w.new.self }) (record c.args.isolate.now { heap = c.set_field.new.self; values = c.take_last-v.new.self })
    c.args.frame.now c.take_last-v.result c.take_last-w.result c.take_last-w.ensures.items c.take_last-v.ensures.items c.set_field.ensures.heap c.set_field.ensures.keeps

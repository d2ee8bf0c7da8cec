use Rattle.program.specs.Program.{parts_of}
use Rattle.isolate_state.proofs.Chains.{makes}
use Rattle.isolate_state.proofs.fields.make_object.Goals as goal

pub returns : goal.returns
returns c =
    makes (parts_of c.args.program.now) c.args.c c.args.isolate.now (record c.args.isolate.now { heap = c.object.new.self; values = c.push.new.self }) c.fresh_fields.new.heap c.in_ok-fields.fields.items c.in_ok-v.v
    c.requires.open c.requires.concrete c.in_ok-fields.ensures.values c.in_ok-fields.ensures.same c.in_ok-fields.ensures.keeps
    c.in_ok-v.ensures.value c.in_ok-v.ensures.heap c.in_ok-v.ensures.of_heap c.in_ok-v.ensures.keeps c.in_ok-push.ensures.items

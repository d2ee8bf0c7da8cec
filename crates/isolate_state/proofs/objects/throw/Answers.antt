use Rattle.program.specs.Program.{parts_of}
use Rattle.isolate_state.proofs.Things.{throws_null, throws_text}
use Rattle.isolate_state.proofs.objects.throw.Goals as goal

pub returns-in-Null : goal.returns-in-Null
returns-in-Null c = throws_null (parts_of c.args.program.now) c.args.isolate.now (record c.args.isolate.now { values = c.take_last-v.new.self }) c.take_last-v.result c.take_last-v.ensures.items c.in-Null.is

pub returns : goal.returns
returns c = throws_text (parts_of c.args.program.now) c.args.isolate.now (record c.args.isolate.now { values = c.take_last-v.new.self }) c.take_last-v.result c.in_ok-thrown_text.field-0
    c.take_last-v.ensures.items c.in_default.not-Null c.in_ok-thrown_text.ensures

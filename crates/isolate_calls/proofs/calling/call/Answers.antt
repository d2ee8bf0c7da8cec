use Rattle.program.specs.Program.{parts_of}
use Rattle.isolate_calls.proofs.Does.{call_operands, can_send_call, calls_did}
use Rattle.isolate_calls.proofs.calling.call.Goals as goal

pub send-requires-clause-operands : goal.send-requires-clause-operands
send-requires-clause-operands g c =
    call_operands (parts_of c.args.linked.now.program) c.args.pool.now (g.C.Cells.answers c.args.cells.now c.args.linked.now) c.args.site c.args.isolate.now c.args.frame.now c.args.turns.now c.args.n c.requires.can

pub send-requires-clause-can : goal.send-requires-clause-can
send-requires-clause-can g c =
    can_send_call (parts_of c.args.linked.now.program) c.args.pool.now (g.C.Cells.answers c.args.cells.now c.args.linked.now) c.args.site c.args.isolate.now c.args.frame.now c.args.turns.now c.args.n c.requires.can

pub returns-clause-called : goal.returns-clause-called
returns-clause-called g c =
    calls_did (parts_of c.args.linked.now.program) c.args.pool.now (g.C.Cells.answers c.args.cells.now c.args.linked.now) c.args.site c.args.isolate.now c.args.frame.now c.args.turns.now (g.C.Cells.After c.args.cells.now) c.send.new.cells
    c.args.n c.send.new.isolate c.send.new.frame c.send.new.turns c.in_ok-flow.flow
    (call_operands (parts_of c.args.linked.now.program) c.args.pool.now (g.C.Cells.answers c.args.cells.now c.args.linked.now) c.args.site c.args.isolate.now c.args.frame.now c.args.turns.now c.args.n c.requires.can)
    c.in_ok-flow.ensures.sent

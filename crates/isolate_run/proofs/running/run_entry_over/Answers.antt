use Rattle.program.specs.Program.{parts_of}
use Rattle.isolate_run.proofs.Tells.{ran_from}
use Rattle.isolate_run.proofs.running.run_entry_over.Goals as goal

pub returns-in-Ok-clause-ran : goal.returns-in-Ok-clause-ran
returns-in-Ok-clause-ran g c =
    ran_from (parts_of c.args.linked.now.program) c.args.pool.now (g.C.Cells.answers c.args.cells.now c.args.linked.now) c.args.entry.0 c.args.turns c.ended_of.result
    c.requires.can c.in_ok-isolate.ensures.calls c.in-Ok.ensures.came c.ended_of.ensures.lines c.ended_of.ensures.ending c.ended_of.ensures.calls

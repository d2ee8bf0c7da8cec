use Rattle.miss_handler.specs.States.{checks_of}
use Rattle.miss_handler.proofs.Tests.{covers_no}
use Rattle.call_cell.proofs.cell.next_by.Goals as goal

pub next-requires-clause-uncovered : goal.next-requires-clause-uncovered
next-requires-clause-uncovered g c = covers_no c.args.cell.now.state (checks_of c.args.cell.now.row) c.args.c.0 c.requires.uncovered

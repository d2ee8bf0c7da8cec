use Rattle.std.proofs.Common.{◌-◌, ◌+◌, ◌*◌, ◌≤◌}
use Rattle.shared_cells.specs.Runs.{Running}
use Rattle.cell_rule.specs.Steps.{SameSeat}
use Rattle.shared_cells.proofs.dispatch.run.Given as goal

abbrev pub invariant-turns : goal.invariant-turns
invariant-turns g l = record {
  same : SameSeat l.fn.seat l.seat;
  running : Running g.N.Call.about g.N.Call.site g.N.Call.class l.at.head.0 l.at.head.1 l.at.newest l.at.tried g.N.Call.start l.seat.me.0;
  cost : l.steps ≤ l.fn.steps + (1 + 12 * (l.at.head.0 + l.at.newest));
}

abbrev pub decreases-turns : goal.decreases-turns
decreases-turns g l = 140000 - (l.at.head.0 + l.at.newest)

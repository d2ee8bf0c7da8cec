use Rattle.std.proofs.Common.{◌≡◌, ◌+◌, List}
use Rattle.cell_rule.specs.declared.view.Seen.{Seen}
use Rattle.cell_rule.specs.Steps.{SameSeat, Knows}
use Rattle.shared_cells.specs.Callings.{CanCall}
use Rattle.shared_cells.specs.Reading.{reads, Others}
use Rattle.shared_cells.proofs.row.seek.Given as goal

abbrev pub invariant-loop-place : goal.invariant-loop-place
invariant-loop-place g l = record {
  same : SameSeat l.fn.seat l.seat;
  reach : CanCall g.N.Call.about g.N.Call.site g.N.Call.class l.words l.seat;
  knows : Knows g.N.Call.about l.seat.me.0;
  read : (k : List Seen) × (l.seat.me.0 ≡ reads l.fn.seat.me.0 k) × Others g.N.Call.site g.N.Call.class l.place k;
  cost : l.steps ≡ l.fn.steps + l.place;
}

use Rattle.std.proofs.Common.{◌≡◌, ◌+◌}
use Rattle.cell_rule.specs.Steps.{SameSeat, Knows, OthersSeen}
use Rattle.shared_cells.specs.Callings.{CanCall}
use Rattle.shared_cells.specs.Reading.{ReadsOn}
use Rattle.shared_cells.proofs.row.take.Given as goal

abbrev pub invariant-loop-place : goal.invariant-loop-place
invariant-loop-place g l = record {
  same : SameSeat l.fn.seat l.seat;
  reach : CanCall g.N.Call.about g.N.Call.site g.N.Call.class l.words l.seat;
  knows : Knows g.N.Call.about l.seat.me.0;
  read : ReadsOn g.N.Call.site l.fn.seat.me.0 l.seat.me.0;
  before : OthersSeen g.N.Call.site l.check.class.0 l.place l.seat.me.0;
  cost : l.steps + l.from ≡ l.fn.steps + l.place;
}

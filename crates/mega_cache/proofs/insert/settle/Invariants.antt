use Rattle.std.proofs.Common.{◌+◌, ◌*◌, ◌≤◌}
use Rattle.mega_cache.specs.Finds.{SameSeat, InReach, KeepsSeen, SawOthers}
use Rattle.mega_cache.proofs.insert.settle.Given as goal

abbrev pub invariant-loop-turn : goal.invariant-loop-turn
invariant-loop-turn g l = record {
  same : SameSeat l.fn.seat l.seat;
  reach : InReach g.N.Named.about g.N.Named.selector l.table l.seat;
  later : KeepsSeen l.fn.seat.me.0 l.seat.me.0;
  before : SawOthers g.N.Named.selector l.entry.class.0 l.generation l.turn l.seat.me.0;
  cost : l.steps ≤ l.fn.steps + 2 * l.turn;
}

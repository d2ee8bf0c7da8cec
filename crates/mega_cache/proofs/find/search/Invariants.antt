use Rattle.std.proofs.Common.{◌≡◌, ◌+◌, List}
use Rattle.mega_cache.specs.declared.view.Sight.{Sight}
use Rattle.mega_cache.specs.Told.{Learnt}
use Rattle.mega_cache.specs.Finds.{SameSeat, InReach, ReadOthers, with_read}
use Rattle.mega_cache.proofs.find.search.Given as goal

abbrev pub invariant-loop-turn : goal.invariant-loop-turn
invariant-loop-turn g l = record {
  same : SameSeat l.fn.seat l.seat;
  reach : InReach g.N.Named.about g.N.Named.selector l.table l.seat;
  snap : Learnt g.N.Named.about l.seat.me.0;
  read : (k : List Sight) × (l.seat.me.0 ≡ with_read l.fn.seat.me.0 k) × ReadOthers g.N.Named.selector l.class l.generation l.turn k;
  cost : l.steps ≡ l.fn.steps + (1 + l.turn);
}

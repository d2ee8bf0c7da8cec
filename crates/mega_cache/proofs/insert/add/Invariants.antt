use Rattle.std.proofs.Common.{◌+◌, ◌-◌, ◌*◌, ◌≤◌}
use Rattle.mega_cache.specs.declared.view.Sight.TheVariants.{Root}
use Rattle.list_members.specs.Members.{Has}
use Rattle.mega_cache.specs.Finds.{SameSeat, InReach, KeepsSeen}
use Rattle.mega_cache.proofs.insert.add.Given as goal

abbrev pub invariant-generations : goal.invariant-generations
invariant-generations g l = record {
  same : SameSeat l.fn.seat l.seat;
  reach : InReach g.N.Named.about g.N.Named.selector l.table l.seat;
  later : KeepsSeen l.fn.seat.me.0 l.seat.me.0;
  root : (l.generation ≤ 7) × (l.generation ≤ g.N.Named.about.last) × Has (Root g.N.Named.selector l.generation) l.seat.me.0.seen;
  cost : l.steps ≤ l.fn.steps + (17 * l.generation + 1);
}

abbrev pub decreases-generations : goal.decreases-generations
decreases-generations g l = 8 - l.generation

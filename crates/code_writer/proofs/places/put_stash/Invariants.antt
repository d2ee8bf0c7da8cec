-- The pops from one slot on are written.
use Rattle.std.proofs.Common.{◌≡◌, ◌-◌}
use Rattle.code_writer.specs.Emitted.{put_stash}
use Rattle.code_writer.proofs.places.put_stash.Given as goal

abbrev pub invariant-loop-k : goal.invariant-loop-k
invariant-loop-k l = l.out ≡ put_stash l.layout l.k (l.count - l.k) l.initial.out

-- The pushes of the first slots are written.
use Rattle.std.proofs.Common.{◌≡◌}
use Rattle.code_writer.specs.Emitted.{put_fetch}
use Rattle.code_writer.proofs.places.put_fetch.Given as goal

abbrev pub invariant-loop-k : goal.invariant-loop-k
invariant-loop-k l = l.out ≡ put_fetch l.layout l.k l.initial.out

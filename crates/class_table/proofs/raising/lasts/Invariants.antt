use Rattle.std.proofs.Common.{◌≤◌, length}
use Rattle.class_table.specs.Lasts.{AreRaised}
use Rattle.class_table.proofs.raising.lasts.Given as goal

abbrev pub invariant-loop-k : goal.invariant-loop-k
invariant-loop-k l = record { within : l.k ≤ length l.parents; raised : AreRaised l.parents l.k l.last.items }

abbrev pub decreases-loop-k : goal.decreases-loop-k
decreases-loop-k l = l.k

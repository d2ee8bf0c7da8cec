use Rattle.std.proofs.Common.{◌≡◌, ◌≤◌, length, drop}
use Rattle.class_chains.specs.Descending.{counted, built_in_or, no_count}
use Rattle.class_chains.proofs.nearest.built_in_counts.Given as goal

abbrev pub invariant-loop-left : goal.invariant-loop-left
invariant-loop-left l =
    record {
      within : l.left ≤ length l.methods;
      counts : counted l.counts ≡ built_in_or l.number (drop l.left l.methods) no_count;
    }

abbrev pub decreases-loop-left : goal.decreases-loop-left
decreases-loop-left l = l.left

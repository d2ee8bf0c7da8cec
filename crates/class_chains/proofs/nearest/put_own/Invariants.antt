use Rattle.std.proofs.Common.{◌≡◌, ◌≤◌, length, drop, map}
use Rattle.dart_syntax.specs.View.{member}
use Rattle.class_chains.specs.Descending.{counted, own_or}
use Rattle.class_chains.proofs.nearest.put_own.Given as goal

abbrev pub invariant-loop-left : goal.invariant-loop-left
invariant-loop-left l =
    record {
      within : l.left ≤ length l.members;
      counts : counted l.counts ≡ own_or (map member (drop l.left l.members)) (counted l.fn.counts);
    }

abbrev pub decreases-loop-left : goal.decreases-loop-left
decreases-loop-left l = l.left

use Rattle.std.proofs.Common.{◌≡◌, ◌+◌}
use Rattle.tree_numbers.specs.ClassFacts.{knows}
use Rattle.tree_numbers.specs.Walks.{fields_up}
use Rattle.tree_numbers.proofs.walks.fields_up.Given as goal

abbrev pub invariant-loop-left : goal.invariant-loop-left
invariant-loop-left l = fields_up l.left (knows l.known) l.at + l.count ≡ fields_up l.levels (knows l.known) l.class

abbrev pub decreases-loop-left : goal.decreases-loop-left
decreases-loop-left l = l.left

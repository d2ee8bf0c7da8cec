use Rattle.std.proofs.Common.{◌≡◌}
use Rattle.tree_numbers.specs.ClassFacts.{knows}
use Rattle.tree_numbers.specs.Order.{above_in}
use Rattle.tree_numbers.specs.Walks.{owns_by, owner_up}
use Rattle.tree_numbers.proofs.walks.owner_up.Given as goal

abbrev pub invariant-loop-left : goal.invariant-loop-left
invariant-loop-left l =
    let passes = owns_by l.built_in (knows l.known) l.kind l.name in
    owner_up l.left passes (above_in (knows l.known)) l.at ≡ owner_up l.levels passes (above_in (knows l.known)) l.class

abbrev pub decreases-loop-left : goal.decreases-loop-left
decreases-loop-left l = l.left

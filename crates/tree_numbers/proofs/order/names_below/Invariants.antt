use Rattle.std.proofs.Common.{◌≡◌, drop, map}
use Rattle.tree_numbers.specs.Parts.{class_of}
use Rattle.tree_numbers.specs.ClassFacts.{knows}
use Rattle.tree_numbers.specs.Order.{above_in, below_in, no_children, also_below}
use Rattle.tree_numbers.proofs.order.names_below.Given as goal

abbrev pub invariant-loop-c : goal.invariant-loop-c
invariant-loop-c l = also_below (above_in (knows l.known)) (map class_of (drop l.c-index l.classes)) (below_in l.below) ≡ also_below (above_in (knows l.known)) (map class_of l.classes) no_children

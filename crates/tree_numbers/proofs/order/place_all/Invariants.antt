use Rattle.std.proofs.Common.{◌≡◌, ◌++◌, ◌+◌, ◌*◌, suc, length}
use Rattle.std.specs.Prelude.{flat_map}
use Rattle.tree_numbers.specs.Parts.{texts}
use Rattle.tree_numbers.specs.Order.{below_in, ordered, todo}
use Rattle.tree_numbers.proofs.order.place_all.Given as goal

abbrev pub invariant-loop-first : goal.invariant-loop-first
invariant-loop-first l = texts l.order.items ++ todo (below_in l.below) l.waiting.items ≡ texts l.fn.order.items ++ flat_map (ordered (suc l.levels) (below_in l.below)) (texts l.names)

-- each step places a class, or takes off one that waits with no names
abbrev pub decreases-loop-first : goal.decreases-loop-first
decreases-loop-first l = 2 * length (todo (below_in l.below) l.waiting.items) + length l.waiting.items

use Rattle.std.proofs.Common.{rules, arith, ◌∙◌, ap, ◌-◌}
use Rattle.tree_numbers.specs.Order.{todo}
use Rattle.tree_numbers.proofs.Preorder.{placed, nothing_placed}
use Rattle.tree_numbers.proofs.order.place_below.Goals as goal

pub returns-in_ok-push-clause-below : goal.returns-in_ok-push-clause-below
returns-in_ok-push-clause-below c = λ below. ap (todo below) c.in_ok-push.ensures.items ∙ placed below c.args.waiting.now.items (record { levels = c.args.levels - 1; names = c.as_slice.result }) c.args.levels _ (grind (arith, c.if-levels-gt0.true)) (search rules)

pub returns-else-levels-gt0-clause-below : goal.returns-else-levels-gt0-clause-below
returns-else-levels-gt0-clause-below c = λ below. nothing_placed below c.args.levels _ _ (grind (arith, c.if-levels-gt0.false))

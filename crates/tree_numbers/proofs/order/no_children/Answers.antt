use Rattle.std.proofs.Common.{bytes_eq}
use Rattle.std.specs.Map.{lookup}
use Rattle.tree_numbers.specs.Order.{below_in, names_in}
use Rattle.tree_numbers.specs.Maps.{in_map}
use Rattle.tree_numbers.proofs.order.no_children.Goals as goal

pub returns : goal.returns
unfolding below_in in_map
returns c = λ i q. names_in (lookup (λ k. bytes_eq q k.now) (c.new.ensures.empty i))

use Rattle.std.proofs.Common.{bytes_eq}
use Rattle.std.specs.Map.{lookup}
use Rattle.tree_numbers.specs.Maps.{in_map}
use Rattle.tree_numbers.proofs.known.nothing_known.Goals as goal

pub returns : goal.returns
unfolding in_map
returns g c = λ i q. lookup (λ k. bytes_eq q k.now) (c.new.ensures.empty i)

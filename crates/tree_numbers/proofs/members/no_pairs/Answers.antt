use Rattle.std.proofs.Common.{bytes_eq, ◌&&◌}
use Rattle.std.specs.Map.{lookup}
use Rattle.tree_numbers.specs.Members.{in_pairs}
use Rattle.tree_numbers.proofs.members.no_pairs.Goals as goal

pub returns : goal.returns
unfolding in_pairs
returns c = λ i p q. lookup (λ k. bytes_eq p k.0.now && bytes_eq q k.1.now) (c.new.ensures.empty i)

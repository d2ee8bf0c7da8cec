use Rattle.std.proofs.Common.{bytes_eq, rules}
use Rattle.std.specs.Map.{lookup}
use Rattle.body_numbers.specs.Maps.{in_map}
use Rattle.body_numbers.proofs.Opened.{kept_none}
use Rattle.body_numbers.proofs.slots.Slots.new.Goals as goal

pub invariant_of-result : goal.invariant_of-result
unfolding in_map
invariant_of-result c = kept_none c.new.result c.new-2.result.items (λ i q. lookup (λ k. bytes_eq q k.now) (c.new.ensures.empty i)) (search rules)

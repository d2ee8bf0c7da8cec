use Rattle.std.proofs.Common.{bytes_eq}
use Rattle.std.specs.Map.{lookup}
use Rattle.name_uses.specs.Undo.{in_map}
use Rattle.name_uses.proofs.scope.Scope.new.Goals as goal

pub returns-clause-nothing : goal.returns-clause-nothing
unfolding in_map
returns-clause-nothing g c = λ i q. lookup (λ k. bytes_eq q k.now) (c.new.ensures.empty i)

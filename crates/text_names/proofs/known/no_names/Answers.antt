use Rattle.std.proofs.Common.{bytes_eq}
use Rattle.std.specs.List.{list_any}
use Rattle.text_names.specs.Maps.{in_set}
use Rattle.text_names.proofs.known.no_names.Goals as goal

pub returns : goal.returns
unfolding in_set
returns c = λ i q. list_any (λ k. bytes_eq q k.now) (c.new.ensures.empty i)

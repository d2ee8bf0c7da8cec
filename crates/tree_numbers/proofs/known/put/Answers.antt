use Rattle.std.proofs.Common.{◌∙◌, bytes_eq}
use Rattle.tree_numbers.specs.Maps.{in_set}
use Rattle.tree_numbers.proofs.Maps.{cond_or}
use Rattle.tree_numbers.proofs.known.put.Goals as goal

pub returns : goal.returns
unfolding in_set
returns c = λ i q. (c.in_ok-insert.ensures.updates.0 (record { ref_ptr = c.args.name.ref_ptr; now = q }) ∙ cond_or (bytes_eq c.args.name.now q) (in_set c.args.set.now q)) i

use Rattle.std.proofs.Common.{◌∙◌, bytes_eq}
use Rattle.text_names.specs.Maps.{in_set}
use Rattle.text_names.proofs.Maps.{cond_or}
use Rattle.text_names.proofs.known.put.Goals as goal

pub returns : goal.returns
unfolding in_set
returns c = λ i q. (c.in_ok-insert.ensures.updates.0 (record { ref_ptr = c.args.name.ref_ptr; now = q }) ∙ cond_or (bytes_eq c.args.name.now q) (in_set c.args.set.now q)) i

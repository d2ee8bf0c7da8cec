use Rattle.std.proofs.Common.{ap, ◌∙◌, sym}
use Rattle.class_chains.specs.Descending.{counted, with_count}
use Rattle.class_chains.proofs.nearest.put.Goals as goal

pub returns-in_ok-insert-in-Some : goal.returns-in_ok-insert-in-Some
unfolding counted
returns-in_ok-insert-in-Some c = (λ i q. c.in_ok-insert-in-Some.ensures.updates.0 (record { ref_ptr = c.args.name.ref_ptr; now = q }) i) ∙ sym (ap (λ v. with_count c.args.name.now v (counted c.args.counts.now)) c.in-Some.is)

pub returns-in-None : goal.returns-in-None
unfolding counted
returns-in-None c = (λ i q. c.remove.ensures.updates.0 (record { ref_ptr = c.args.name.ref_ptr; now = q }) i) ∙ sym (ap (λ v. with_count c.args.name.now v (counted c.args.counts.now)) c.in-None.is)

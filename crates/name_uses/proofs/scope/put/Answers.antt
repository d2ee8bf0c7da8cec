use Rattle.std.proofs.Common.{ap, ◌∙◌, sym}
use Rattle.name_uses.specs.Undo.{in_map, with_meaning}
use Rattle.name_uses.proofs.scope.put.Goals as goal

pub returns-in_ok-insert-in-Some : goal.returns-in_ok-insert-in-Some
unfolding in_map
returns-in_ok-insert-in-Some g c = (λ i q. c.in_ok-insert-in-Some.ensures.updates.0 (record { ref_ptr = c.args.name.ref_ptr; now = q }) i) ∙ sym (ap (λ v. with_meaning c.args.name.now v (in_map c.args.known.now)) c.in-Some.is)

pub returns-in-None : goal.returns-in-None
unfolding in_map
returns-in-None g c = (λ i q. c.remove.ensures.updates.0 (record { ref_ptr = c.args.name.ref_ptr; now = q }) i) ∙ sym (ap (λ v. with_meaning c.args.name.now v (in_map c.args.known.now)) c.in-None.is)

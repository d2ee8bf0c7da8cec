use Rattle.std.proofs.Common.{◌≡◌, ap, ◌∙◌, sym, bytes_eq, rules}
use Rattle.std.specs.Map.{lookup}
use Rattle.body_numbers.specs.Maps.{in_map, with_meaning}
use Rattle.body_numbers.proofs.slots.put.Goals as goal

pub returns-in_err-insert-in-Some-clause-err : goal.returns-in_err-insert-in-Some-clause-err
unfolding in_map
returns-in_err-insert-in-Some-clause-err c =
    let e : in_map c.insert.new.self ≡ in_map c.args.known.now = λ i q. lookup (λ k. bytes_eq q k.now) (c.in_err-insert-in-Some.ensures.err i) in
    search rules

pub returns-in_ok-insert-in-Some-clause-put : goal.returns-in_ok-insert-in-Some-clause-put
unfolding in_map
returns-in_ok-insert-in-Some-clause-put c = (λ i q. c.in_ok-insert-in-Some.ensures.updates.0 (record { ref_ptr = c.args.name.ref_ptr; now = q }) i) ∙ sym (ap (λ v. with_meaning c.args.name.now v (in_map c.args.known.now)) c.in-Some.is)

pub returns-in-None-clause-put : goal.returns-in-None-clause-put
unfolding in_map
returns-in-None-clause-put c = (λ i q. c.remove.ensures.updates.0 (record { ref_ptr = c.args.name.ref_ptr; now = q }) i) ∙ sym (ap (λ v. with_meaning c.args.name.now v (in_map c.args.known.now)) c.in-None.is)

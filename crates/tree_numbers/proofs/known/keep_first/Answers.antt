use Rattle.std.proofs.Common.{◌∙◌, sym}
use Rattle.tree_numbers.specs.Maps.{in_map}
use Rattle.tree_numbers.proofs.Maps.{stays_known, comes_new}
use Rattle.tree_numbers.proofs.known.keep_first.Goals as goal

pub returns-then-contains_key : goal.returns-then-contains_key
unfolding in_map
returns-then-contains_key g c = stays_known (in_map c.args.known.now) c.args.name.now c.args.value (sym c.contains_key.ensures ∙ c.if-contains_key.true)

pub returns : goal.returns
unfolding in_map
returns g c = comes_new (in_map c.args.known.now) _ c.args.name.now c.args.value (sym c.contains_key.ensures ∙ c.if-contains_key.false) (λ q. c.in_ok-insert.ensures.updates.0 (record { ref_ptr = c.args.name.ref_ptr; now = q }))

use Rattle.std.proofs.Common.{◌≡◌, ◌∙◌, ap, rules}
use Rattle.body_numbers.specs.Maps.{in_map}
use Rattle.body_numbers.specs.Open.{slots}
use Rattle.body_numbers.proofs.slots.Slots.look.Goals as goal

pub returns : goal.returns
unfolding in_map
returns c =
    let e : in_map c.self.inside.known c.args.name.now ≡ slots c.args.self.now c.args.name.now = (λ i. c.self.invariant.agrees i c.args.name.now) ∙ ap (λ ns. slots ns c.args.name.now) c.self.view_is in
    search rules

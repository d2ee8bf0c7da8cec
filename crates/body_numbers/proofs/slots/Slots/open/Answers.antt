use Rattle.std.proofs.Common.{rules, arith}
use Rattle.body_numbers.specs.Maps.{in_map}
use Rattle.body_numbers.proofs.Opened.{kept_open}
use Rattle.body_numbers.proofs.slots.Slots.open.Goals as goal

pub invariant_of-self-in-Ok : goal.invariant_of-self-in-Ok
unfolding in_map
invariant_of-self-in-Ok c = kept_open c.self.inside.known c.put.new.known c.self.inside.stack.items c.push.new.self.items _ c.in_ok-slot.slot c.in_ok-push.ensures.items c.self.invariant (search rules) (search (rules, arith)) (search rules)

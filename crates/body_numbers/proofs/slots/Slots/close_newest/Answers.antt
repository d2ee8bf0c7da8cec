use Rattle.std.proofs.Common.{rules, vec_len}
use Rattle.body_numbers.proofs.Opened.{kept_pop}
use Rattle.body_numbers.proofs.slots.Slots.close_newest.Goals as goal

pub invariant_of-self-in-Some : goal.invariant_of-self-in-Some
invariant_of-self-in-Some c = kept_pop c.self.inside.known c.put.new.known c.self.inside.stack.items c.in-Some._rest.now c.pop.new.self.items c.in-Some.newest.now (vec_len c.self.inside.stack) c.self.invariant (search rules) c.self.inside.stack.ok.0 c.pop.ensures.rest (search rules)

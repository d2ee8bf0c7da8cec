use Rattle.std.proofs.Common.{◌∙◌, arith}
use Rattle.shared_cells.proofs.Names.{concrete_call}
use Rattle.shared_cells.proofs.Turns.{stays_settled}
use Rattle.shared_cells.proofs.table.Pass.dispatch.Goals as goal

pub run-requires-clause-reach : goal.run-requires-clause-reach
run-requires-clause-reach g c = (c.requires.own, c.args.self.now.some_share, c.requires.site, concrete_call c.args.linked.now c.args.site.0 c.args.class.0 c.requires.concrete)

pub invariant_of-self : goal.invariant_of-self
invariant_of-self g c = let d = c.run.ensures.answered in let share = d.after.share in let some_share = c.args.self.now.some_share in record {
  no_slots = c.run.ensures.same.2 ∙ c.args.self.now.no_slots;
  closed = d.closed;
  some_share = omega arith;
  settled = stays_settled _ _ _ _ d.after c.args.self.now.settled d.level;
}

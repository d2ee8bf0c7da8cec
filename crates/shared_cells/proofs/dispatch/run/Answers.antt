use Rattle.std.proofs.Common.{arith}
use Rattle.shared_cells.proofs.Turns.{running_small}
use Rattle.shared_cells.proofs.dispatch.run.Goals as goal

pub returns-in-Ok-clause-cost : goal.returns-in-Ok-clause-cost
returns-in-Ok-clause-cost g c = let a = running_small _ _ _ _ _ _ _ _ _ c.turns.invariant.running in let b = c.turns.invariant.cost in let d = c.in-Ok.ensures.cost in omega arith

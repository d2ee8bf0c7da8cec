use Rattle.std.proofs.Common.{◌*◌, ◌-◌}
use Rattle.job_deal.specs.Passes.{IsPassOf}
use Rattle.job_deal.proofs.tests.+draw_beside+fn-draw_beside-join+arg2+fn-draw_beside-join+arg3.Given as goal

-- a closure stands between two calls, so each call counts two
abbrev pub decreases-draw_beside : goal.decreases-draw_beside
decreases-draw_beside g l = 2 * l.threads

abbrev pub decreases-join+arg2 : goal.decreases-join+arg2
decreases-join+arg2 g l = 2 * l.threads - 1

abbrev pub decreases-join+arg3 : goal.decreases-join+arg3
decreases-join+arg3 g l = 2 * l.threads - 1

abbrev pub invariant-loop-job : goal.invariant-loop-job
invariant-loop-job g l = IsPassOf l.table l.pass

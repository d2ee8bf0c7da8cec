use Rattle.job_deal.specs.Passes.{IsPassOf}
use Rattle.job_deal.proofs.tests.draw_all.Given as goal

abbrev pub invariant-loop : goal.invariant-loop
invariant-loop l = IsPassOf l.table l.pass

use Rattle.std.proofs.Common.{rules, arith}
use Rattle.job_deal.proofs.Places.{first_fits, putting_next}
use Rattle.job_deal.proofs.collecting.put_part.Goals as goal

pub index_mut-requires : goal.index_mut-requires
index_mut-requires g c =
    let fits = first_fits _ _ (c.in-Some.job, c.in-Some.result) _ _ c.loop-job.invariant c.in-Some.ensures.steps.0 in let long = c.loop-job.places.ok.0 in omega arith

pub loop-job-preserved-in-Some : goal.loop-job-preserved-in-Some
loop-job-preserved-in-Some g c = putting_next _ _ (c.in-Some.job, c.in-Some.result) _ _ c.loop-job.invariant (search rules)

pub loop-job-preserved : goal.loop-job-preserved
loop-job-preserved g c = putting_next _ _ (c.in-Some.job, c.in-Some.result) _ _ c.loop-job.invariant (search rules)

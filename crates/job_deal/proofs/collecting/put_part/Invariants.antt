use Rattle.job_deal.specs.Results.{put_all}
use Rattle.job_deal.proofs.Places.{Putting}
use Rattle.job_deal.proofs.collecting.put_part.Given as goal

abbrev pub invariant-loop-job : goal.invariant-loop-job
invariant-loop-job g l = Putting l.places.items l.job-iterator.rest.items (put_all l.fn.places.items l.fn.part.items)

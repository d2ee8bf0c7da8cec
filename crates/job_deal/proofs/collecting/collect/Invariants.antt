use Rattle.std.proofs.Common.{None, replicate}
use Rattle.job_deal.specs.Results.{put_all, results_in}
use Rattle.job_deal.proofs.Places.{Putting}
use Rattle.job_deal.proofs.collecting.collect.Given as goal

abbrev pub invariant-loop-part : goal.invariant-loop-part
invariant-loop-part g l = Putting l.places.items (results_in l.part-iterator.rest.items) (put_all (replicate l.fn.jobs None) (results_in l.fn.parts.items))

use Rattle.job_deal.proofs.Places.{Filling}
use Rattle.job_deal.proofs.collecting.filled.Given as goal

abbrev pub invariant-loop-place : goal.invariant-loop-place
invariant-loop-place g l = Filling l.items.items l.place-iterator.rest.items l.fn.places.items

use Rattle.std.proofs.Common.{rules}
use Rattle.job_deal.proofs.Places.{filling_next}
use Rattle.job_deal.proofs.collecting.filled.Goals as goal

pub loop-place-preserved : goal.loop-place-preserved
loop-place-preserved g c = filling_next _ _ _ _ _ _ _ c.loop-place.invariant (search rules) c.unwrap.ensures (search rules)

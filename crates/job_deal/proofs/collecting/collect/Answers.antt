use Rattle.std.proofs.Common.{ap, sym, ◌∙◌}
use Rattle.std.proofs.lemmas.List.{nil_from_length}
use Rattle.job_deal.specs.Results.{results_in}
use Rattle.job_deal.proofs.Places.{begins, part_fits, part_next, all_put, each_filled, in_place}
use Rattle.job_deal.proofs.collecting.collect.Goals as goal

pub loop-part-init : goal.loop-part-init
loop-part-init g c = begins _ _ _ (results_in c.args.parts.items) c.requires c.in_ok-places.ensures (ap results_in c.into_iter-part-iterator.ensures.into_iter_gives.0)

pub put_part-requires : goal.put_part-requires
put_part-requires g c = part_fits _ _ _ _ _ c.loop-part.invariant (ap results_in c.in-Some.ensures.steps.0)

pub loop-part-preserved : goal.loop-part-preserved
loop-part-preserved g c = part_next _ _ _ _ _ _ c.loop-part.invariant (ap results_in c.in-Some.ensures.steps.0) c.put_part.ensures

pub filled-requires : goal.filled-requires
filled-requires g c =
    let none_left = nil_from_length c.loop-part.part-iterator.rest.items (sym c.loop-part.part-iterator.rest.ok.0 ∙ c.in-None.ensures.steps.0) in
    each_filled c.args.jobs (results_in c.args.parts.items) _ c.requires (all_put _ _ _ c.loop-part.invariant (ap results_in none_left))

pub returns : goal.returns
returns g c =
    let none_left = nil_from_length c.loop-part.part-iterator.rest.items (sym c.loop-part.part-iterator.rest.ok.0 ∙ c.in-None.ensures.steps.0) in
    in_place _ _ _ (c.in_ok-filled.ensures ∙ all_put _ _ _ c.loop-part.invariant (ap results_in none_left))

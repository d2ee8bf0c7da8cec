use Rattle.std.proofs.Common.{rules}
use Rattle.job_deal.proofs.Deals.{joins_keep, looks_keep}
use Rattle.job_deal.proofs.Tells.{tells}
use Rattle.job_deal.proofs.passes.JobPass.join.Goals as goal

pub join_seat-requires : goal.join_seat-requires
join_seat-requires c = (c.requires.own, c.requires.other, search rules, search rules, joins_keep _ _ _ _ (search rules))

pub load-requires : goal.load-requires
load-requires c = (search rules, search rules, looks_keep _ _ _)

pub returns-clause-whole : goal.returns-clause-whole
returns-clause-whole c = λ all few. tells _ _ (search rules)

use Rattle.std.proofs.Common.{rules}
use Rattle.job_deal.proofs.Deals.{draws_keep}
use Rattle.job_deal.proofs.Tells.{tells}
use Rattle.job_deal.proofs.passes.JobTable.deal.Goals as goal

pub fetch_add-drawn-requires : goal.fetch_add-drawn-requires
fetch_add-drawn-requires c = (search rules, search rules, draws_keep _ _ _ (search rules))

pub returns-then-drawn-self-clause-whole : goal.returns-then-drawn-self-clause-whole
returns-then-drawn-self-clause-whole c = λ all few. tells _ _ (search rules)

pub returns-else-drawn-self-clause-whole : goal.returns-else-drawn-self-clause-whole
returns-else-drawn-self-clause-whole c = λ all few. tells _ _ (search rules)

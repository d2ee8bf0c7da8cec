use Rattle.std.proofs.Common.{rules}
use Rattle.job_deal.proofs.Deals.{splits_keep}
use Rattle.job_deal.proofs.passes.JobPass.split.Goals as goal

pub split_seat-seat-requires : goal.split_seat-seat-requires
split_seat-seat-requires c = (search rules, search rules, splits_keep _ _ c.requires.share)

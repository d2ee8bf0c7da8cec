use Rattle.site_report.proofs.Walks.{counts_small}
use Rattle.site_report.proofs.texts.load_text.Goals as goal

pub count_of-requires-clause-small : goal.count_of-requires-clause-small
count_of-requires-clause-small c = counts_small c.args.linked.now.program c.args.ended.now c.requires.counted

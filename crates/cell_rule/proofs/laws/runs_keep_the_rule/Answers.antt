use Rattle.cell_rule.proofs.Running.{steps_keep, runs_keep, runs_from_start}
use Rattle.cell_rule.proofs.laws.runs_keep_the_rule.Goals as goal

pub returns-clause-step : goal.returns-clause-step
returns-clause-step c = steps_keep

pub returns-clause-run : goal.returns-clause-run
returns-clause-run c = runs_keep

pub returns-clause-start : goal.returns-clause-start
returns-clause-start c = runs_from_start

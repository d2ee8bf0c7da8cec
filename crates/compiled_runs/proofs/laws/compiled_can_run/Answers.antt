use Rattle.compiled_runs.proofs.Able.{compiled_can_run}
use Rattle.compiled_runs.proofs.laws.compiled_can_run.Goals as goal

pub returns : goal.returns
returns c = compiled_can_run

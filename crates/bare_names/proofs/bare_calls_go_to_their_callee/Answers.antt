use Rattle.bare_names.proofs.TopNames.{calls_its_callee}
use Rattle.bare_names.proofs.bare_calls_go_to_their_callee.Goals as goal

pub returns : goal.returns
returns c = calls_its_callee

use Rattle.code_meaning.proofs.laws.code_means_program.Goals as goal
use Rattle.code_meaning.proofs.Whole.{code_means_program}

pub returns : goal.returns
returns c = record { same = code_means_program }

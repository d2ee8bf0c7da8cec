use Rattle.program_code.proofs.laws.expressions_have_their_sizes.Goals as goal
use Rattle.program_code.proofs.Lengths.{code_length}

pub returns : goal.returns
returns c = record { law = code_length }

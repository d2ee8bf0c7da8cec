use Rattle.program_code.proofs.laws.statements_have_their_sizes.Goals as goal
use Rattle.program_code.proofs.Lengths.{sta_length}

pub returns : goal.returns
returns c = record { law = sta_length }

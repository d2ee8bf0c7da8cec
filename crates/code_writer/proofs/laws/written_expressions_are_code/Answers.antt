use Rattle.code_writer.proofs.laws.written_expressions_are_code.Goals as goal
use Rattle.code_writer.proofs.Writing.{written_exp}

pub returns : goal.returns
returns c = record { law = written_exp }

use Rattle.bare_names.proofs.Parameters.{begin_with_parameters, lose_their_names}
use Rattle.bare_names.proofs.bodies_begin_with_their_parameters.Goals as goal

pub returns : goal.returns
returns c = record { entered = begin_with_parameters; constructed = lose_their_names }

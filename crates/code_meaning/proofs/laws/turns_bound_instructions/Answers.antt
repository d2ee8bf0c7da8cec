use Rattle.code_meaning.proofs.laws.turns_bound_instructions.Goals as goal
use Rattle.code_meaning.proofs.Whole.{each_turn_pays_for_one_unit, each_turn_pays_for_nodes, asks_are_counted}

pub returns : goal.returns
returns c = record { units = each_turn_pays_for_one_unit; nodes = each_turn_pays_for_nodes; asks = asks_are_counted }

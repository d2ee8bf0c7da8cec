-- No place, operand or slot is lacking over sound units.
use Rattle.code_pool.proofs.Parts.{has_its_parts}
use Rattle.code_pool.proofs.laws.sound_units_have_their_parts.Goals as goal

pub returns : goal.returns
returns c = record { law = has_its_parts }

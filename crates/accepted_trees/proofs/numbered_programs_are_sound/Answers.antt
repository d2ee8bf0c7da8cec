use Rattle.accepted_trees.proofs.Whole.{sound_program}
use Rattle.accepted_trees.proofs.numbered_programs_are_sound.Goals as goal

pub returns : goal.returns
returns c = sound_program

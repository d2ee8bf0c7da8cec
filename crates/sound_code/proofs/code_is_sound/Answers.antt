use Rattle.sound_code.proofs.Whole.{code_is_sound as proof}
use Rattle.sound_code.proofs.code_is_sound.Goals as goal

pub returns : goal.returns
returns c = proof

use Rattle.bare_names.proofs.Trees.{names_agree}
use Rattle.bare_names.proofs.bare_names_mean_what_the_text_says.Goals as goal

pub returns : goal.returns
returns c = names_agree

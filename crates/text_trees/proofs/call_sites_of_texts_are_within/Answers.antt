use Rattle.text_trees.proofs.Whole.{are_within}
use Rattle.text_trees.proofs.call_sites_of_texts_are_within.Goals as goal

pub returns : goal.returns
returns c = are_within

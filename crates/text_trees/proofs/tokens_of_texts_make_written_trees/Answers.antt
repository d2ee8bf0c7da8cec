use Rattle.text_trees.proofs.Whole.{are_written}
use Rattle.text_trees.proofs.tokens_of_texts_make_written_trees.Goals as goal

pub returns : goal.returns
returns c = are_written

use Rattle.dart_parser.proofs.Tops.{unit_sound, only_tree, no_tree}
use Rattle.dart_parser.proofs.parse.Goals as goal

pub returns-in-Ok-clause-tree : goal.returns-in-Ok-clause-tree
returns-in-Ok-clause-tree c = unit_sound c.args.list.now (rw c.new.ensures at c.in-Ok.ensures)

pub returns-in-Ok-clause-only : goal.returns-in-Ok-clause-only
returns-in-Ok-clause-only c = only_tree c.args.list.now c.whole_unit.new.tokens c.in-Ok.tops (rw c.new.ensures at c.in-Ok.ensures)

pub returns-in-Err-clause-only : goal.returns-in-Err-clause-only
returns-in-Err-clause-only c t d = c.placed.ensures.1 (no_tree c.args.list.now c.in-Err.refusal (rw c.new.ensures at c.in-Err.ensures) t d)

use Rattle.std.proofs.Common.{◌+◌, length, min, ◌∙◌, ap}
use Rattle.class_table.specs.Table.{Table}
use Rattle.miss_handler.proofs.Places.{count_is}
use Rattle.miss_handler.proofs.miss.end_of.Goals as goal

pub returns : goal.returns
returns c = c.min.ensures ∙ ap (min (c.args.hi.0 + 1)) (c.count.ensures ∙ ap (λ (t : Table). length t.parents) c.classes.ensures ∙ count_is c.args.linked.now.program.classes)

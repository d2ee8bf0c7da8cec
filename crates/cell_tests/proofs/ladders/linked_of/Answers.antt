use Rattle.std.proofs.Common.{sym, subst}
use Rattle.small_program.specs.Small.{IsSmall}
use Rattle.cell_tests.proofs.LadderFacts.{ladder_is_small}
use Rattle.cell_tests.proofs.ladders.linked_of.Goals as goal

pub number-requires : goal.number-requires
number-requires c = subst IsSmall (sym c.in_ok-small.ensures) (ladder_is_small c.args.count c.requires)

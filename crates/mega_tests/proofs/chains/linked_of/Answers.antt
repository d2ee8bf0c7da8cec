use Rattle.std.proofs.Common.{sym, subst}
use Rattle.small_program.specs.Small.{IsSmall}
use Rattle.mega_tests.proofs.ChainFacts.{chain_is_small}
use Rattle.mega_tests.proofs.chains.linked_of.Goals as goal

pub number-requires : goal.number-requires
number-requires c = subst IsSmall (sym c.in_ok-small.ensures) (chain_is_small c.args.count c.requires)

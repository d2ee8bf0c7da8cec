use Rattle.class_chains.specs.Ranking.{rank_in}
use Rattle.declaration_rules.specs.Finding.{found_in}
use Rattle.class_chains.proofs.Falling.{told_by}
use Rattle.class_chains.proofs.cycles.hierarchy_of.Goals as goal

pub returns-clause-tells : goal.returns-clause-tells
returns-clause-tells c =
    told_by c.args.classes.now (rank_in c.in_ok-ranks.ranks) (found_in c.in_ok-known.known) c.in_ok-most.most c.tells-tells.result c.in_ok-known.ensures c.tells-tells.ensures

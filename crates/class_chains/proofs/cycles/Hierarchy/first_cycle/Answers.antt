use Rattle.class_chains.specs.Ranking.{cycle_at}
use Rattle.declaration_rules.specs.Finding.{found_in}
use Rattle.declaration_rules.specs.Seen.{class_of}
use Rattle.declaration_rules.proofs.Firsts.{next_in}
use Rattle.class_chains.proofs.cycles.Hierarchy.first_cycle.Goals as goal

pub loop-c-preserved : goal.loop-c-preserved
loop-c-preserved c =
    next_in (cycle_at c.args.self.now.most (found_in c.args.self.now.known)) class_of c.args.classes.now c.loop-c.c-index c.c-item.result c.loop-c.at c.in_ok-at.at _ c.loop-c-test.true c.c-item.is
    c.in_ok-at.ensures c.loop-c.invariant

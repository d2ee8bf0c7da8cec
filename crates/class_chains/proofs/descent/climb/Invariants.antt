use Rattle.class_chains.specs.Descending.{IsNearest, AreSteps}
use Rattle.class_chains.proofs.descent.climb.Given as goal

abbrev pub invariant-loop : goal.invariant-loop
invariant-loop l =
    record {
      nearest : IsNearest l.chains l.nearest;
      way : AreSteps l.chains l.way.items;
    }

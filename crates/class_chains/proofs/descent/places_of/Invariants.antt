use Rattle.class_chains.specs.Descending.{IsDescent}
use Rattle.class_chains.proofs.descent.places_of.Given as goal

abbrev pub invariant-loop-number : goal.invariant-loop-number
invariant-loop-number l = IsDescent l.chains l.descent

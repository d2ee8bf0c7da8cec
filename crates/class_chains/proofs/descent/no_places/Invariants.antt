use Rattle.class_chains.specs.declared.chains.Chains.{Chains}
use Rattle.class_chains.specs.Descending.{HoldAll, IsPlace}
use Rattle.class_chains.proofs.descent.no_places.Given as goal

abbrev pub invariant-loop : goal.invariant-loop
invariant-loop l = (k : Chains) → HoldAll (IsPlace k) l.places.items

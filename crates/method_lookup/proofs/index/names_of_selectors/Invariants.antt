use Rattle.std.proofs.Common.{◌≡◌, ◌++◌, drop, map}
use Rattle.method_lookup.specs.Index.{number_in}
use Rattle.method_lookup.proofs.index.names_of_selectors.Given as goal

abbrev pub invariant-loop-selector : goal.invariant-loop-selector
invariant-loop-selector l = l.all.items ++ map (λ s. number_in l.names s.name) (drop l.selector-index l.selectors) ≡ map (λ s. number_in l.names s.name) l.selectors

use Rattle.std.proofs.Common.{◌≡◌}
use Rattle.std.specs.List.{list_any}
use Rattle.class_chains.specs.Ranking.{reaches, texts}
use Rattle.declaration_rules.specs.Finding.{found_in}
use Rattle.class_chains.proofs.reaching.is_reached.Given as goal

abbrev pub invariant-loop-left : goal.invariant-loop-left
invariant-loop-left l = list_any (λ t. reaches l.left (found_in l.known) t l.class) (texts l.level.items) ≡ list_any (λ t. reaches l.most (found_in l.known) t l.class) (texts l.fn.start.items)

abbrev pub decreases-loop-left : goal.decreases-loop-left
decreases-loop-left l = l.left

use Rattle.std.proofs.Common.{◌≡◌}
use Rattle.class_chains.specs.Overriding.{count_up, find_in, own_in}
use Rattle.class_chains.proofs.chains.Chains.count_up.Given as goal

abbrev pub invariant-loop-left : goal.invariant-loop-left
invariant-loop-left l = count_up (own_in l.self l.name) (find_in l.self) l.left l.at ≡ count_up (own_in l.self l.name) (find_in l.self) l.most l.class

abbrev pub decreases-loop-left : goal.decreases-loop-left
decreases-loop-left l = l.left

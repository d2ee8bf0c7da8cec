use Rattle.std.proofs.Common.{◌≡◌, drop, map}
use Rattle.static_rules.specs.Places.{◌or_else◌, first_in}
use Rattle.class_chains.specs.Ranking.{cycle_at}
use Rattle.declaration_rules.specs.Finding.{found_in}
use Rattle.declaration_rules.specs.Seen.{class_of}
use Rattle.class_chains.proofs.cycles.Hierarchy.first_cycle.Given as goal

abbrev pub invariant-loop-c : goal.invariant-loop-c
invariant-loop-c l =
    let f = cycle_at l.self.most (found_in l.self.known) in
    (l.at or_else first_in f (map class_of (drop l.c-index l.classes))) ≡ first_in f (map class_of l.classes)

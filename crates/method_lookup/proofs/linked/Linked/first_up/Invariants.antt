use Rattle.std.proofs.Common.{◌≡◌, ◌<◌, ◌+◌, length, option_map, Some}
use Rattle.program.specs.declared.ids.ClassId.{ClassId}
use Rattle.program.specs.Hierarchy.{chain, chain_of}
use Rattle.program.specs.Parts.{parents}
use Rattle.method_lookup.specs.Index.{first_keyed}
use Rattle.method_lookup.specs.Visits.{visited_by}
use Rattle.method_lookup.proofs.linked.Linked.first_up.Given as goal

abbrev pub invariant-loop-at : goal.invariant-loop-at
invariant-loop-at g l = record {
  there : (k : ClassId) → l.at ≡ Some k → k.0 < length l.self.program.classes;
  found : first_keyed l.self.program.methods l.role (Some l.name) (chain_of (parents l.self.program.classes) (option_map (λ p. p.0) l.at)) ≡ first_keyed l.self.program.methods l.role (Some l.name) (chain (parents l.self.program.classes) l.fn.c.0);
  visits : l.steps + visited_by l.self.program.methods l.role (Some l.name) (chain_of (parents l.self.program.classes) (option_map (λ p. p.0) l.at)) ≡ l.initial.steps + visited_by l.self.program.methods l.role (Some l.name) (chain (parents l.self.program.classes) l.fn.c.0);
}

abbrev pub decreases-loop-at : goal.decreases-loop-at
decreases-loop-at g l = length (chain_of (parents l.self.program.classes) (option_map (λ p. p.0) l.at))

use Rattle.std.proofs.Common.{◌≡◌, ◌<◌, ◌++◌, ℕ, length, map, option_map, Some}
use Rattle.std.specs.Prelude.{All}
use Rattle.program.specs.declared.ids.ClassId.{ClassId}
use Rattle.program.specs.Hierarchy.{chain, chain_of}
use Rattle.program.specs.Parts.{parents}
use Rattle.isolate_state.proofs.fields.chain_of.Given as goal

abbrev pub invariant-loop-at : goal.invariant-loop-at
invariant-loop-at l = record {
  there : (k : ClassId) → l.at ≡ Some k → k.0 < length l.program.classes;
  found : All (λ (k : ClassId). k.0 < length l.program.classes) l.found.items;
  chain : map (λ (k : ClassId). k.0) l.found.items ++ chain_of (parents l.program.classes) (option_map (λ (k : ClassId). k.0) l.at) ≡ chain (parents l.program.classes) l.fn.c.0;
}

abbrev pub decreases-loop-at : goal.decreases-loop-at
decreases-loop-at l = length (chain_of (parents l.program.classes) (option_map (λ (k : ClassId). k.0) l.at))

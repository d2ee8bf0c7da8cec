use Rattle.std.proofs.Common.{◌≡◌, drop, map}
use Rattle.static_rules.specs.Places.{◌or_else◌, first_in}
use Rattle.declaration_rules.specs.Seen.{class_of}
use Rattle.class_chains.specs.Overriding.{overrides_of}
use Rattle.class_chains.proofs.overrides.first_override.Given as goal

abbrev pub invariant-loop-number : goal.invariant-loop-number
invariant-loop-number l = (l.at or_else first_in (overrides_of l.chains) (map class_of (drop l.number l.chains.all.items))) ≡ first_in (overrides_of l.chains) (map class_of l.chains.all.items)

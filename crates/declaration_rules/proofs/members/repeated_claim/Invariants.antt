use Rattle.std.proofs.Common.{◌≡◌, drop, map}
use Rattle.std.specs.Prelude.{filter_map}
use Rattle.dart_syntax.specs.View.{member}
use Rattle.static_rules.specs.Places.{◌or_else◌}
use Rattle.static_rules.specs.Repeats.{repeated, repeats}
use Rattle.declaration_rules.specs.Seen.{has}
use Rattle.declaration_rules.specs.Claims.{claimed}
use Rattle.declaration_rules.proofs.members.repeated_claim.Given as goal

abbrev pub invariant-loop-m : goal.invariant-loop-m
invariant-loop-m l = (l.at or_else repeated (has l.seen) (filter_map (claimed l.claim) (map member (drop l.m-index l.members)))) ≡ repeats (filter_map (claimed l.claim) (map member l.members))

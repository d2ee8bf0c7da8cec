use Rattle.std.proofs.Common.{◌≡◌, drop, map}
use Rattle.dart_syntax.specs.View.{class, member}
use Rattle.static_rules.specs.Places.{◌or_else◌, first_in}
use Rattle.class_chains.specs.Overriding.{override_at, overrides_by}
use Rattle.class_chains.specs.Descending.{counted}
use Rattle.class_chains.proofs.nearest.Nearest.overrides_in.Given as goal

abbrev pub invariant-loop-m : goal.invariant-loop-m
invariant-loop-m l = (l.at or_else first_in (override_at (counted l.self.counts)) (map member (drop l.m-index l.c.members))) ≡ overrides_by (counted l.self.counts) (class l.c)

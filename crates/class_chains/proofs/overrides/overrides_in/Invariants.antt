use Rattle.std.proofs.Common.{◌≡◌, drop, map}
use Rattle.dart_syntax.specs.View.{class, member}
use Rattle.static_rules.specs.Places.{◌or_else◌, first_in}
use Rattle.class_chains.specs.Overriding.{above, override_at, overrides_of}
use Rattle.class_chains.proofs.overrides.overrides_in.Given as goal

abbrev pub invariant-loop-m : goal.invariant-loop-m
invariant-loop-m l = (l.at or_else first_in (override_at (above l.chains l.c.name.text)) (map member (drop l.m-index l.c.members))) ≡ overrides_of l.chains (class l.c)

use Rattle.std.proofs.Common.{◌≡◌, drop, map}
use Rattle.dart_syntax.specs.View.{member}
use Rattle.dart_meaning.specs.Classes.{first_some}
use Rattle.static_rules.specs.BadOverride.{own_count}
use Rattle.class_chains.proofs.chains.count_of_all.Given as goal

abbrev pub invariant-loop-m : goal.invariant-loop-m
invariant-loop-m l = first_some (map (own_count l.name) (map member (drop l.m-index l.members))) ≡ first_some (map (own_count l.name) (map member l.members))

use Rattle.std.proofs.Common.{◌≡◌, drop, map}
use Rattle.dart_syntax.specs.View.{member}
use Rattle.static_rules.specs.Places.{◌or_else◌, first_in}
use Rattle.static_rules.specs.DuplicateName.{in_member}
use Rattle.declaration_rules.proofs.members.repeated_in_members.Given as goal

abbrev pub invariant-loop-m : goal.invariant-loop-m
invariant-loop-m l = (l.at or_else first_in in_member (map member (drop l.m-index l.members))) ≡ first_in in_member (map member l.members)

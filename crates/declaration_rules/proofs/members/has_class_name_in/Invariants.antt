use Rattle.std.proofs.Common.{◌≡◌, drop, map}
use Rattle.dart_syntax.specs.View.{member}
use Rattle.static_rules.specs.Places.{◌or_else◌, first_in}
use Rattle.static_rules.specs.DuplicateName.{has_class_name}
use Rattle.declaration_rules.proofs.members.has_class_name_in.Given as goal

abbrev pub invariant-loop-m : goal.invariant-loop-m
invariant-loop-m l = (l.at or_else first_in (has_class_name l.class) (map member (drop l.m-index l.members))) ≡ first_in (has_class_name l.class) (map member l.members)

use Rattle.std.proofs.Common.{◌≡◌, drop, map}
use Rattle.dart_syntax.specs.View.{member}
use Rattle.tree_numbers.specs.Maps.{in_set, no_names}
use Rattle.tree_numbers.specs.ClassFacts.{also_owned}
use Rattle.tree_numbers.proofs.class_facts.owned_by.Given as goal

abbrev pub invariant-loop-m : goal.invariant-loop-m
invariant-loop-m l = also_owned l.kind (map member (drop l.m-index l.members)) (in_set l.set) ≡ also_owned l.kind (map member l.members) no_names

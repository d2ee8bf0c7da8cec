use Rattle.std.proofs.Common.{◌≡◌, drop, map}
use Rattle.dart_syntax.specs.View.{member}
use Rattle.tree_numbers.specs.Maps.{in_set, no_names}
use Rattle.tree_numbers.specs.ClassFacts.{also_named}
use Rattle.tree_numbers.proofs.class_facts.names_of.Given as goal

abbrev pub invariant-loop-m : goal.invariant-loop-m
invariant-loop-m l = also_named (map member (drop l.m-index l.members)) (in_set l.set) ≡ also_named (map member l.members) no_names

use Rattle.std.proofs.Common.{◌≡◌, drop, map}
use Rattle.tree_numbers.specs.Maps.{nothing_known}
use Rattle.tree_numbers.specs.Parts.{class_of}
use Rattle.tree_numbers.specs.ClassFacts.{knows, also_classes}
use Rattle.tree_numbers.proofs.class_facts.classes_by_name.Given as goal

abbrev pub invariant-loop-c : goal.invariant-loop-c
invariant-loop-c l = also_classes (map class_of (drop l.c-index l.classes)) (knows l.known) ≡ also_classes (map class_of l.classes) nothing_known

use Rattle.std.proofs.Common.{◌≡◌, drop, map}
use Rattle.declaration_rules.specs.Seen.{class_of}
use Rattle.text_names.specs.Maps.{nothing_known}
use Rattle.text_names.specs.Around.{knows, also_classes}
use Rattle.text_names.proofs.class_names.classes_by_name.Given as goal

abbrev pub invariant-loop-c : goal.invariant-loop-c
invariant-loop-c l = also_classes (map class_of (drop l.c-index l.classes)) (knows l.known) ≡ also_classes (map class_of l.classes) nothing_known

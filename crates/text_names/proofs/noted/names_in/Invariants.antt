use Rattle.std.proofs.Common.{◌≡◌, drop, map}
use Rattle.declaration_rules.specs.Seen.{class_of}
use Rattle.text_names.specs.Maps.{in_set, no_names}
use Rattle.text_names.specs.Noted.{also_noted_in}
use Rattle.text_names.proofs.noted.names_in.Given as goal

abbrev pub invariant-loop-c : goal.invariant-loop-c
invariant-loop-c l = also_noted_in l.sort (map class_of (drop l.c-index l.classes)) (in_set l.set) ≡ also_noted_in l.sort (map class_of l.classes) no_names

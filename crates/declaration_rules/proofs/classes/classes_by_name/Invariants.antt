use Rattle.std.proofs.Common.{◌≡◌, drop, map}
use Rattle.declaration_rules.specs.Finding.{found_in, named_of, or_first}
use Rattle.declaration_rules.specs.Seen.{class_of}
use Rattle.declaration_rules.proofs.classes.classes_by_name.Given as goal

abbrev pub invariant-loop-c : goal.invariant-loop-c
invariant-loop-c l = (q : _) → or_first (found_in l.known q) (named_of (map class_of (drop l.c-index l.classes)) q) ≡ named_of (map class_of l.classes) q

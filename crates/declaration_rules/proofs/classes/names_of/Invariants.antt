use Rattle.std.proofs.Common.{◌≡◌, ◌||◌, drop, map}
use Rattle.declaration_rules.specs.Seen.{has, class_of}
use Rattle.declaration_rules.specs.Known.{is_declared}
use Rattle.declaration_rules.proofs.classes.names_of.Given as goal

abbrev pub invariant-loop-c : goal.invariant-loop-c
invariant-loop-c l = (q : _) → (has l.known q || is_declared (map class_of (drop l.c-index l.classes)) q) ≡ is_declared (map class_of l.classes) q

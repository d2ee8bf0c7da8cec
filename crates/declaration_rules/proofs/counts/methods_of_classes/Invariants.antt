use Rattle.std.proofs.Common.{◌≡◌, ◌+◌, drop, map, sum_by}
use Rattle.std.specs.Prelude.{fold}
use Rattle.declaration_rules.specs.Counting.{in_class}
use Rattle.declaration_rules.specs.Seen.{class_of}
use Rattle.declaration_rules.proofs.counts.methods_of_classes.Given as goal

abbrev pub invariant-loop-c : goal.invariant-loop-c
invariant-loop-c l = fold (λ a x. a + in_class x) l.n (map class_of (drop l.c-index l.classes)) ≡ sum_by in_class (map class_of l.classes)

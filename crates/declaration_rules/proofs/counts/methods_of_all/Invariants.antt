use Rattle.std.proofs.Common.{◌≡◌, ◌+◌, drop, map, sum_by}
use Rattle.std.specs.Prelude.{fold}
use Rattle.dart_syntax.specs.View.{member}
use Rattle.static_rules.specs.Accepted.{methods_of}
use Rattle.declaration_rules.proofs.counts.methods_of_all.Given as goal

abbrev pub invariant-loop-m : goal.invariant-loop-m
invariant-loop-m l = fold (λ a x. a + methods_of x) l.n (map member (drop l.m-index l.members)) ≡ sum_by methods_of (map member l.members)

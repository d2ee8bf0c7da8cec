use Rattle.std.proofs.Common.{◌≡◌, drop, map}
use Rattle.declaration_rules.specs.Finding.{named_of, or_first}
use Rattle.declaration_rules.specs.Seen.{class_of}
use Rattle.class_chains.specs.Overriding.{found_at}
use Rattle.class_chains.proofs.chains.numbers_of.Given as goal

abbrev pub invariant-loop-number : goal.invariant-loop-number
invariant-loop-number l = (q : _) → or_first (found_at l.all l.numbers q) (named_of (map class_of (drop l.number l.all)) q) ≡ named_of (map class_of l.all) q

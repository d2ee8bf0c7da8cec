use Rattle.std.proofs.Common.{◌≡◌, ◌++◌}
use Rattle.load_source.specs.Generated.{each, entry}
use Rattle.load_source.proofs.functions.push_entries.Given as goal

abbrev pub invariant-loop-k : goal.invariant-loop-k
invariant-loop-k l = l.out.items ≡ l.initial.out.items ++ each (entry l.calls) l.k

use Rattle.std.proofs.Common.{◌≡◌, ◌++◌}
use Rattle.load_source.specs.Generated.{each, add_line}
use Rattle.load_source.proofs.functions.push_adds.Given as goal

abbrev pub invariant-loop-k : goal.invariant-loop-k
invariant-loop-k l = l.out.items ≡ l.initial.out.items ++ each add_line l.k

use Rattle.std.proofs.Common.{◌≡◌, drop, map}
use Rattle.class_chains.specs.Descending.{counted, put_all, before_of}
use Rattle.class_chains.proofs.nearest.put_back.Given as goal

abbrev pub invariant-loop-b : goal.invariant-loop-b
invariant-loop-b l = put_all (map before_of (drop l.b-index l.was)) (counted l.counts) ≡ put_all (map before_of l.was) (counted l.fn.counts)

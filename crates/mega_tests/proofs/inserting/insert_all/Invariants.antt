use Rattle.std.proofs.Common.{◌≡◌}
use Rattle.mega_cache.specs.Finds.{IsPassOf}
use Rattle.mega_tests.proofs.inserting.insert_all.Given as goal

abbrev pub invariant-loop-class : goal.invariant-loop-class
invariant-loop-class g l = IsPassOf l.table l.pass

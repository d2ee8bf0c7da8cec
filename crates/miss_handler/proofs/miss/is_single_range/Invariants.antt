use Rattle.std.proofs.Common.{◌≡◌, ◌<◌, ◌≤◌, ◌+◌, ◌-◌, max, true, length, ℕ}
use Rattle.miss_handler.specs.States.{serves}
use Rattle.miss_handler.specs.Sites.{receivers_at, visits}
use Rattle.miss_handler.proofs.miss.is_single_range.Given as goal

abbrev pub invariant-loop-class : goal.invariant-loop-class
invariant-loop-class g l = record {
  so_far : (c : ℕ) → l.fn.lo.0 ≤ c → c < l.class → serves (receivers_at l.linked l.site.0) l.t c ≡ true;
  from : l.fn.lo.0 ≤ l.class;
  within : l.class ≤ max l.fn.lo.0 (length l.linked.program.classes);
  cost : l.steps ≤ l.fn.steps + visits l.linked (l.class - l.fn.lo.0);
}

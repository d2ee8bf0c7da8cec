use Rattle.std.proofs.Common.{◌≡◌, ℕ, ◌<◌, length, slice_get, Some}
use Rattle.class_table.specs.Rows.{AreRows, IsFilled}
use Rattle.class_table.proofs.rows.+fill.Given as goal

abbrev pub decreases-fill : goal.decreases-fill
decreases-fill l = l.left

abbrev pub invariant-loop-e : goal.invariant-loop-e
invariant-loop-e l = record {
  same : length l.rows.items ≡ length l.named;
  right : AreRows l.named l.rows.items;
  filled : (at e : ℕ) → at < l.e-index → slice_get l.e-items at ≡ Some e → IsFilled l.rows.items e;
  kept : (d : ℕ) → IsFilled l.initial.rows.items d → IsFilled l.rows.items d;
}

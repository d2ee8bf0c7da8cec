use Rattle.std.proofs.Common.{◌≡◌, ℕ, ◌<◌, length}
use Rattle.class_table.specs.Rows.{AreRows, IsFilled}
use Rattle.class_table.proofs.rows.all_rows.Given as goal

abbrev pub invariant-loop-c : goal.invariant-loop-c
invariant-loop-c l = record {
  same : length l.rows.items ≡ length l.named;
  right : AreRows l.named l.rows.items;
  filled : (d : ℕ) → d < l.c → IsFilled l.rows.items d;
}

use Rattle.std.proofs.Common.{◌≡◌, ℕ, ◌||◌, nat_eq, length, drop}
use Rattle.std.specs.List.{list_any}
use Rattle.class_table.specs.Rows.{holds, word_count, row_of}
use Rattle.class_table.proofs.rows.joined.Given as goal

abbrev pub invariant-loop-e : goal.invariant-loop-e
invariant-loop-e l = record {
  same : length l.words.items ≡ word_count (length l.rows);
  each : (d : ℕ) → (holds l.words.items d || list_any (λ e. holds (row_of l.rows e) d) (drop l.e-index l.supers)) ≡ (nat_eq l.c d || list_any (λ e. holds (row_of l.rows e) d) l.supers);
}

use Rattle.class_table.proofs.Filling.{filled_next}
use Rattle.class_table.proofs.rows.all_rows.Goals as goal

pub loop-c-preserved : goal.loop-c-preserved
loop-c-preserved c = record {
  same = c.in_ok-fill.ensures.same;
  right = c.in_ok-fill.ensures.right;
  filled = filled_next c.loop-c.rows.items c.fill.new.rows.items c.loop-c.c c.in_ok-fill.ensures.kept c.in_ok-fill.ensures.filled c.loop-c.invariant.filled;
}

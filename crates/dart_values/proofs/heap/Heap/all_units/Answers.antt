use Rattle.dart_values.specs.declared.value.Value.TheVariants.{Null}
use Rattle.dart_values.proofs.Joined.{joined_more}
use Rattle.dart_values.proofs.heap.Heap.all_units.Goals as goal

pub loop-part-preserved : goal.loop-part-preserved
loop-part-preserved c =
    rw (joined_more c.args.self.now.texts c.args.parts.now c.loop-part.part-index Null c.loop-part-test.true, ← c.loop-part.invariant) c.in_ok-add_units.ensures

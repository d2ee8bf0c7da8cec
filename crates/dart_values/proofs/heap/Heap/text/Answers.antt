use Rattle.dart_values.proofs.Growth.{with_text_heap}
use Rattle.dart_values.proofs.heap.Heap.text.Goals as goal

pub returns-clause-heap : goal.returns-clause-heap
returns-clause-heap c =
    rw (c.in_ok-push.ensures.items, ← c.self.view_is)
    (with_text_heap (record { things = c.self.inside.things.items; texts = c.self.inside.texts.items }) c.args.units c.self.invariant)

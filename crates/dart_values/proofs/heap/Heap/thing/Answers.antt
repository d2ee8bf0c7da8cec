use Rattle.dart_values.proofs.Growth.{with_thing_heap}
use Rattle.dart_values.proofs.heap.Heap.thing.Goals as goal

pub returns-clause-heap : goal.returns-clause-heap
returns-clause-heap c =
    rw (c.in_ok-push.ensures.items, ← c.self.view_is)
    (with_thing_heap (record { things = c.self.inside.things.items; texts = c.self.inside.texts.items }) c.args.thing)

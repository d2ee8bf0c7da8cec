use Rattle.dart_values.proofs.Growth.{with_invocation_heap}
use Rattle.dart_values.proofs.heap.Heap.invocation.Goals as goal

pub returns-clause-heap : goal.returns-clause-heap
returns-clause-heap c =
    rw (c.in_ok-address.ensures.things, c.in_ok-address.ensures.texts, ← c.self.view_is)
    (with_invocation_heap (record { things = c.self.inside.things.items; texts = c.self.inside.texts.items }) c.args.name c.args.arguments.items c.args.kind c.self.invariant
    (let e = c.requires in rw (← c.self.view_is) at e))

use Rattle.std.proofs.lemmas.List.Elements.{All-get_or}
use Rattle.dart_values.specs.Store.{Store, IsOf}
use Rattle.dart_values.specs.declared.value.Value.TheVariants.{Null}
use Rattle.dart_values.proofs.Addresses.{thing_is, field_past}
use Rattle.dart_values.proofs.heap.Heap.field.Goals as goal

pub returns-then-at-fields-clause-of_heap : goal.returns-then-at-fields-clause-of_heap
returns-then-at-fields-clause-of_heap c =
    let s : Store = record { things = c.self.inside.things.items; texts = c.self.inside.texts.items } in
    let within = rw c.in-Ref.is at c.requires in
    let here = rw (← c.self.view_is) at within in
    rw (← c.self.view_is)
    (All-get_or (IsOf s) c.object_fields-fields.result.now c.args.at Null c.if-at-fields.true
    (c.object_fields-fields.ensures.of_heap s (thing_is s c.in-Ref.address c.index.result.now here c.index.ensures c.self.invariant)))

pub returns-else-at-fields-clause-value : goal.returns-else-at-fields-clause-value
returns-else-at-fields-clause-value c =
    let s : Store = record { things = c.self.inside.things.items; texts = c.self.inside.texts.items } in
    let within = rw c.in-Ref.is at c.requires in
    let here = rw (← c.self.view_is) at within in
    rw (← c.self.view_is, c.in-Ref.is)
    (field_past s c.in-Ref.address c.index.result.now here c.index.ensures c.args.at c.object_fields-fields.result.now (c.object_fields-fields.ensures.fields s.texts) c.if-at-fields.false)

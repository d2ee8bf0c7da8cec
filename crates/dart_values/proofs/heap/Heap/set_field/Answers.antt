use Rattle.std.proofs.lemmas.List.Elements.{All-set}
use Rattle.dart_values.specs.Store.{Store, IsOf, value_of}
use Rattle.dart_values.proofs.FieldChanges.{untouched, untouched_keeps, with_fields_whole, fields_are, field_set, field_past}
use Rattle.dart_values.proofs.heap.Heap.set_field.Goals as goal
use Rattle.dart_values.proofs.heap.Heap.set_field.Goals.{then-at-len, else-at-len}

pub returns-in_default-index_mut : goal.returns-in_default-index_mut
returns-in_default-index_mut c =
    let s : Store = record { things = c.self.inside.things.items; texts = c.self.inside.texts.items } in
    let within = rw c.in-Ref.is at c.requires.object in
    let here = rw (← c.self.view_is) at within in
    rw (← c.self.view_is, c.in-Ref.is) (record {
      heap = untouched s c.in-Ref.address c.index_mut.result.now here c.index_mut.ensures.value c.in_default-index_mut.not-Object c.args.at (value_of s c.args.to);
      keeps = untouched_keeps s c.in-Ref.address c.index_mut.result.now here c.index_mut.ensures.value;
    })

pub invariant_of-self-2 : goal.invariant_of-self-2
invariant_of-self-2 c =
    let s : Store = record { things = c.self.inside.things.items; texts = c.self.inside.texts.items } in
    let within = rw c.in-Ref.is at c.requires.object in
    let here = rw (← c.self.view_is) at within in
    let is = rw c.in-Object.is at c.index_mut.ensures.value in
    let value = rw (← c.self.view_is) at c.requires.value in
    let fields = fields_are s c.self.invariant c.in-Ref.address c.in-Object.field-0 c.in-Object.fields here is in
    elim c.if-at-len.branch [
      | then-at-len w ↦ rw (w.self-inside-is, w.set.ensures)
          (with_fields_whole s c.self.invariant c.in-Ref.address c.in-Object.field-0 c.in-Object.fields here is _ (All-set (IsOf s) c.in-Object.fields c.args.at c.args.to value fields))
      | else-at-len w ↦ rw w.self-inside-is (with_fields_whole s c.self.invariant c.in-Ref.address c.in-Object.field-0 c.in-Object.fields here is c.in-Object.fields fields)
    ]

pub returns-clause-heap : goal.returns-clause-heap
returns-clause-heap c =
    let s : Store = record { things = c.self.inside.things.items; texts = c.self.inside.texts.items } in
    let within = rw c.in-Ref.is at c.requires.object in
    let here = rw (← c.self.view_is) at within in
    let is = rw c.in-Object.is at c.index_mut.ensures.value in
    elim c.if-at-len.branch [
      | then-at-len w ↦ rw (w.self-inside-is, w.set.ensures, ← c.self.view_is, c.in-Ref.is)
          (field_set s c.self.invariant c.in-Ref.address c.in-Object.field-0 c.in-Object.fields here is c.args.at c.args.to)
      | else-at-len w ↦ rw (w.self-inside-is, ← c.self.view_is, c.in-Ref.is)
          (field_past s c.self.invariant c.in-Ref.address c.in-Object.field-0 c.in-Object.fields here is c.args.at (value_of s c.args.to) (rw (← c.len.ensures) w.if-at-len.false))
    ]

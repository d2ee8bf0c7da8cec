use Rattle.std.proofs.Common.{◌≡◌, ◌++◌, map, take}
use Rattle.std.specs.Prelude.{All}
use Rattle.program.specs.declared.numbered.Field.{Field}
use Rattle.dart_values.specs.Store.{IsOf, Keeps, values_of, heap_of}
use Rattle.dart_meaning.specs.Literals.{literal}
use Rattle.isolate_state.proofs.fields.push_fields.Given as goal

abbrev pub invariant-loop-field : goal.invariant-loop-field
invariant-loop-field l = record {
  values : values_of l.heap l.values.items ≡ values_of l.initial.heap l.initial.values.items ++ map (λ (f : Field). literal f.value) (take l.field-index l.fields);
  of_heap : All (IsOf l.heap) l.values.items;
  same : heap_of l.heap ≡ heap_of l.initial.heap;
  keeps : Keeps l.initial.heap l.heap;
}

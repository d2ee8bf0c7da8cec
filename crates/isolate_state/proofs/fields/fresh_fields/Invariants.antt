use Rattle.std.proofs.Common.{◌≡◌, ◌<◌, ◌++◌, ℕ, length, map, vec_len}
use Rattle.std.specs.Prelude.{All, flat_map, reverse}
use Rattle.program.specs.declared.ids.ClassId.{ClassId}
use Rattle.program.specs.Program.{parts_of}
use Rattle.dart_values.specs.Store.{IsOf, Keeps, values_of, heap_of}
use Rattle.dart_meaning.specs.Numbered.{own_values, fields}
use Rattle.isolate_state.proofs.fields.fresh_fields.Given as goal

abbrev pub invariant-loop-class : goal.invariant-loop-class
invariant-loop-class l = record {
  values : values_of l.heap l.values.items ++ flat_map (own_values (parts_of l.program)) (reverse (map (λ (k : ClassId). k.0) l.above.items)) ≡ fields (parts_of l.program) l.fn.c.0;
  there : All (λ (k : ClassId). k.0 < length l.program.classes) l.above.items;
  of_heap : All (IsOf l.heap) l.values.items;
  same : heap_of l.heap ≡ heap_of l.initial.heap;
  keeps : Keeps l.initial.heap l.heap;
}

abbrev pub decreases-loop-class : goal.decreases-loop-class
decreases-loop-class l = vec_len l.above

use Rattle.std.proofs.Common.{◌≡◌, take}
use Rattle.dart_values.specs.Reads.{joined}
use Rattle.dart_values.specs.Store.{values_of}
use Rattle.dart_values.proofs.heap.Heap.all_units.Given as goal

abbrev pub invariant-loop-part : goal.invariant-loop-part
invariant-loop-part l = l.units.items ≡ joined (values_of l.self (take l.part-index l.parts))

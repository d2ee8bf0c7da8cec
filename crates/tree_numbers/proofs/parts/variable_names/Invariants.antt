use Rattle.std.proofs.Common.{◌≡◌, ◌++◌, drop, map}
use Rattle.std.specs.Prelude.{filter_map}
use Rattle.dart_syntax.specs.View.{top}
use Rattle.tree_numbers.specs.Parts.{texts, variable_name}
use Rattle.tree_numbers.proofs.parts.variable_names.Given as goal

abbrev pub invariant-loop-t : goal.invariant-loop-t
invariant-loop-t l = texts l.all.items ++ filter_map variable_name (map top (drop l.t-index l.tops)) ≡ filter_map variable_name (map top l.tops)

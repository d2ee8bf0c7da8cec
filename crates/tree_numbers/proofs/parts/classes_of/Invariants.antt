use Rattle.std.proofs.Common.{◌≡◌, ◌++◌, drop, map}
use Rattle.std.specs.Prelude.{filter_map}
use Rattle.dart_syntax.specs.View.{top}
use Rattle.dart_meaning.specs.Classes.{class_at}
use Rattle.tree_numbers.specs.Parts.{class_of}
use Rattle.tree_numbers.proofs.parts.classes_of.Given as goal

abbrev pub invariant-loop-t : goal.invariant-loop-t
invariant-loop-t l = map class_of l.all.items ++ filter_map class_at (map top (drop l.t-index l.tops)) ≡ filter_map class_at (map top l.tops)

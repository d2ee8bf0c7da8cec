use Rattle.std.proofs.Common.{◌≡◌, ◌++◌, drop, map, flat_map}
use Rattle.dart_syntax.specs.View as view
use Rattle.dart_meaning.specs.Uses as u
use Rattle.name_uses.specs.Found.{found}
use Rattle.name_uses.proofs.parts.parts_of.Given as goal

abbrev pub invariant-loop-x : goal.invariant-loop-x
invariant-loop-x l = found l.out ++ flat_map u.top_parts (map view.top (drop l.x-index l.tree.tops)) ≡ flat_map u.top_parts (map view.top l.tree.tops)

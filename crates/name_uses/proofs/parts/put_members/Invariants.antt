use Rattle.std.proofs.Common.{◌≡◌, ◌++◌, drop, map, flat_map}
use Rattle.dart_syntax.specs.View as view
use Rattle.dart_meaning.specs.Uses as u
use Rattle.name_uses.specs.Found.{found}
use Rattle.name_uses.proofs.parts.put_members.Given as goal

abbrev pub invariant-loop-x : goal.invariant-loop-x
invariant-loop-x l = found l.out ++ flat_map (u.member_parts (view.class l.class)) (map view.member (drop l.x-index l.all)) ≡ found l.fn.out ++ flat_map (u.member_parts (view.class l.class)) (map view.member l.all)

use Rattle.std.proofs.Common.{◌≡◌, drop, map}
use Rattle.std.specs.List.{list_any}
use Rattle.dart_syntax.specs.View.{member}
use Rattle.dart_meaning.specs.Uses as u
use Rattle.name_uses.proofs.parts.has_constructor.Given as goal

abbrev pub invariant-loop-x : goal.invariant-loop-x
invariant-loop-x l = list_any u.is_constructor (map member (drop l.x-index l.all)) ≡ list_any u.is_constructor (map member l.all)

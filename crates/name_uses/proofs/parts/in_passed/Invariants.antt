use Rattle.std.proofs.Common.{◌≡◌, drop, map}
use Rattle.dart_syntax.specs.View.{param}
use Rattle.name_uses.specs.Undo.{meaning}
use Rattle.dart_meaning.specs.Uses as u
use Rattle.name_uses.proofs.parts.in_passed.Given as goal

abbrev pub invariant-loop-x : goal.invariant-loop-x
invariant-loop-x l = u.with_passed (map param (drop l.x-index l.params)) (meaning l.scope) ≡ u.with_passed (map param l.params) u.nothing_seen

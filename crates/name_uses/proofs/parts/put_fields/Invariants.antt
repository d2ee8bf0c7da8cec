use Rattle.std.proofs.Common.{◌≡◌, ◌++◌, drop, map}
use Rattle.dart_syntax.specs.View.{param}
use Rattle.dart_meaning.specs.Uses as u
use Rattle.name_uses.proofs.parts.put_fields.Given as goal

abbrev pub invariant-loop-x : goal.invariant-loop-x
invariant-loop-x l = l.out ++ u.field_uses (map param (drop l.x-index l.params)) ≡ l.fn.out ++ u.field_uses (map param l.params)

use Rattle.std.proofs.Common.{◌≡◌, ◌++◌, drop, map}
use Rattle.dart_syntax.specs.Syntax.{stas}
use Rattle.dart_syntax.specs.View.{sta}
use Rattle.name_uses.specs.Undo.{meaning}
use Rattle.dart_meaning.specs.Uses as u
use Rattle.name_uses.proofs.stmts.declare_all.Given as goal

abbrev pub invariant-loop-x : goal.invariant-loop-x
invariant-loop-x l = l.out ++ u.declared_uses (meaning l.scope) (u.locals (stas (map sta (drop l.x-index l.all)))) ≡ l.initial.out ++ u.declared_uses (meaning l.scope) (u.locals (stas (map sta l.all)))

use Rattle.std.proofs.Common.{◌≡◌, drop, map}
use Rattle.dart_syntax.specs.Syntax.{stas}
use Rattle.dart_syntax.specs.View.{sta}
use Rattle.name_uses.specs.Undo.{meaning, Extends}
use Rattle.dart_meaning.specs.Uses as u
use Rattle.name_uses.proofs.stmts.begin_all.Given as goal

abbrev pub invariant-loop-x : goal.invariant-loop-x
invariant-loop-x l =
    record {
      begins : u.opened (u.locals (stas (map sta (drop l.x-index l.all)))) (meaning l.scope) ≡ u.opened (u.locals (stas (map sta l.all))) (meaning l.fn.scope);
      undo : Extends l.fn.scope l.scope;
    }

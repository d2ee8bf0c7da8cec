use Rattle.std.proofs.Common.{◌≡◌, ◌++◌, drop, map}
use Rattle.dart_syntax.specs.Syntax.{stas}
use Rattle.dart_syntax.specs.View.{sta}
use Rattle.name_uses.specs.Undo.{meaning, Extends}
use Rattle.dart_meaning.specs.Uses as u
use Rattle.name_uses.proofs.stmts.+statements.Given as goal

abbrev pub invariant-uses_of_stmts-loop-x : goal.invariant-uses_of_stmts-loop-x
invariant-uses_of_stmts-loop-x l =
    record {
      uses : l.out ++ u.stas l.loops (meaning l.scope) (stas (map sta (drop l.x-index l.all))) ≡ l.fn.out ++ u.stas l.loops (meaning l.fn.scope) (stas (map sta l.all));
      undo : Extends l.fn.scope l.scope;
    }

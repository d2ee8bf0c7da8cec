use Rattle.std.proofs.Common.{◌≡◌, ◌++◌, map, drop}
use Rattle.dart_syntax.specs.Syntax.{stas}
use Rattle.dart_syntax.specs.View.{sta}
use Rattle.dart_syntax.specs.Text.{stas_text}
use Rattle.dart_printer.proofs.stmt.+print.Given as goal

abbrev pub invariant-print_stmts-loop-x : goal.invariant-print_stmts-loop-x
invariant-print_stmts-loop-x l = l.out.items ++ stas_text (stas (map sta (drop l.x-index l.all))) ≡ l.initial.out.items ++ stas_text (stas (map sta l.all))

use Rattle.std.proofs.Common.{◌≡◌, ◌-◌}
use Rattle.dart_lexer.specs.Model.{lex, lex_from}
use Rattle.dart_lexer.proofs.whole.lex.Given as goal

abbrev pub invariant-loop-turn : goal.invariant-loop-turn
invariant-loop-turn l = lex l.fn.text ≡ lex_from l.total (l.total - l._turn) l.stack l.found l.input

use Rattle.std.proofs.Common.{map, ◌≡◌, ◌-◌, length}
use Rattle.dart_syntax.specs.View.{exp}
use Rattle.dart_expr.specs.Model.{expr, more_from}
use Rattle.dart_expr.proofs.grammar.Grammar.more.Given as goal

abbrev pub invariant-loop-turn : goal.invariant-loop-turn
invariant-loop-turn g l = more_from (expr l.self.depth) l.close (length l.fn.tokens) (map exp l.fn.found) l.fn.tokens ≡ more_from (expr l.self.depth) l.close (l._turn-end - l._turn) (map exp l.found) l.tokens

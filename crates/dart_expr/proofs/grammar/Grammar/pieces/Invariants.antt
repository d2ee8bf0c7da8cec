use Rattle.std.proofs.Common.{map, ◌≡◌, ◌-◌}
use Rattle.dart_syntax.specs.View.{piece}
use Rattle.dart_expr.specs.Model.{expr, pieces, pieces_from}
use Rattle.dart_expr.proofs.grammar.Grammar.pieces.Given as goal

abbrev pub invariant-loop-turn : goal.invariant-loop-turn
invariant-loop-turn g l = pieces (expr l.self.depth) l.fn.tokens ≡ pieces_from (expr l.self.depth) (l._turn-end - l._turn) (map piece l.found) l.tokens

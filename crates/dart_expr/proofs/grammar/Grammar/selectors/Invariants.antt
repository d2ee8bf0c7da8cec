use Rattle.std.proofs.Common.{map, ◌≡◌, ◌-◌}
use Rattle.dart_syntax.specs.View.{selector as seen}
use Rattle.dart_expr.specs.Input.{many_from}
use Rattle.dart_expr.specs.Model.{expr, selector, selectors}
use Rattle.dart_expr.proofs.grammar.Grammar.selectors.Given as goal

abbrev pub invariant-loop-turn : goal.invariant-loop-turn
invariant-loop-turn g l = selectors (expr l.self.depth) l.fn.tokens ≡ many_from (selector (expr l.self.depth)) (l._turn-end - l._turn) (map seen l.found) l.tokens

use Rattle.std.proofs.Common.{map, ◌≡◌, ◌-◌}
use Rattle.dart_expr.specs.Input.{many_from}
use Rattle.dart_expr.specs.Model.{expr}
use Rattle.dart_parser.specs.Statements.{stmt}
use Rattle.dart_syntax.specs.View as view
use Rattle.dart_parser.specs.Tops.{top_item, tops}
use Rattle.dart_parser.proofs.top.tops.Given as goal

abbrev pub invariant-loop-turn : goal.invariant-loop-turn
invariant-loop-turn l = tops (stmt 200) (expr 200) l.fn.tokens ≡ many_from (top_item (stmt 200) (expr 200)) (l._turn-end - l._turn) (map view.top l.found) l.tokens

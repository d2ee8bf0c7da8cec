use Rattle.std.proofs.Common.{map, ◌≡◌, ◌-◌}
use Rattle.dart_expr.specs.Input.{many_from}
use Rattle.dart_expr.specs.Model.{expr}
use Rattle.dart_parser.specs.Statements.{stmt}
use Rattle.dart_syntax.specs.View as view
use Rattle.dart_parser.specs.Tops.{member_item, members}
use Rattle.dart_parser.proofs.class.members.Given as goal

abbrev pub invariant-loop-turn : goal.invariant-loop-turn
invariant-loop-turn l = members (stmt 200) (expr 200) l.class l.fn.tokens ≡ many_from (member_item (stmt 200) (expr 200) l.class) (l._turn-end - l._turn) (map view.member l.found) l.tokens

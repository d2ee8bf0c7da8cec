use Rattle.std.proofs.Common.{map, ◌≡◌, ◌-◌}
use Rattle.dart_syntax.specs.declared.token.Sign.TheVariants as s
use Rattle.dart_syntax.specs.View.{sta}
use Rattle.dart_expr.specs.Input.{many_from, sees}
use Rattle.dart_expr.specs.Model.{expr}
use Rattle.dart_parser.specs.Statements.{item, stmt}
use Rattle.dart_parser.specs.Members.{statements}
use Rattle.dart_parser.proofs.bodies.statements.Given as goal

abbrev pub invariant-loop-turn : goal.invariant-loop-turn
invariant-loop-turn l = statements (stmt 200) (expr 200) l.fn.tokens ≡ many_from (item (sees s.BraceClose) (stmt 200)) (l._turn-end - l._turn) (map sta l.found) l.tokens

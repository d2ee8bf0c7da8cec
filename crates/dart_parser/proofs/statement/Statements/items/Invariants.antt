use Rattle.std.proofs.Common.{map, ◌≡◌, ◌-◌, length, []}
use Rattle.dart_syntax.specs.declared.token.Sign.TheVariants as s
use Rattle.dart_syntax.specs.View.{sta}
use Rattle.dart_expr.specs.Input.{sees, many_from}
use Rattle.dart_parser.specs.Statements.{item, stmt}
use Rattle.dart_parser.proofs.statement.Statements.items.Given as goal

abbrev pub invariant-loop-turn : goal.invariant-loop-turn
invariant-loop-turn g l =
    many_from (item (sees s.BraceClose) (stmt l.self.depth)) (length l.fn.tokens) [] l.fn.tokens
    ≡ many_from (item (sees s.BraceClose) (stmt l.self.depth)) (l._turn-end - l._turn) (map sta l.found) l.tokens

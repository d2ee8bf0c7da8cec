use Rattle.std.proofs.Common.{map, ◌≡◌, ◌-◌}
use Rattle.dart_syntax.specs.View.{exp}
use Rattle.dart_expr.specs.Input.{many_from}
use Rattle.dart_expr.specs.Model.{expr}
use Rattle.dart_parser.specs.Statements.{comma_item, comma_items, stmt}
use Rattle.dart_parser.proofs.statement.Statements.comma_items.Given as goal

abbrev pub invariant-loop-turn : goal.invariant-loop-turn
invariant-loop-turn g l =
    comma_items (stmt l.self.depth) (expr l.self.depth) (map exp l.fn.found) l.fn.tokens
    ≡ many_from (comma_item (stmt l.self.depth) (expr l.self.depth)) (l._turn-end - l._turn) (map exp l.found) l.tokens

use Rattle.std.proofs.Common.{map, ◌≡◌, ◌-◌}
use Rattle.dart_syntax.specs.View as view
use Rattle.dart_expr.specs.Input.{many_from}
use Rattle.dart_parser.specs.Members.{param_item, param_items}
use Rattle.dart_parser.proofs.params.param_items.Given as goal

abbrev pub invariant-loop-turn : goal.invariant-loop-turn
invariant-loop-turn l = param_items l.of_constructor l.most l.fn.tokens ≡ many_from (param_item l.of_constructor) (l.most - l._turn) (map view.param l.found) l.tokens

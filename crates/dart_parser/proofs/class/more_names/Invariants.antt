use Rattle.std.proofs.Common.{◌≡◌, ◌-◌}
use Rattle.dart_expr.specs.Input.{many_from}
use Rattle.dart_parser.specs.Tops.{comma_name, more_names}
use Rattle.dart_parser.proofs.class.more_names.Given as goal

abbrev pub invariant-loop-turn : goal.invariant-loop-turn
invariant-loop-turn l = more_names l.fn.found l.fn.tokens ≡ many_from comma_name (l._turn-end - l._turn) l.found l.tokens

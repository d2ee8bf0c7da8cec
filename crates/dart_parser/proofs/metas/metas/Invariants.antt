use Rattle.std.proofs.Common.{◌≡◌, ◌-◌}
use Rattle.dart_expr.specs.Input.{many_from}
use Rattle.dart_parser.specs.Tops.{meta, metas}
use Rattle.dart_parser.proofs.metas.metas.Given as goal

abbrev pub invariant-loop-turn : goal.invariant-loop-turn
invariant-loop-turn l = metas l.fn.tokens ≡ many_from meta (l._turn-end - l._turn) l.found l.tokens

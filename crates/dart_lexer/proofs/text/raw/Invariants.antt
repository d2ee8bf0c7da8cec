use Rattle.std.proofs.Common.{◌≡◌, ◌-◌}
use Rattle.dart_lexer.specs.Model.{raw, raw_from}
use Rattle.dart_lexer.proofs.text.raw.Given as goal

abbrev pub invariant-loop-turn : goal.invariant-loop-turn
invariant-loop-turn l = raw l.quote l.opened l.fn.input ≡ raw_from l.quote l.opened (l._turn-end - l._turn) l.found l.input

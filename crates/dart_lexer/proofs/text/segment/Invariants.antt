use Rattle.std.proofs.Common.{◌≡◌, ◌-◌}
use Rattle.dart_lexer.specs.Model.{segment, segment_from}
use Rattle.dart_lexer.proofs.text.segment.Given as goal

abbrev pub invariant-loop-turn : goal.invariant-loop-turn
invariant-loop-turn l = segment l.total l.quote l.opened l.fn.is_first l.fn.from l.fn.found l.fn.input ≡ segment_from l.total l.quote l.opened (l._turn-end - l._turn) l.is_first l.from l.found l.input

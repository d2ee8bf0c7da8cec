use Rattle.std.proofs.Common.{◌≡◌, ◌+◌, ◌≤◌, false, length}
use Rattle.dart_syntax.specs.Tokens.{fits_line}
use Rattle.dart_lexer.specs.Model.{past}
use Rattle.dart_lexer.proofs.comment.comment.Given as goal

abbrev pub invariant-loop-b : goal.invariant-loop-b
invariant-loop-b l = (past (fits_line l.outer) 0 false l.fn.input ≡ past (fits_line l.outer) l.depth false l.input) × (l.depth + length l.input ≤ length l.fn.input)

abbrev pub decreases-loop-b : goal.decreases-loop-b
decreases-loop-b l = length l.input

use Rattle.std.proofs.Common.{◌≡◌, length}
use Rattle.dart_lexer.specs.Signs.{strip}
use Rattle.dart_lexer.proofs.sign.strip.Given as goal

abbrev pub invariant-loop-text : goal.invariant-loop-text
invariant-loop-text l = strip l.text l.bytes ≡ strip l.fn.text l.fn.bytes

abbrev pub decreases-loop-text : goal.decreases-loop-text
decreases-loop-text l = length l.text

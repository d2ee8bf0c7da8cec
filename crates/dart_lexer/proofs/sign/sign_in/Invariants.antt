use Rattle.std.proofs.Common.{◌≡◌, length, map}
use Rattle.dart_lexer.specs.Signs.{sign_in}
use Rattle.dart_lexer.proofs.sign.sign_in.Given as goal

abbrev pub invariant-loop-table : goal.invariant-loop-table
invariant-loop-table l = sign_in (map (λ k. (k.0.now, k.1)) l.table) l.bytes ≡ sign_in (map (λ k. (k.0.now, k.1)) l.fn.table) l.bytes

abbrev pub decreases-loop-table : goal.decreases-loop-table
decreases-loop-table l = length l.table

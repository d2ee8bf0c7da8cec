use Rattle.std.proofs.Common.{◌≡◌, ◌++◌, drop}
use Rattle.code_writer.proofs.finish.literals.Given as goal

abbrev pub invariant-loop-l : goal.invariant-loop-l
invariant-loop-l l = l.copies ++ drop l.l-index l.all ≡ l.all

use Rattle.std.proofs.Common.{◌≡◌, ◌++◌, drop}
use Rattle.small_program.specs.Numbering.{statements_from}
use Rattle.small_program.proofs.sites.statements.Given as goal

abbrev pub invariant-loop-number : goal.invariant-loop-number
invariant-loop-number l = l.all ++ statements_from l.number (drop l.number l.prints) ≡ statements_from 0 l.prints

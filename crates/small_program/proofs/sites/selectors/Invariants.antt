use Rattle.std.proofs.Common.{◌≡◌, [], drop}
use Rattle.small_program.specs.Numbering.{noted_all, names_called}
use Rattle.small_program.proofs.sites.selectors.Given as goal

abbrev pub invariant-loop-print : goal.invariant-loop-print
invariant-loop-print l = noted_all l.all (names_called (drop l.print-index l.prints)) ≡ noted_all [] (names_called l.prints)

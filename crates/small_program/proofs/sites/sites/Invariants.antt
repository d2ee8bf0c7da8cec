use Rattle.std.proofs.Common.{◌≡◌, map, take}
use Rattle.small_program.specs.Numbering.{print_site}
use Rattle.small_program.proofs.sites.sites.Given as goal

abbrev pub invariant-loop-print : goal.invariant-loop-print
invariant-loop-print l = l.sites ≡ map (print_site l.all) (take l.print-index l.prints)

use Rattle.std.proofs.Common.{◌≡◌, ◌++◌, drop, map}
use Rattle.program.specs.Parts.{named_above}
use Rattle.class_table.proofs.table.supers_of.Given as goal

abbrev pub invariant-loop-interface : goal.invariant-loop-interface
invariant-loop-interface l = l.all ++ map (λ i. i.0) (drop l.interface-index l.interface-items) ≡ named_above l.class

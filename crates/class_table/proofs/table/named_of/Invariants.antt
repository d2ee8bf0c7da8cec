use Rattle.std.proofs.Common.{◌≡◌, ◌++◌, drop}
use Rattle.program.specs.Parts.{supers}
use Rattle.class_table.proofs.table.named_of.Given as goal

abbrev pub invariant-loop-class : goal.invariant-loop-class
invariant-loop-class l = l.all.items ++ supers (drop l.class-index l.classes) ≡ supers l.classes

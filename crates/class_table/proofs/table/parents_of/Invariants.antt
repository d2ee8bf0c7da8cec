use Rattle.std.proofs.Common.{◌≡◌, ◌++◌, drop}
use Rattle.program.specs.Parts.{parents}
use Rattle.class_table.proofs.table.parents_of.Given as goal

abbrev pub invariant-loop-class : goal.invariant-loop-class
invariant-loop-class l = l.all.items ++ parents (drop l.class-index l.classes) ≡ parents l.classes

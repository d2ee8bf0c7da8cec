use Rattle.std.proofs.Common.{◌≡◌, ◌++◌, drop, map}
use Rattle.class_table.proofs.table.abstracts_of.Given as goal

abbrev pub invariant-loop-class : goal.invariant-loop-class
invariant-loop-class l = l.all.items ++ map (λ k. k.is_abstract) (drop l.class-index l.classes) ≡ map (λ k. k.is_abstract) l.classes

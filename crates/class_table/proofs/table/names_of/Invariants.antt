use Rattle.std.proofs.Common.{◌≡◌, ◌++◌, drop, map, string_bytes}
use Rattle.class_table.proofs.table.names_of.Given as goal

abbrev pub invariant-loop-class : goal.invariant-loop-class
invariant-loop-class l = map string_bytes l.all.items ++ map (λ k. k.name) (drop l.class-index l.class-items) ≡ map (λ k. k.name) l.class-items

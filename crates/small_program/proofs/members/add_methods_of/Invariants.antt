use Rattle.std.proofs.Common.{◌≡◌, ◌++◌, map, take}
use Rattle.small_program.specs.Numbering.{method_of}
use Rattle.small_program.proofs.members.add_methods_of.Given as goal

abbrev pub invariant-loop-method : goal.invariant-loop-method
invariant-loop-method l = l.all ≡ l.initial.all ++ map (method_of l.owner) (take l.method-index l.methods)

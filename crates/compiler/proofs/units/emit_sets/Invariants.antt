use Rattle.std.proofs.Common.{◌≡◌, ◌+◌, drop}
use Rattle.code_writer.specs.EmittedStatements.{emit_sets}
use Rattle.compiler.proofs.units.emit_sets.Given as goal

abbrev pub invariant-loop-i : goal.invariant-loop-i
invariant-loop-i l = l.out ≡ emit_sets l.layout (drop l.i l.sets) (l.layout.first + l.i) l.initial.out

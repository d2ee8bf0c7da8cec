use Rattle.std.proofs.Common.{◌≡◌, map, drop}
use Rattle.program.specs.Bodies.{exp, exps}
use Rattle.code_writer.specs.EmittedStatements.{emit_drops}
use Rattle.body_writer.proofs.statements.emit_drops.Given as goal

abbrev pub invariant-loop-i : goal.invariant-loop-i
invariant-loop-i l = l.out ≡ emit_drops l.layout (exps (map exp (drop l.i l.all))) l.initial.out

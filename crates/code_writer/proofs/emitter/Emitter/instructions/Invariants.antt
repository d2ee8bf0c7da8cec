use Rattle.std.proofs.Common.{◌≡◌, drop}
use Rattle.code_writer.specs.Out.{turned}
use Rattle.code_writer.proofs.emitter.Emitter.instructions.Given as goal

abbrev pub invariant-loop-i : goal.invariant-loop-i
invariant-loop-i l = l.code ≡ turned l.count (drop l.i l.self.code)

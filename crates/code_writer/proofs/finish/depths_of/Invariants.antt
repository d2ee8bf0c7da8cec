use Rattle.std.proofs.Common.{◌≡◌, ◌++◌, drop}
use Rattle.program_code.specs.Depths.{depths_from}
use Rattle.code_writer.proofs.finish.depths_of.Given as goal

abbrev pub invariant-loop-instr : goal.invariant-loop-instr
invariant-loop-instr l = l.depths ++ depths_from l.depth (drop l.instr-index l.code) ≡ depths_from 0 l.code

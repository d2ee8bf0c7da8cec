use Rattle.std.proofs.Common.{◌≡◌, drop}
use Rattle.program_code.specs.Needs.{all_after}
use Rattle.code_writer.specs.Views.{stas_of}
use Rattle.body_writer.proofs.variables.open_behind.Given as goal

abbrev pub invariant-loop-x : goal.invariant-loop-x
invariant-loop-x l = all_after l.n (stas_of (drop l.x-index l.all)) ≡ all_after l.count (stas_of l.all)

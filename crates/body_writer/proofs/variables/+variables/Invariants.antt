use Rattle.std.proofs.Common.{◌≡◌, drop}
use Rattle.std.specs.Prelude.{max}
use Rattle.code_writer.specs.Views.{stas_of}
use Rattle.code_writer.specs.EmittedStatements.{most_open_all}
use Rattle.body_writer.proofs.variables.+variables.Given as goal

abbrev pub invariant-most_open_all-loop-x : goal.invariant-most_open_all-loop-x
invariant-most_open_all-loop-x l = max l.most (most_open_all l.n (stas_of (drop l.x-index l.all))) ≡ most_open_all l.count (stas_of l.all)

use Rattle.std.proofs.Common.{◌≡◌, ◌++◌, drop}
use Rattle.program.specs.Rows.{members_from}
use Rattle.program.proofs.built_in.members.Given as goal

abbrev pub invariant-loop-number : goal.invariant-loop-number
invariant-loop-number l = l.all ++ members_from l.number (drop l.number l.rows) ≡ members_from 0 l.rows

-- The places so far are fine.
use Rattle.code_unit.proofs.Places.{AreFine}
use Rattle.code_unit.proofs.check.check_unit.Given as goal

abbrev pub invariant-loop-place : goal.invariant-loop-place
invariant-loop-place l = AreFine l.unit l.place

use Rattle.std.proofs.Common.{◌≡◌, take}
use Rattle.isolate_calls.proofs.missing.told_name.Given as goal

abbrev pub invariant-loop-b : goal.invariant-loop-b
invariant-loop-b l = l.name ≡ take l.b-index l.sel.name

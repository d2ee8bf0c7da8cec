use Rattle.std.proofs.Common.{◌+◌, ◌*◌}
use Rattle.code_pool.specs.Machine.{longest}
use Rattle.isolate_run.proofs.running.run_isolate.Given as goal

-- as many instructions as the turns pay for, the first among them
abbrev pub ghost-run_loop : goal.ghost-run_loop
ghost-run_loop g a = (a.turns + 1 + 1) * (longest a.pool.now.units * (longest a.pool.now.units + 1))

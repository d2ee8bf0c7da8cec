use Rattle.std.proofs.Common.{subst}
use Rattle.program.specs.declared.numbered.Numbered.{Numbered}
use Rattle.program.specs.Program.{parts_of}
use Rattle.program_code.specs.IsCode.{HasCode}
use Rattle.compiled_runs.proofs.Able.{each_can_run, come_to}
use Rattle.compiled_runs.proofs.run_compiled.Goals as goal

pub run_one-requires : goal.run_one-requires
run_one-requires c =
    let code = subst (λ (x : Numbered). HasCode (parts_of x) c.in_ok-pool.pool) c.program.ensures c.in_ok-pool.ensures.code in
    record { can = each_can_run (parts_of c.args.linked.now.program) c.args.linked.now.program.sound c.in_ok-pool.pool code c.args.turns c.requires.turns c.args.entries.now c.requires.entries }

pub returns : goal.returns
returns c = λ ms meant.
    let code = subst (λ (x : Numbered). HasCode (parts_of x) c.in_ok-pool.pool) c.program.ensures c.in_ok-pool.ensures.code in
    c.in_ok-end.ensures ms (come_to (parts_of c.args.linked.now.program) c.args.linked.now.program.sound c.in_ok-pool.pool code c.args.turns c.args.entries.now c.requires.entries ms meant)

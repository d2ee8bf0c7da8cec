use Rattle.std.proofs.Common.{rules, ◌≡◌, ◌+◌, ◌-◌, ◌*◌, suc, ap, arith}
use Rattle.std.proofs.lemmas.Grind.{common_steps}
use Rattle.program.specs.Program.{parts_of}
use Rattle.code_pool.specs.Machine.{longest}
use Rattle.isolate_run.proofs.Starts.{entry_there, out_at_once, can_loop, came_whole}
use Rattle.isolate_run.proofs.running.run_isolate.Goals as goal

pub returns-then-turns-eq0-clause-came : goal.returns-then-turns-eq0-clause-came
returns-then-turns-eq0-clause-came g c =
    out_at_once (parts_of c.args.linked.now.program) c.args.pool.now (g.C.Cells.answers c.args.cells.now c.args.linked.now) c.args.entry.0 c.args.turns c.requires.can c.args.isolate.now c.requires.begun
    (g.C.Cells.After c.args.cells.now) c.args.cells.now (g.Q.Subtypes.After c.args.types.now) c.args.types.now (search rules) (g.met.C.Cells.after_none c.args.cells.now) (g.met.Q.Subtypes.after_none c.args.types.now)

pub entry_unit-u-requires : goal.entry_unit-u-requires
entry_unit-u-requires g c = entry_there (parts_of c.args.linked.now.program) c.args.pool.now (g.C.Cells.answers c.args.cells.now c.args.linked.now) c.args.entry.0 c.args.turns c.requires.can

pub run_loop-requires : goal.run_loop-requires
run_loop-requires g c κs within =
    let spent : c.args.turns ≡ suc (c.args.turns - 1) = grind (arith, c.if-turns-eq0.false, common_steps) in
    let all : c.args.turns - 1 + 1 + 1 ≡ c.args.turns + 1 = omega (arith, spent) in
    let can = can_loop (parts_of c.args.linked.now.program) c.args.pool.now (g.C.Cells.answers c.args.cells.now c.args.linked.now) c.args.entry.0 c.args.turns c.requires.can c.args.isolate.now c.requires.begun
    c.entry_unit-u.result c.entry_unit-u.ensures (c.args.turns - 1) spent ((c.args.turns - 1 + 1 + 1) * (longest c.args.pool.now.units * (longest c.args.pool.now.units + 1))) (ap (λ n. n * (longest c.args.pool.now.units * (longest c.args.pool.now.units + 1))) all) in
    (within.0, (within.1.0, (within.1.1.0, (within.1.1.1, (can, (c.requires.cells, c.requires.types))))))

pub returns-clause-came : goal.returns-clause-came
returns-clause-came g c =
    let spent : c.args.turns ≡ suc (c.args.turns - 1) = grind (arith, c.if-turns-eq0.false, common_steps) in
    let all : c.args.turns - 1 + 1 + 1 ≡ c.args.turns + 1 = omega (arith, spent) in
    came_whole (parts_of c.args.linked.now.program) c.args.pool.now (g.C.Cells.answers c.args.cells.now c.args.linked.now) c.args.entry.0 c.args.turns c.requires.can c.args.isolate.now c.requires.begun
    c.entry_unit-u.result c.entry_unit-u.ensures (c.args.turns - 1) spent ((c.args.turns - 1 + 1 + 1) * (longest c.args.pool.now.units * (longest c.args.pool.now.units + 1))) (ap (λ n. n * (longest c.args.pool.now.units * (longest c.args.pool.now.units + 1))) all)
    c.in_ok-flow.ensures.came

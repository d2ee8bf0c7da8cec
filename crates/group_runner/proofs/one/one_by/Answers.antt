use Rattle.std.proofs.Common.{refl, arith}
use Rattle.program.specs.Program.{parts_of}
use Rattle.group_runner.proofs.Entries.{none_ran, one_more, all_ran}
use Rattle.group_runner.proofs.one.one_by.Goals as goal

pub loop-entry-init : goal.loop-entry-init
loop-entry-init g c = (
  c.in_ok-cells.ensures.program,
  none_ran (parts_of c.args.linked.now.program) c.args.pool.now c.args.turns c.args.entries.now c.in_ok-cells.cells c.new-ended.result.items c.new-ended.ensures.items,
)

pub loop-entry-preserved : goal.loop-entry-preserved
loop-entry-preserved g c = (
  c.in_ok-end.ensures.cells,
  one_more (parts_of c.args.linked.now.program) c.args.pool.now c.args.turns c.args.entries.now c.in_ok-cells.cells c.loop-entry.entry-index _ c.loop-entry-test.true c.requires.can
      c.loop-entry.ended.items c.push.new.self.items c.loop-entry.cells c.run_entry.new.cells c.in_ok-end.end c.in_ok-push.ensures.items c.in_ok-end.ensures.ran c.loop-entry.invariant.1,
)

pub returns : goal.returns
returns g c = λ ms come.
    let told = all_ran (parts_of c.args.linked.now.program) c.args.pool.now c.args.turns c.args.entries.now c.in_ok-cells.cells c.args.linked.now refl c.in_ok-cells.ensures.program c.in_ok-cells.ensures.new
    c.loop-entry.entry-index (omega (arith, c.loop-entry-test.false)) c.loop-entry.ended.items c.loop-entry.cells c.loop-entry.invariant.1 ms come in
    record { ended = told.0; cells = told.1 }

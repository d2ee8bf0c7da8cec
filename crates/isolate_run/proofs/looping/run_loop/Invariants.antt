use Rattle.std.proofs.Common.{◌≡◌, ◌+◌, ◌-◌, ◌≤◌, [], slice_get}
use Rattle.std.specs.Prelude.{Some, option_map}
use Rattle.program.specs.Program.{parts_of}
use Rattle.code_pool.specs.Machine.{exec}
use Rattle.isolate_state.specs.State.{seen}
use Rattle.isolate_run.specs.Loop.{first_frame}
use Rattle.isolate_run.proofs.Far.{Far}
use Rattle.isolate_run.proofs.looping.run_loop.Given as goal

abbrev pub invariant-run : goal.invariant-run
invariant-run g l = record {
  far : Far (g.C.Cells.After l.initial.cells) l.cells (g.Q.Subtypes.After l.initial.types) l.types (parts_of l.linked.program) l.pool
      (g.C.Cells.answers l.initial.cells l.linked)
      (exec (parts_of l.linked.program) l.pool (g.C.Cells.answers l.initial.cells l.linked) g.bound (seen l.initial.isolate (first_frame l.fn.u) l.turns [] []))
      l.initial.isolate.calls.items (g.bound - (l.steps - l.initial.steps)) l.isolate l.frame l.left;
  cells : g.C.Cells.fits l.cells l.linked;
  answers : g.C.Cells.answers l.cells ≡ g.C.Cells.answers l.initial.cells;
  types : g.Q.Subtypes.fits l.types l.linked;
  code : option_map (λ unit. unit.code) (slice_get l.pool.units l.frame.unit.0) ≡ Some l.code;
  steps : l.initial.steps ≤ l.steps;
}

abbrev pub decreases-run : goal.decreases-run
decreases-run g l = g.bound + l.initial.steps - l.steps

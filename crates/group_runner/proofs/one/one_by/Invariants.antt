-- The entries before this one ran, and the cells are of the program.
use Rattle.std.proofs.Common.{◌≡◌, drop}
use Rattle.program.specs.Program.{parts_of}
use Rattle.call_cell.specs.Plain.{linked_of}
use Rattle.group_runner.proofs.Entries.{RanSoFar}
use Rattle.group_runner.proofs.one.one_by.Given as goal

abbrev pub invariant-loop-entry : goal.invariant-loop-entry
invariant-loop-entry g l =
    (linked_of l.cells ≡ l.linked)
    × RanSoFar (parts_of l.linked.program) l.pool l.turns l.entries (drop l.entry-index l.entries) l.initial.cells l.ended.items l.cells

use Rattle.std.proofs.Common.{◌≡◌, ◌++◌, drop}
use Rattle.std.specs.List.{flat_map}
use Rattle.program.specs.Program.{parts_of}
use Rattle.miss_handler.specs.States.{checks_of}
use Rattle.site_report.specs.Report.{next_check}
use Rattle.site_report.proofs.sites.push_row.Given as goal

abbrev pub invariant-loop-i : goal.invariant-loop-i
invariant-loop-i l =
    l.out.items ++ flat_map (next_check (parts_of l.program)) (drop l.i (checks_of l.row))
    ≡ l.initial.out.items ++ flat_map (next_check (parts_of l.program)) (drop 1 (checks_of l.row))

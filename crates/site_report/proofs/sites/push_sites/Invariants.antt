use Rattle.std.proofs.Common.{◌≡◌, ◌++◌, drop}
use Rattle.std.specs.List.{flat_map, enumerate_from}
use Rattle.program.specs.Program.{parts_of}
use Rattle.site_report.specs.Report.{numbered_line, count_at}
use Rattle.site_report.proofs.sites.push_sites.Given as goal

abbrev pub invariant-loop-number : goal.invariant-loop-number
invariant-loop-number g l =
    l.out.items ++ flat_map (numbered_line (parts_of l.linked.program) (count_at l.ended) (g.S.SiteStates.state_at l.states) (g.S.SiteStates.row_at l.states)) (enumerate_from l.number (drop l.number l.linked.program.sites))
    ≡ l.initial.out.items ++ flat_map (numbered_line (parts_of l.linked.program) (count_at l.ended) (g.S.SiteStates.state_at l.states) (g.S.SiteStates.row_at l.states)) (enumerate_from 0 l.linked.program.sites)

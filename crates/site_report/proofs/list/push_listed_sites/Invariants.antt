use Rattle.std.proofs.Common.{◌≡◌, ◌++◌, drop}
use Rattle.std.specs.List.{flat_map, enumerate_from}
use Rattle.program.specs.Program.{parts_of}
use Rattle.site_report.specs.Report.{listed_site}
use Rattle.site_report.proofs.list.push_listed_sites.Given as goal

abbrev pub invariant-loop-number : goal.invariant-loop-number
invariant-loop-number l =
    l.out.items ++ flat_map (listed_site (parts_of l.program)) (enumerate_from l.number (drop l.number l.program.sites))
    ≡ l.initial.out.items ++ flat_map (listed_site (parts_of l.program)) (enumerate_from 0 l.program.sites)

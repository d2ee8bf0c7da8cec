use Rattle.std.proofs.Common.{◌≡◌, ◌++◌, take}
use Rattle.site_report.specs.Report.{printed}
use Rattle.site_report.proofs.entries.push_lines.Given as goal

abbrev pub invariant-loop-line : goal.invariant-loop-line
invariant-loop-line l = l.out.items ≡ l.initial.out.items ++ printed (take l.line-index l.lines)

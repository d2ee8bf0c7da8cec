use Rattle.std.proofs.Common.{◌≡◌, ◌++◌, drop}
use Rattle.std.specs.List.{flat_map, enumerate_from}
use Rattle.program.specs.Program.{parts_of}
use Rattle.site_report.specs.Report.{class_line}
use Rattle.site_report.proofs.list.push_classes.Given as goal

abbrev pub invariant-loop-number : goal.invariant-loop-number
invariant-loop-number l =
    l.out.items ++ flat_map (class_line (parts_of l.linked.program)) (enumerate_from l.number (drop l.number l.linked.program.classes))
    ≡ l.initial.out.items ++ flat_map (class_line (parts_of l.linked.program)) (enumerate_from 0 l.linked.program.classes)

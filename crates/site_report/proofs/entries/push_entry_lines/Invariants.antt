use Rattle.std.proofs.Common.{◌≡◌, ◌++◌, drop, map}
use Rattle.std.specs.Prelude.{string_bytes}
use Rattle.std.specs.List.{flat_map, enumerate_from}
use Rattle.site_report.specs.Report.{told_by, entry_line}
use Rattle.site_report.proofs.entries.push_entry_lines.Given as goal

abbrev pub invariant-loop-number : goal.invariant-loop-number
invariant-loop-number l =
    l.out.items ++ flat_map entry_line (enumerate_from l.number (told_by (map string_bytes (drop l.number l.names)) (drop l.number l.ended)))
    ≡ l.initial.out.items ++ flat_map entry_line (enumerate_from 0 (told_by (map string_bytes l.names) l.ended))

use Rattle.std.proofs.Common.{◌≡◌, ◌++◌, drop, map}
use Rattle.std.specs.Prelude.{string_bytes}
use Rattle.std.specs.List.{flat_map, enumerate_from}
use Rattle.site_report.specs.Report.{told_by, entry_text}
use Rattle.site_report.proofs.entries.push_entries.Given as goal

abbrev pub invariant-loop-number : goal.invariant-loop-number
invariant-loop-number l =
    l.out.items ++ flat_map entry_text (enumerate_from l.number (told_by (map string_bytes (drop l.number l.names)) (drop l.number l.ended)))
    ≡ l.initial.out.items ++ flat_map entry_text (enumerate_from 0 (told_by (map string_bytes l.names) l.ended))

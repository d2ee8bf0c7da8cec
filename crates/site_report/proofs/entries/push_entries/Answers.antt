use Rattle.std.proofs.Common.{◌+◌, ◌++◌, map, drop, length, ap, ◌∙◌, sym, refl, arith}
use Rattle.std.specs.Prelude.{string_bytes}
use Rattle.site_report.specs.Report.{told, told_by, entry_text}
use Rattle.site_report.proofs.Walks.{told_at, told_all, written}
use Rattle.site_report.proofs.entries.push_entries.Goals as goal

pub loop-number-preserved : goal.loop-number-preserved
loop-number-preserved c =
    let names = c.args.names.now in
    let ended = c.args.ended.now in
    let i = c.loop-number.number in
    let there = told_at names ended i c.index-names-number.result c.index-ended-number.result c.loop-number-test.true (omega arith) c.index-names-number.is c.index-ended-number.is in
    let more = c.in_ok-push_entry.ensures ∙ ap (λ name. c.loop-number.out.items ++ entry_text (i, told (name, c.index-ended-number.result))) c.as_str.ensures.value in
    written entry_text i (told (string_bytes c.index-names-number.result, c.index-ended-number.result)) (told_by (map string_bytes (drop i names)) (drop i ended)) (told_by (map string_bytes (drop (i + 1) names)) (drop (i + 1) ended)) c.loop-number.out.items c.push_entry.new.out.items there more
    ∙ c.loop-number.invariant

pub returns : goal.returns
returns c = told_all entry_text c.args.names.now c.args.ended.now c.loop-number.number c.loop-number.out.items _ c.loop-number-test.false c.loop-number.invariant

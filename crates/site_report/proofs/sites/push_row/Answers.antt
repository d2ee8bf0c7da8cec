use Rattle.std.proofs.Common.{◌<◌, ◌≤◌, ◌++◌, length, slice_get, sym, ◌∙◌, ap, subst, arith}
use Rattle.std.specs.List.{flat_map}
use Rattle.std.proofs.lemmas.List.{drop_all, append-nil}
use Rattle.program.specs.Program.{parts_of}
use Rattle.miss_handler.specs.States.{checks_of}
use Rattle.site_report.specs.Report.{check_of, next_check}
use Rattle.site_report.proofs.Walks.{row_on, row_whole}
use Rattle.site_report.proofs.sites.push_row.Goals as goal

pub loop-i-preserved : goal.loop-i-preserved
loop-i-preserved c =
    let p = parts_of c.args.program.now in
    let row = checks_of c.args.row.now in
    let i = c.loop-i.i in
    let lt : i < length row = subst (λ n. i < n) c.len-i-end.ensures c.loop-i-test.true in
    row_on p row i c.loop-i.out.items c.push_check-in-loop-i.new.out.items lt
    (c.in_ok-push_check-2.ensures ∙ ap (λ l. l ++ check_of p (slice_get row i)) c.in_ok-push-2.ensures)
    ∙ c.loop-i.invariant

pub returns : goal.returns
returns c =
    let p = parts_of c.args.program.now in
    let row = checks_of c.args.row.now in
    let count = c.len.ensures in
    let some = c.if-len-eq0.false in
    let le : length row ≤ c.loop-i.i = subst (λ n. n ≤ c.loop-i.i) c.len-i-end.ensures c.loop-i-test.false in
    let first = c.in_ok-push_check.ensures ∙ ap (λ l. l ++ check_of p (slice_get row 0)) c.in_ok-push.ensures in
    sym (append-nil c.loop-i.out.items)
    ∙ ap (λ l. c.loop-i.out.items ++ flat_map (next_check p) l) (sym (drop_all c.loop-i.i row le))
    ∙ c.loop-i.invariant
    ∙ row_whole p row c.args.out.now.items c.push_check.new.out.items (omega (arith, count, some)) first

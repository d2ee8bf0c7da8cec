use Rattle.std.proofs.Common.{length, ap, sym, subst, ◌∙◌, arith}
use Rattle.std.specs.List.{list_all}
use Rattle.program.specs.Parts.{Parts}
use Rattle.program.specs.Program.{parts_of}
use Rattle.call_cell.specs.Plain.{kept}
use Rattle.isolate_run.specs.declared.ended.Ended.{Ended}
use Rattle.isolate_run.specs.Ran.{ending_of}
use Rattle.site_report.specs.Report.{AreCounted, told_by, count_at, report_text}
use Rattle.dart_sites.specs.Words.{texts}
use Rattle.dart_sites.specs.Runs.{is_done}
use Rattle.dart_sites.proofs.EntryNames.{meant, as_many_meant}
use Rattle.dart_sites.proofs.Reports.{tells_as_many, each_counted, each_done, text_same, states_named, one_alone}
use Rattle.dart_sites.proofs.running.run_entries.Goals as goal

pub run_text-requires-clause-as_many : goal.run_text-requires-clause-as_many
run_text-requires-clause-as_many c =
    let p = parts_of c.args.linked.now.program in
    let ms = meant p c.args.turns c.args.entries.now c.requires.entries in
    let ended = c.in_ok-end.ensures ms.0 ms.1 in
    let same = ap length c.as_slice-ended.ensures.value in
    omega (arith, c.requires.names, as_many_meant p c.args.turns c.args.entries.now ms.0 ms.1, tells_as_many p ms.0 c.in_ok-end.end.ended.items ended.ended, same)

pub run_text-requires-clause-few : goal.run_text-requires-clause-few
run_text-requires-clause-few c =
    let p = parts_of c.args.linked.now.program in
    let ms = meant p c.args.turns c.args.entries.now c.requires.entries in
    let ended = c.in_ok-end.ensures ms.0 ms.1 in
    let same = ap length c.as_slice-ended.ensures.value in
    omega (arith, c.requires.few, as_many_meant p c.args.turns c.args.entries.now ms.0 ms.1, tells_as_many p ms.0 c.in_ok-end.end.ended.items ended.ended, same)

pub run_text-requires-clause-counted : goal.run_text-requires-clause-counted
run_text-requires-clause-counted c =
    let p = parts_of c.args.linked.now.program in
    let ms = meant p c.args.turns c.args.entries.now c.requires.entries in
    let ended = c.in_ok-end.ensures ms.0 ms.1 in
    subst (AreCounted p) (sym c.as_slice-ended.ensures.value) (each_counted p ms.0 c.in_ok-end.end.ended.items ended.ended)

pub run_text-requires-clause-sites : goal.run_text-requires-clause-sites
run_text-requires-clause-sites c =
    let p = parts_of c.args.linked.now.program in
    let ms = meant p c.args.turns c.args.entries.now c.requires.entries in
    let ended = c.in_ok-end.ensures ms.0 ms.1 in
    ap (λ (q : Parts). length q.sites) (one_alone p ms.0 c.in_ok-end.end c.plain_of-cells.result.now c.plain_of-cells.ensures ended).program

pub run_text-requires-clause-named : goal.run_text-requires-clause-named
run_text-requires-clause-named c =
    let p = parts_of c.args.linked.now.program in
    let ms = meant p c.args.turns c.args.entries.now c.requires.entries in
    let ended = c.in_ok-end.ensures ms.0 ms.1 in
    states_named p _ c.plain_of-cells.result.now (one_alone p ms.0 c.in_ok-end.end c.plain_of-cells.result.now c.plain_of-cells.ensures ended)

pub returns : goal.returns
returns c =
    let p = parts_of c.args.linked.now.program in
    let ms = meant p c.args.turns c.args.entries.now c.requires.entries in
    let ended = c.in_ok-end.ensures ms.0 ms.1 in
    let cells = c.plain_of-cells.result.now in
    let alone = one_alone p ms.0 c.in_ok-end.end cells c.plain_of-cells.ensures ended in
    record {
      meanings = ms.0;
      each_means = ms.1;
      text_is = c.in_ok-text.ensures
          ∙ ap (λ es. report_text p (told_by (texts c.args.names.now) es) (count_at es) (λ s. ((kept cells).site s).state) (λ s. ((kept cells).site s).row)) c.as_slice-ended.ensures.value
          ∙ text_same p (texts c.args.names.now) ms.0 c.in_ok-end.end.ended.items cells ended.ended alone;
      done_is = c.all_done.ensures ∙ ap (list_all (λ (e : Ended). is_done (ending_of e.ending))) c.as_slice-ended.ensures.value ∙ each_done p ms.0 c.in_ok-end.end.ended.items ended.ended;
    }

use Rattle.std.proofs.Common.{◌≡◌, ◌≤◌, ◌+◌, ◌*◌, ◌^◌, drop, fold, length}
use Rattle.std.specs.Prelude.{slice_index}
use Rattle.isolate_run.specs.declared.ended.Ended.{Ended}
use Rattle.site_report.specs.Report.{count_at}
use Rattle.site_report.proofs.counts.count_at.Given as goal

abbrev pub invariant-loop-entry : goal.invariant-loop-entry
invariant-loop-entry l = record {
  so_far : fold (λ n (e : Ended). n + slice_index e.calls.items l.site) l.count (drop l.entry-index l.ended) ≡ count_at l.ended l.site;
  small : l.count ≤ l.entry-index * 2 ^ 64;
}

use Rattle.std.proofs.Common.{◌≡◌, ◌≤◌, ◌+◌, ◌*◌, ◌^◌, drop, fold}
use Rattle.std.specs.Prelude.{sum}
use Rattle.isolate_run.specs.declared.ended.Ended.{Ended}
use Rattle.site_report.specs.Report.{count_of}
use Rattle.site_report.proofs.counts.count_of.Given as goal

abbrev pub invariant-loop-entry : goal.invariant-loop-entry
invariant-loop-entry l = record {
  so_far : fold (λ n (e : Ended). n + sum e.calls.items) l.total (drop l.entry-index l.ended) ≡ count_of l.ended;
  small : l.total ≤ l.entry-index * 2 ^ 80;
}

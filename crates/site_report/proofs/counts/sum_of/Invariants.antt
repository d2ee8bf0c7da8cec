use Rattle.std.proofs.Common.{◌≡◌, ◌≤◌, ◌+◌, ◌*◌, ◌^◌, drop, fold}
use Rattle.std.specs.Prelude.{sum}
use Rattle.site_report.proofs.counts.sum_of.Given as goal

abbrev pub invariant-loop-count : goal.invariant-loop-count
invariant-loop-count l = record {
  so_far : fold (λ n m. n + m) l.total (drop l.count-index l.counts) ≡ sum l.counts;
  small : l.total ≤ l.count-index * 2 ^ 64;
}

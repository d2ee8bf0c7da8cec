use Rattle.std.proofs.Common.{◌≤◌, ◌+◌, length, drop, fold, ◌∙◌, subst, sym, ap, arith}
use Rattle.std.specs.Prelude.{sum}
use Rattle.isolate_run.specs.declared.ended.Ended.{Ended}
use Rattle.site_report.proofs.Walks.{next_of}
use Rattle.site_report.proofs.counts.count_of.Goals as goal

pub loop-entry-preserved : goal.loop-entry-preserved
loop-entry-preserved c =
    let ended = c.args.ended.now in
    let i = c.loop-entry.entry-index in
    let few = subst (λ (e : Ended). length e.calls.items ≤ 65536) (sym c.entry-item.is) (c.requires.small i c.entry-item.result c.loop-entry-test.true) in
    let same = ap (λ l. length l) c.deref.ensures.value in
    let before = c.loop-entry.invariant.small in
    let more = c.sum_of-total.ensures.small in
    let here = c.sum_of-total.ensures.sum ∙ ap sum c.deref.ensures.value in
    let is = next_of ended i c.entry-item.result c.loop-entry-test.true c.entry-item.is in
    record {
      so_far = ap (λ m. fold (λ n (e : Ended). n + sum e.calls.items) (c.loop-entry.total + m) (drop (i + 1) ended)) here
          ∙ sym (ap (λ l. fold (λ n (e : Ended). n + sum e.calls.items) c.loop-entry.total l) is)
          ∙ c.loop-entry.invariant.so_far;
      small = omega (arith, few, same, before, more);
    }

use Rattle.std.proofs.Common.{ap, ◌∙◌, ◌+◌}
use Rattle.dart_syntax.specs.View.{top}
use Rattle.dart_meaning.specs.Classes.{function_at}
use Rattle.static_rules.specs.Accepted.{one_if}
use Rattle.declaration_rules.proofs.Counting.{next_kept}
use Rattle.declaration_rules.proofs.counts.function_count.Goals as goal

pub loop-t-preserved : goal.loop-t-preserved
loop-t-preserved c =
    next_kept function_at top c.args.tops.now c.loop-t.t-index c.t-item.result c.loop-t.n c.in_ok-n.n _ c.loop-t-test.true c.t-item.is
    (c.in_ok-n.ensures ∙ ap (λ k. c.loop-t.n + k) (c.one_if.ensures ∙ ap one_if c.is_function.ensures)) c.loop-t.invariant

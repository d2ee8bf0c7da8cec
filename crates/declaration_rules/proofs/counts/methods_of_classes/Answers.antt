use Rattle.std.proofs.Common.{ap, ◌∙◌, ◌+◌, map, sum_by}
use Rattle.dart_syntax.specs.View.{member}
use Rattle.static_rules.specs.Accepted.{methods_of}
use Rattle.declaration_rules.specs.Counting.{in_class}
use Rattle.declaration_rules.specs.Seen.{class_of}
use Rattle.declaration_rules.proofs.Counting.{next_sum}
use Rattle.declaration_rules.proofs.counts.methods_of_classes.Goals as goal

pub loop-c-preserved : goal.loop-c-preserved
loop-c-preserved c =
    next_sum in_class class_of c.args.classes.now c.loop-c.c-index c.c-item.result c.loop-c.n c.in_ok-n.n _ c.loop-c-test.true c.c-item.is
    (c.in_ok-n.ensures ∙ ap (λ k. c.loop-c.n + k) (c.in_ok-methods_of_all.ensures ∙ ap (λ ms. sum_by methods_of (map member ms)) c.as_slice.ensures)) c.loop-c.invariant

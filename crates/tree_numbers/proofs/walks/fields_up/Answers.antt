use Rattle.std.proofs.Common.{◌∙◌, ap, sym, ◌+◌, ◌-◌}
use Rattle.tree_numbers.specs.ClassFacts.{knows}
use Rattle.tree_numbers.specs.Walks.{fields_up, field_count}
use Rattle.tree_numbers.proofs.Climbing.{fields_further}
use Rattle.tree_numbers.proofs.walks.fields_up.Goals as goal

pub loop-left-preserved : goal.loop-left-preserved
loop-left-preserved c =
    let known = knows c.args.known.now in
    ap (λ k. fields_up (c.loop-left.left - 1) known c.in-Some.parent.now + k) (c.in_ok-count.ensures ∙ ap (λ k. c.loop-left.count + k) (c.field_count.ensures ∙ ap field_count c.class_of.ensures))
    ∙ fields_further known c.loop-left.left c.loop-left.at.now c.in-Some.parent.now c.loop-left.count _ c.loop-left-test.true (sym c.in-Some.ensures) c.loop-left.invariant

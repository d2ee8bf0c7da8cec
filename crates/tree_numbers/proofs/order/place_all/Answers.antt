use Rattle.std.proofs.Common.{◌∙◌, ap, sym, ◌++◌, []}
use Rattle.tree_numbers.specs.Parts.{texts, text_of}
use Rattle.tree_numbers.specs.Order.{below_in, todo}
use Rattle.tree_numbers.proofs.Preorder.{todo_last, fewer}
use Rattle.tree_numbers.proofs.order.place_all.Goals as goal

pub loop-first-preserved : goal.loop-first-preserved
loop-first-preserved c =
    let b = below_in c.args.below.now in
    c.in_ok-place_first.ensures.same
    ∙ ap (λ t. texts c.loop-first.order.items ++ t) (sym (ap (todo b) c.in-Some.ensures.items ∙ todo_last b [] c.pop.new.self.items c.in-Some.first))
    ∙ c.loop-first.invariant

pub loop-first-smaller : goal.loop-first-smaller
loop-first-smaller c =
    let b = below_in c.args.below.now in
    fewer text_of c.loop-first.order.items c.place_first.new.order.items _ _ (todo b c.place_first.new.waiting.items) _ c.pop.new.self.items c.place_first.new.waiting.items c.in-Some.first
    (ap (todo b) c.in-Some.ensures.items ∙ todo_last b [] c.pop.new.self.items c.in-Some.first)
    c.in-Some.ensures.items c.in_ok-place_first.ensures.same c.in_ok-place_first.ensures.most

use Rattle.std.proofs.Common.{◌∙◌, ap, sym, refl, suc, ◌++◌, ◌∷◌, [], flat_map}
use Rattle.tree_numbers.specs.Parts.{texts}
use Rattle.tree_numbers.specs.Order.{below_in, ordered, todo}
use Rattle.tree_numbers.proofs.Preorder.{texts_last, placed, first_placed}
use Rattle.tree_numbers.proofs.order.place_first.Goals as goal

pub returns-in_ok-place_below-clause-same : goal.returns-in_ok-place_below-clause-same
returns-in_ok-place_below-clause-same c =
    let b = below_in c.args.below.now in
    let levels = c.args.first.levels in
    let order = texts c.args.order.now.items in
    let name = c.in-Some.name.now.now in
    let later = todo b c.args.waiting.now.items in
    let rest = flat_map (ordered (suc levels) b) (texts c.in-Some.rest.now) in
    let kids = flat_map (ordered levels b) (b name) in
    ap (λ xs. texts xs ++ todo b c.place_below.new.waiting.items) c.in_ok-push.ensures.items
    ∙ ap (λ xs. xs ++ todo b c.place_below.new.waiting.items) (texts_last c.args.order.now.items c.in-Some.name.now)
    ∙ ap (λ xs. (order ++ name ∷ []) ++ xs) (c.in_ok-place_below.ensures.below b ∙ ap (λ xs. flat_map (ordered levels b) xs ++ todo b c.push-in-Some.new.self.items) c.children.ensures
    ∙ ap (λ xs. kids ++ xs) (ap (todo b) c.in_ok-push-2.ensures.items ∙ placed b c.args.waiting.now.items (record { levels = levels; names = c.in-Some.rest }) (suc levels) (texts c.in-Some.rest.now) refl refl))
    ∙ first_placed order kids rest later name
    ∙ ap (λ xs. order ++ (flat_map (ordered (suc levels) b) (texts xs) ++ later)) (sym c.in-Some.ensures.cases.0)

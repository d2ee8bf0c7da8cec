use Rattle.std.proofs.Common.{◌∙◌, ap, cond, bytes_eq, ◌++◌, ◌∷◌, [], Some}
use Rattle.tree_numbers.specs.Order.{below_in, names_in}
use Rattle.tree_numbers.specs.Maps.{in_map}
use Rattle.tree_numbers.specs.Parts.{texts}
use Rattle.tree_numbers.proofs.Preorder.{comes_below, taken_and_put, texts_last}
use Rattle.tree_numbers.proofs.order.add_below.Goals as goal

pub returns : goal.returns
unfolding below_in in_map
returns c =
    comes_below (below_in c.args.below.now) (below_in c.insert.new.self) c.args.above.now c.args.name.now (λ q.
    ap names_in (c.in_ok-insert.ensures.updates.0 (record { ref_ptr = c.args.above.ref_ptr; now = q }))
    ∙ ap (λ o. names_in (cond (bytes_eq c.args.above.now q) (Some c.push.new.self) o)) (c.remove.ensures.updates.0 (record { ref_ptr = c.args.above.ref_ptr; now = q }))
    ∙ taken_and_put (bytes_eq c.args.above.now q) c.push.new.self (in_map c.args.below.now q)
    ∙ ap (λ names. cond (bytes_eq c.args.above.now q) names (below_in c.args.below.now q))
    (ap texts c.in_ok-push.ensures.items ∙ texts_last c.names_or_none-names.result.items c.args.name ∙ ap (λ names. names ++ c.args.name.now ∷ []) (c.names_or_none-names.ensures ∙ ap names_in c.remove.ensures.value)))

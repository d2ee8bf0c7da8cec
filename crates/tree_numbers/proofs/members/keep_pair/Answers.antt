use Rattle.std.proofs.Common.{◌∙◌, sym}
use Rattle.tree_numbers.specs.Members.{in_pairs}
use Rattle.tree_numbers.proofs.Pairs.{stays_known, comes_new}
use Rattle.tree_numbers.proofs.members.keep_pair.Goals as goal

pub returns-then-contains_key : goal.returns-then-contains_key
unfolding in_pairs
returns-then-contains_key c = stays_known (in_pairs c.args.pairs.now) c.args.key.class.now c.args.key.name.now c.args.n (sym c.contains_key.ensures ∙ c.if-contains_key.true)

pub returns : goal.returns
unfolding in_pairs
returns c =
    comes_new (in_pairs c.args.pairs.now) _ c.args.key.class.now c.args.key.name.now c.args.n (sym c.contains_key.ensures ∙ c.if-contains_key.false)
    (λ p q. c.in_ok-insert.ensures.updates.0 (record { ref_ptr = c.args.key.class.ref_ptr; now = p }, record { ref_ptr = c.args.key.name.ref_ptr; now = q }))

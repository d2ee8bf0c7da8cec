use Rattle.std.proofs.Common.{sym, ap, ◌∙◌, subst, arith}
use Rattle.cell_rule.specs.declared.view.View.{View}
use Rattle.cell_rule.specs.Stamps.{Settled}
use Rattle.cell_rule.proofs.Endings.{settled_append}
use Rattle.shared_cells.proofs.table.Pass.join.Goals as goal

pub invariant_of-self : goal.invariant_of-self
invariant_of-self c = let a = c.args.self.now in let b = c.args.other in let is = c.join.ensures.both in let share = ap (λ (v : View). v.share) is in let some_share = a.some_share in record {
  no_slots = c.join.ensures.same.2 ∙ a.no_slots;
  closed = ap (λ (v : View). v.pending) is;
  some_share = omega arith;
  settled = subst (λ (v : View). Settled v.seen) (sym is) (settled_append a.seat.me.0.seen b.seat.me.0.seen a.settled b.settled);
}

use Rattle.std.proofs.Common.{◌≡◌, ◌-◌, suc, subst, arith}
use Rattle.class_table.specs.Lasts.{AreRaised}
use Rattle.class_table.proofs.Telling.{begins, steps, ends}
use Rattle.class_table.proofs.raising.lasts.Goals as goal

pub loop-k-init : goal.loop-k-init
loop-k-init c = record {
  within = omega arith;
  raised = begins c.args.parents.now c.requires.order c.in_ok-last.last.items c.in_ok-last.ensures.0 c.in_ok-last.ensures.1;
}

pub loop-k-preserved : goal.loop-k-preserved
loop-k-preserved c =
    let one : c.loop-k.k ≡ suc (c.loop-k.k - 1) = omega arith in
    record {
      within = omega arith;
      raised = rw c.raise.ensures (steps c.args.parents.now c.requires.order (c.loop-k.k - 1) c.loop-k.last.items (omega arith) (subst (λ k. AreRaised c.args.parents.now k c.loop-k.last.items) one c.loop-k.invariant.raised));
    }

pub returns : goal.returns
returns c =
    let none : c.loop-k.k ≡ 0 = omega arith in
    ends c.args.parents.now c.requires.order c.loop-k.last.items (subst (λ k. AreRaised c.args.parents.now k c.loop-k.last.items) none c.loop-k.invariant.raised)

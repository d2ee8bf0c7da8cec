use Rattle.std.proofs.Common.{◌≡◌, ◌≤◌, ℕ, sym, ap, subst, arith, slice_index, IsTrue, leb}
use Rattle.std.proofs.lemmas.Bool.Decides.{nat_tests}
use Rattle.std.proofs.lemmas.Grind.{common_steps}
use Rattle.program.specs.Hierarchy.{IsPreorder, IsLast}
use Rattle.program.proofs.Intervals.{last_interval, above_le}
use Rattle.class_table.specs.Lasts.{AreLasts}
use Rattle.class_table.specs.Table.{Table}
use Rattle.class_table.proofs.table.ClassTable.is_subclass.Goals as goal

to_test : (a x : ℕ) → a ≤ x → IsTrue (leb a x)
to_test a x h = grind (arith, nat_tests)

from_test : (a x : ℕ) → IsTrue (leb a x) → a ≤ x
from_test a x h = grind (arith, nat_tests)

pub returns-then-b-a-clause-above : goal.returns-then-b-a-clause-above
returns-then-b-a-clause-above c =
    let up : c.self.inside.parents.items ≡ c.args.self.now.parents = ap (λ (t : Table). t.parents) c.self.view_is in
    let order : IsPreorder c.args.self.now.parents = subst IsPreorder up c.self.invariant.order in
    let lasts : AreLasts c.args.self.now.parents c.self.inside.last.items = subst (λ up. AreLasts up c.self.inside.last.items) up c.self.invariant.lasts in
    let is : IsLast c.args.self.now.parents c.args.b.0 (slice_index c.self.inside.last.items c.args.b.0) = lasts.each c.args.b.0 c.requires.b_there in
    let both = last_interval c.args.self.now.parents order c.args.b.0 (slice_index c.self.inside.last.items c.args.b.0) c.args.a.0 is c.requires.a_there in
    let same : c.index.result.now ≡ slice_index c.self.inside.last.items c.args.b.0 = grind (arith, common_steps, lasts.same, c.index.ensures) in
    (λ t. both.1 (c.if-b-a.true, subst (λ n. c.args.a.0 ≤ n) same (from_test _ _ t)), λ t. to_test _ _ (subst (λ n. c.args.a.0 ≤ n) (sym same) (both.0 t).1))

pub returns-else-b-a-clause-above : goal.returns-else-b-a-clause-above
returns-else-b-a-clause-above c =
    let order : IsPreorder c.args.self.now.parents = subst IsPreorder (ap (λ (t : Table). t.parents) c.self.view_is) c.self.invariant.order in
    (λ t. let le = from_test _ _ t in absurd (omega arith), λ t. let le = above_le c.args.self.now.parents order c.args.b.0 c.args.a.0 t in absurd (omega arith))

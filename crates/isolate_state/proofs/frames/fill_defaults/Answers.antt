use Rattle.std.proofs.Common.{rules, ◌≡◌, ◌-◌, length, drop, take, ap, refl}
use Rattle.isolate_state.proofs.Fills.{defaulted}
use Rattle.isolate_state.proofs.frames.fill_defaults.Goals as goal

pub returns : goal.returns
returns c =
    let size : c.len.result ≡ length c.args.unit.now.defaults = search rules in
    let k = c.len.result - (c.args.unit.now.params - c.args.n) in
    defaulted c.args.unit.now c.args.n k c.args.isolate.now (record c.args.isolate.now { heap = c.push_literals.new.heap; values = c.push_literals.new.values })
    _ c.requires.few c.requires.enough (ap (λ n. n - (c.args.unit.now.params - c.args.n)) size) (search rules) c.in_ok-push_literals.ensures.values
    c.in_ok-push_literals.ensures.of_heap c.in_ok-push_literals.ensures.same c.in_ok-push_literals.ensures.keeps refl

use Rattle.std.proofs.Common.{ℕ, ◌-◌, subst}
use Rattle.isolate_state.specs.State.{Filled}
use Rattle.isolate_state.proofs.Fills.{filled_plain, filled_more}
use Rattle.isolate_state.proofs.frames.fill.Goals as goal

pub returns-then-n-unit : goal.returns-then-n-unit
returns-then-n-unit c =
    subst (λ (k : ℕ). Filled c.args.unit.now c.args.n k c.args.isolate.now c.push_nulls.new.isolate) c.saturating_sub-more.ensures
    (filled_plain c.args.unit.now c.args.n c.saturating_sub-more.result c.args.isolate.now c.push_nulls.new.isolate
    c.if-n-unit.true c.requires.held c.in_ok-push_nulls.ensures.values c.in_ok-push_nulls.ensures.rest)

pub returns : goal.returns
returns c =
    subst (λ (k : ℕ). Filled c.args.unit.now c.args.n k c.args.isolate.now c.push_nulls-2.new.isolate) c.saturating_sub-more.ensures
    (filled_more c.args.unit.now c.args.n c.saturating_sub-more.result c.args.isolate.now c.fill_defaults.new.isolate c.push_nulls-2.new.isolate
    c.in_ok-fill_defaults.ensures c.in_ok-push_nulls-2.ensures.values c.in_ok-push_nulls-2.ensures.rest)

use Rattle.std.proofs.Common.{ℕ, subst}
use Rattle.shared_cells.specs.Runs.{Looked}
use Rattle.shared_cells.proofs.Turns.{looked, finish_round, far_round}
use Rattle.shared_cells.proofs.dispatch.turn.Goals as goal

pub level-requires-clause-looked : goal.level-requires-clause-looked
level-requires-clause-looked g c =
    let p = g.N.Call.about in let x = g.N.Call.site in let k = g.N.Call.class in let i = c.load_data-newest.result.1 in let u = c.load_data-newest.new.seat.me.0 in
    subst (λ (z : ℕ). Looked p x k c.args.at.head.0 c.args.at.head.1 c.args.at.newest c.args.at.tried g.N.Call.start z i u) c.if-newest-stamp.true (looked p x k _ _ _ _ _ _ _ _ u c.requires.running c.load_data-newest.ensures.told)

pub returns-then-newest-stamp-eq1-clause-turned : goal.returns-then-newest-stamp-eq1-clause-turned
returns-then-newest-stamp-eq1-clause-turned g c =
    let p = g.N.Call.about in let x = g.N.Call.site in let k = g.N.Call.class in let u = c.load_data-newest.new.seat.me.0 in
    let l = looked p x k _ _ _ _ _ _ _ _ u c.requires.running c.load_data-newest.ensures.told in
    finish_round p x k _ _ _ _ _ _ _ u l c.if-newest-stamp.false _ _ _ c.finish_target.ensures.told c.finish_target.ensures.rose _ _ _ c.load_target-head.ensures.told

pub returns-clause-turned : goal.returns-clause-turned
returns-clause-turned g c =
    let p = g.N.Call.about in let x = g.N.Call.site in let k = g.N.Call.class in let u = c.load_data-newest.new.seat.me.0 in
    let l = looked p x k _ _ _ _ _ _ _ _ u c.requires.running c.load_data-newest.ensures.told in
    far_round p x k _ _ _ _ _ _ _ u l c.if-newest-stamp.false c.if-newest-stamp-eq1.false _ _ _ c.load_target-head-2.ensures.told

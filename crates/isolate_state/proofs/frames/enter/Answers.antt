use Rattle.std.proofs.Common.{◌≡◌, ◌-◌, ◌+◌, ◌<◌, length, suc, ap, refl, arith, rules}
use Rattle.isolate_state.proofs.Enters.{begins}
use Rattle.isolate_state.proofs.frames.enter.Goals as goal

pub returns : goal.returns
returns c =
    let size : c.len-2.result ≡ length c.args.isolate.now.values.items = search rules in
    let callers : c.len.result ≡ length c.args.isolate.now.callers.items = search rules in
    begins c.args.pool.now c.args.u.0 c.args.n c.unit-unit.result.now c.args.isolate.now c.fill.new.isolate (record c.fill.new.isolate { callers = c.push.new.self }) c.args.frame.now
    (record { unit = c.args.u; place = 0; base = c.len-2.result - c.args.n }) c.args.turns.now (c.args.turns.now - 1) c.unit-unit.ensures (omega (arith, c.if-turns-eq0.false)) (omega (arith, callers, c.if-len-ge1999.false))
    c.requires.operands c.in_ok-fill.ensures c.in_ok-push.ensures.items (ap (λ n. record { unit = c.args.u.0; place = 0; base = n - c.args.n }) size)

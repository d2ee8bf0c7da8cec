use Rattle.std.proofs.Common.{sym, subst}
use Rattle.program.specs.Program.{parts_of}
use Rattle.program.specs.declared.numbered.Target.{Target}
use Rattle.isolate_calls.specs.Sending.{CanFollow, Followed}
use Rattle.isolate_calls.proofs.Follows.{can_method, follows_method}
use Rattle.isolate_calls.proofs.sending.reach.Goals as goal

pub call_method-requires-clause-there : goal.call_method-requires-clause-there
call_method-requires-clause-there c =
    (can_method (parts_of c.args.program.now) c.args.pool.now c.in-Method.m c.args.site.0 c.args.n c.args.isolate.now c.args.frame.now c.args.turns.now
    (subst (λ (t : Target). CanFollow (parts_of c.args.program.now) c.args.pool.now t c.args.site.0 c.args.n c.args.isolate.now c.args.frame.now c.args.turns.now) c.in-Method.is c.requires.can)).0

pub call_method-requires-clause-can : goal.call_method-requires-clause-can
call_method-requires-clause-can c =
    (can_method (parts_of c.args.program.now) c.args.pool.now c.in-Method.m c.args.site.0 c.args.n c.args.isolate.now c.args.frame.now c.args.turns.now
    (subst (λ (t : Target). CanFollow (parts_of c.args.program.now) c.args.pool.now t c.args.site.0 c.args.n c.args.isolate.now c.args.frame.now c.args.turns.now) c.in-Method.is c.requires.can)).1

pub call_missing-requires-clause-can : goal.call_missing-requires-clause-can
call_missing-requires-clause-can c =
    subst (λ (t : Target). CanFollow (parts_of c.args.program.now) c.args.pool.now t c.args.site.0 c.args.n c.args.isolate.now c.args.frame.now c.args.turns.now) c.in-Nsm.is c.requires.can

pub returns-in_ok-flow-in-Method : goal.returns-in_ok-flow-in-Method
returns-in_ok-flow-in-Method c =
    subst (λ (t : Target). Followed (parts_of c.args.program.now) c.args.pool.now t c.args.site.0 c.args.n c.args.isolate.now c.args.frame.now c.args.turns.now c.in_ok-flow-in-Method.flow c.call_method.new.isolate c.call_method.new.frame c.call_method.new.turns)
    (sym c.in-Method.is)
    (follows_method (parts_of c.args.program.now) c.args.pool.now c.in-Method.m c.args.site.0 c.args.n c.args.isolate.now c.call_method.new.isolate c.args.frame.now c.call_method.new.frame c.args.turns.now c.call_method.new.turns
    c.in_ok-flow-in-Method.flow c.in_ok-flow-in-Method.ensures)

pub returns-in_ok-flow-in-Nsm : goal.returns-in_ok-flow-in-Nsm
returns-in_ok-flow-in-Nsm c =
    subst (λ (t : Target). Followed (parts_of c.args.program.now) c.args.pool.now t c.args.site.0 c.args.n c.args.isolate.now c.args.frame.now c.args.turns.now c.in_ok-flow-in-Nsm.flow c.call_missing.new.isolate c.call_missing.new.frame c.call_missing.new.turns)
    (sym c.in-Nsm.is) c.in_ok-flow-in-Nsm.ensures

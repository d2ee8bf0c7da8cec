use Rattle.program.specs.Program.{parts_of}
use Rattle.program.specs.declared.numbered.Target.TheVariants as target
use Rattle.isolate_calls.proofs.Follows.{site_there, selector_there, selector_found, can_missing, follows_missing}
use Rattle.isolate_calls.proofs.missing.call_missing.Goals as goal

pub selector_at-sel-requires : goal.selector_at-sel-requires
selector_at-sel-requires c = record {
  site = site_there (parts_of c.args.program.now) c.args.pool.now (target.Nsm c.args.m) c.args.site.0 c.args.n c.args.isolate.now c.args.frame.now c.args.turns.now c.requires.can;
  there = selector_there (parts_of c.args.program.now) c.args.pool.now (target.Nsm c.args.m) c.args.site.0 c.args.n c.args.isolate.now c.args.frame.now c.args.turns.now c.requires.can;
}

pub call_method-requires-clause-can : goal.call_method-requires-clause-can
call_method-requires-clause-can c =
    let found = selector_found (parts_of c.args.program.now) c.args.pool.now (target.Nsm c.args.m) c.args.site.0 c.args.n c.args.isolate.now c.args.frame.now c.args.turns.now c.requires.can in
    (can_missing (parts_of c.args.program.now) c.args.pool.now c.args.m c.args.site.0 c.args.n c.args.isolate.now c.put_invocation.new.isolate c.args.frame.now c.args.turns.now found.0 c.selector_at-sel.result.now
    found.1 (c.selector_at-sel.ensures found.0 found.1) c.in_ok-put_invocation.ensures c.requires.held c.requires.can).1

pub returns : goal.returns
returns c =
    let found = selector_found (parts_of c.args.program.now) c.args.pool.now (target.Nsm c.args.m) c.args.site.0 c.args.n c.args.isolate.now c.args.frame.now c.args.turns.now c.requires.can in
    follows_missing (parts_of c.args.program.now) c.args.pool.now c.args.m c.args.site.0 c.args.n c.args.isolate.now c.put_invocation.new.isolate c.args.frame.now c.args.turns.now found.0 c.selector_at-sel.result.now
    found.1 (c.selector_at-sel.ensures found.0 found.1) c.in_ok-put_invocation.ensures c.requires.held c.call_method.new.isolate c.call_method.new.frame c.call_method.new.turns c.in_ok-flow.flow c.in_ok-flow.ensures

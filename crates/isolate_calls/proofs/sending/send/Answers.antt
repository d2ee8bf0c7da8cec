use Rattle.std.proofs.Common.{rules, ◌≡◌, ◌-◌, length, ap, sym, ◌∙◌, subst, arith}
use Rattle.program.specs.Program.{parts_of}
use Rattle.std.proofs.lemmas.List.{length-map}
use Rattle.program.specs.declared.numbered.Site.{Site}
use Rattle.program.specs.declared.numbered.Numbered.{Numbered}
use Rattle.isolate_state.specs.State.{IsHeld}
use Rattle.isolate_calls.specs.Sending.{CanFollow, Followed}
use Rattle.isolate_calls.proofs.Sends.{send_there, can_follow, held_asked, sends, receiver_concrete}
use Rattle.isolate_calls.proofs.sending.send.Goals as goal

pub ask-target-requires-clause-concrete : goal.ask-target-requires-clause-concrete
ask-target-requires-clause-concrete g c =
    let size : c.len.result ≡ length c.args.isolate.now.values.items = search rules in
    receiver_concrete (parts_of c.args.linked.now.program) c.args.pool.now c.args.n (c.len.result - c.args.n) c.args.isolate.now c.index-receiver.result.now c.class_of-class.result.0 (ap (λ n. n - c.args.n) size)
    c.requires.some c.requires.operands c.index-receiver.ensures c.class_of-class.ensures c.requires.held

pub ask-target-requires-clause-site : goal.ask-target-requires-clause-site
ask-target-requires-clause-site g c =
    let there = send_there (parts_of c.args.linked.now.program) c.args.pool.now (g.C.Cells.answers c.args.cells.now c.args.linked.now) c.args.site.0 c.args.n c.args.isolate.now c.args.frame.now c.args.turns.now c.requires.can in
    let size : length c.args.pool.now.sites ≡ length c.args.linked.now.program.sites = ap length c.requires.sites ∙ length-map c.args.linked.now.program.sites (λ (s : Site). s.selector) in
    omega (arith, there, size)

pub ask-target-requires-clause-counted : goal.ask-target-requires-clause-counted
ask-target-requires-clause-counted g c =
    let there = send_there (parts_of c.args.linked.now.program) c.args.pool.now (g.C.Cells.answers c.args.cells.now c.args.linked.now) c.args.site.0 c.args.n c.args.isolate.now c.args.frame.now c.args.turns.now c.requires.can in
    let size : length c.args.pool.now.sites ≡ length c.args.linked.now.program.sites = ap length c.requires.sites ∙ length-map c.args.linked.now.program.sites (λ (s : Site). s.selector) in
    omega (arith, there, size, c.requires.counts)

pub reach-requires-clause-held : goal.reach-requires-clause-held
reach-requires-clause-held g c =
    let size : c.len.result ≡ length c.args.isolate.now.values.items = search rules in
    subst (λ (n : Numbered). IsHeld (parts_of n) c.args.pool.now c.ask-target.new.isolate) (sym c.program.ensures)
    (held_asked (parts_of c.args.linked.now.program) c.args.pool.now (g.C.Cells.answers c.args.cells.now c.args.linked.now) c.args.linked.now.program.sites c.requires.sites c.args.site.0 c.args.n (c.len.result - c.args.n) c.args.isolate.now c.ask-target.new.isolate
    c.args.frame.now c.args.turns.now c.index-receiver.result.now c.class_of-class.result.0 c.ask-target.result (ap (λ n. n - c.args.n) size) c.requires.some c.requires.operands c.index-receiver.ensures c.class_of-class.ensures
    c.ask-target.ensures.target c.ask-target.ensures.rest c.requires.held)

pub reach-requires-clause-can : goal.reach-requires-clause-can
reach-requires-clause-can g c =
    let size : c.len.result ≡ length c.args.isolate.now.values.items = search rules in
    subst (λ (n : Numbered). CanFollow (parts_of n) c.args.pool.now c.ask-target.result c.args.site.0 c.args.n c.ask-target.new.isolate c.args.frame.now c.args.turns.now) (sym c.program.ensures)
    (can_follow (parts_of c.args.linked.now.program) c.args.pool.now (g.C.Cells.answers c.args.cells.now c.args.linked.now) c.args.linked.now.program.sites c.requires.sites c.args.site.0 c.args.n (c.len.result - c.args.n) c.args.isolate.now c.ask-target.new.isolate
    c.args.frame.now c.args.turns.now c.index-receiver.result.now c.class_of-class.result.0 c.ask-target.result (ap (λ n. n - c.args.n) size) c.requires.some c.requires.operands c.index-receiver.ensures c.class_of-class.ensures
    c.ask-target.ensures.target c.ask-target.ensures.rest c.requires.can)

pub returns-clause-sent : goal.returns-clause-sent
returns-clause-sent g c =
    let size : c.len.result ≡ length c.args.isolate.now.values.items = search rules in
    let followed = subst (λ (n : Numbered). Followed (parts_of n) c.args.pool.now c.ask-target.result c.args.site.0 c.args.n c.ask-target.new.isolate c.args.frame.now c.args.turns.now c.in_ok-flow.flow
    c.reach.new.isolate c.reach.new.frame c.reach.new.turns) c.program.ensures c.in_ok-flow.ensures in
    sends (parts_of c.args.linked.now.program) c.args.pool.now (g.C.Cells.answers c.args.cells.now c.args.linked.now) c.args.linked.now.program.sites c.requires.sites c.args.site.0 c.args.n (c.len.result - c.args.n) c.args.isolate.now c.ask-target.new.isolate
    c.args.frame.now c.args.turns.now c.index-receiver.result.now c.class_of-class.result.0 c.ask-target.result (ap (λ n. n - c.args.n) size) c.requires.some c.requires.operands c.index-receiver.ensures c.class_of-class.ensures
    c.ask-target.ensures.target c.ask-target.ensures.rest (g.C.Cells.After c.args.cells.now) c.ask-target.new.cells c.reach.new.isolate c.reach.new.frame c.reach.new.turns c.in_ok-flow.flow c.requires.held
    c.ask-target.ensures.after c.ask-target.ensures.calls followed

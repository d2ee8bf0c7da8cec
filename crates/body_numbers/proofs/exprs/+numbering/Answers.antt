use Rattle.std.proofs.Common.{◌≡◌, IfOk, subst, rules, arith, ◌++◌, ◌∷◌, []}
use Rattle.program.specs.declared.body.Expression.{Expression}
use Rattle.program.specs.declared.body.Piece.{Piece}
use Rattle.program.specs.declared.body.Link.{Link}
use Rattle.program.specs.Bodies as bodies
use Rattle.dart_meaning.specs.Numbering as num
use Rattle.body_numbers.specs.Views.{assignable_of}
use Rattle.body_numbers.proofs.Lists.{cut, exps_next, exps_done, pieces_next, pieces_done, calls_next, calls_done, links_next, links_done, joined_form, chain_form, last_next, last_here, last_none}
use Rattle.body_numbers.proofs.exprs.+numbering.Goals as goal

pub expressions-loop-e-preserved : goal.expressions-loop-e-preserved
expressions-loop-e-preserved g t c =
    let n = c.args.numbers.now in
    let is = cut c.args.all.now c.loop-e.e-index c.e-item.result c.loop-e-test.true c.e-item.is in
    let e = exps_next (g.N.Numbers.tree n) (g.N.Numbers.site_of n) (g.N.Numbers.here n) c.args.slots.now c.args.all.now c.loop-e.e-index c.e-item.result c.loop-e.found c.in_ok-x.x _ is c.in_ok-x.ensures c.loop-e.invariant in
    let p : c.push.new.self ≡ c.loop-e.found ++ c.in_ok-x.x ∷ [] = search rules in
    rw p e

pub expressions-returns : goal.expressions-returns
expressions-returns g t c =
    let n = c.args.numbers.now in
    exps_done (g.N.Numbers.tree n) (g.N.Numbers.site_of n) (g.N.Numbers.here n) c.args.slots.now c.args.all.now c.loop-e.e-index c.loop-e.found _ (search (rules, arith)) c.loop-e.invariant

pub interpolations-loop-piece-preserved : goal.interpolations-loop-piece-preserved
interpolations-loop-piece-preserved g t c =
    let n = c.args.numbers.now in
    let is = cut c.args.all.now c.loop-piece.piece-index c.piece-item.result c.loop-piece-test.true c.piece-item.is in
    let q : Piece Expression = record { site = c.site-site.result; value = c.in_ok-value.value; then = c.in_ok-then.then } in
    let e = pieces_next (g.N.Numbers.tree n) (g.N.Numbers.site_of n) (g.N.Numbers.here n) c.args.slots.now c.args.all.now c.loop-piece.piece-index c.loop-piece.at c.piece-item.result c.loop-piece.found q _ is (search rules) (search rules) (search rules) c.loop-piece.invariant in
    let p : c.push.new.self ≡ c.loop-piece.found ++ q ∷ [] = search rules in
    rw p e

pub interpolations-returns : goal.interpolations-returns
interpolations-returns g t c =
    let n = c.args.numbers.now in
    pieces_done (g.N.Numbers.tree n) (g.N.Numbers.site_of n) (g.N.Numbers.here n) c.args.slots.now c.args.all.now c.loop-piece.piece-index c.loop-piece.at c.loop-piece.found _ (search (rules, arith)) c.loop-piece.invariant

pub operations-loop-link-preserved : goal.operations-loop-link-preserved
operations-loop-link-preserved g t c =
    let n = c.args.numbers.now in
    let is = cut c.args.all.now c.loop-link.link-index c.link-item.result c.loop-link-test.true c.link-item.is in
    let q : Link Expression = record { joint = c.joint_of-joint.result; operand = c.in_ok-operand.operand } in
    let e = links_next (g.N.Numbers.tree n) (g.N.Numbers.site_of n) (g.N.Numbers.here n) c.args.slots.now c.args.all.now c.loop-link.link-index c.link-item.result c.loop-link.found q _ is (search rules) (search rules) c.loop-link.invariant in
    let p : c.push.new.self ≡ c.loop-link.found ++ q ∷ [] = search rules in
    rw p e

pub operations-returns : goal.operations-returns
operations-returns g t c =
    let n = c.args.numbers.now in
    links_done (g.N.Numbers.tree n) (g.N.Numbers.site_of n) (g.N.Numbers.here n) c.args.slots.now c.args.all.now c.loop-link.link-index c.loop-link.found _ (search (rules, arith)) c.loop-link.invariant

pub expression-returns-in_ok-more-in-Joined : goal.expression-returns-in_ok-more-in-Joined
expression-returns-in_ok-more-in-Joined g t c =
    let n = c.args.numbers.now in
    joined_form (g.N.Numbers.tree n) (g.N.Numbers.site_of n) (g.N.Numbers.here n) c.args.slots.now c.in-Joined.units c.in_ok-units-in-Joined.units c.in-Joined.at c.in-Joined.more c.as_slice.result.now c.in_ok-more-in-Joined.more c.args.e.now c.in-Joined.is (search rules) (search rules) c.in_ok-more-in-Joined.ensures

pub expression-returns-in_ok-more-in-Chain : goal.expression-returns-in_ok-more-in-Chain
expression-returns-in_ok-more-in-Chain g t c =
    let n = c.args.numbers.now in
    chain_form (g.N.Numbers.tree n) (g.N.Numbers.site_of n) (g.N.Numbers.here n) c.args.slots.now c.in-Chain.x c.get-in-Chain.result.now c.in_ok-x-in-Chain.x c.in-Chain.more c.as_slice-in-Chain.result.now c.in_ok-more-in-Chain.more c.args.e.now c.in-Chain.is (search rules) (search rules) c.in_ok-x-in-Chain.ensures c.in_ok-more-in-Chain.ensures

pub selected-loop-s-preserved : goal.selected-loop-s-preserved
selected-loop-s-preserved g t c =
    let n = c.args.numbers.now in
    let is = cut c.args.all.now c.loop-s.s-index c.s-item.result c.loop-s-test.true c.s-item.is in
    let e = calls_next (g.N.Numbers.tree n) (g.N.Numbers.site_of n) (g.N.Numbers.here n) c.args.slots.now c.args.all.now c.loop-s.s-index c.s-item.result c.loop-s.found c.in_ok-call.call _ is c.in_ok-call.ensures c.loop-s.invariant in
    let p : c.push.new.self ≡ c.loop-s.found ++ c.in_ok-call.call ∷ [] = search rules in
    rw p e

pub selected-returns : goal.selected-returns
selected-returns g t c =
    let n = c.args.numbers.now in
    calls_done (g.N.Numbers.tree n) (g.N.Numbers.site_of n) (g.N.Numbers.here n) c.args.slots.now c.args.all.now c.loop-s.s-index c.loop-s.found _ (search (rules, arith)) c.loop-s.invariant

pub last_of-loop-i-preserved : goal.last_of-loop-i-preserved
last_of-loop-i-preserved g t c =
    let n = c.args.numbers.now in
    let is = cut c.args.all.now c.loop-i.i c.index-all-i.result c.loop-i-test.true c.index-all-i.is in
    let e = last_next (g.N.Numbers.tree n) (g.N.Numbers.site_of n) (g.N.Numbers.here n) c.args.slots.now c.args.all.now c.loop-i.i c.index-all-i.result (bodies.exp c.loop-i.to) c.loop-i.calls c.in_ok-call.call _ is (search (rules, arith)) c.in_ok-call.ensures c.loop-i.invariant in
    let p : c.push.new.self ≡ c.loop-i.calls ++ c.in_ok-call.call ∷ [] = search rules in
    rw p e

pub last_of-returns-then-i-all : goal.last_of-returns-then-i-all
last_of-returns-then-i-all g t c =
    let n = c.args.numbers.now in
    let is = cut c.args.all.now c.loop-i.i c.index-all-i.result c.loop-i-test.true c.index-all-i.is in
    let e = last_here (g.N.Numbers.tree n) (g.N.Numbers.site_of n) (g.N.Numbers.here n) c.args.slots.now c.args.all.now c.loop-i.i c.index-all-i.result (bodies.exp c.loop-i.to) c.loop-i.calls (bodies.exp c.in_ok-to.to) _ is (search (rules, arith)) c.in_ok-to.ensures c.loop-i.invariant in
    subst (λ (w : num.Assignable). IfOk c.named_by.result (λ x. assignable_of x ≡ w)) e c.named_by.ensures

pub last_of-returns : goal.last_of-returns
last_of-returns g t c =
    let n = c.args.numbers.now in
    last_none (g.N.Numbers.tree n) (g.N.Numbers.site_of n) (g.N.Numbers.here n) c.args.slots.now c.args.all.now c.loop-i.i (bodies.exp c.loop-i.to) _ _ (search (rules, arith)) c.loop-i.invariant

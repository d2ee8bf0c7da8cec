use Rattle.std.proofs.Common.{◌≡◌, rules, arith, ◌++◌, ◌∷◌, [], ap, ◌∙◌}
use Rattle.dart_syntax.specs.View.{sta}
use Rattle.dart_meaning.specs.Numbering.{after}
use Rattle.body_numbers.proofs.Lists.{cut, stas_next, stas_done}
use Rattle.body_numbers.proofs.Opened.{grown_none, grown_twice, grown_same, grown_after, grown_back}
use Rattle.body_numbers.proofs.stmts.+numbering.Goals as goal

pub statements-loop-x-init : goal.statements-loop-x-init
statements-loop-x-init g t c = record { form = search rules; grown = grown_none c.args.slots.now }

pub statements-loop-x-preserved : goal.statements-loop-x-preserved
statements-loop-x-preserved g t c =
    let n = c.args.numbers.now in
    let all = c.args.all.now in
    let is = cut all c.loop-x.x-index c.x-item.result c.loop-x-test.true c.x-item.is in
    let now = c.loop-x.slots in
    let mid = c.statement.new.slots in
    let next = c.pass.new.slots in
    let e = stas_next (g.N.Numbers.tree n) (g.N.Numbers.site_of n) (g.N.Numbers.here n) now mid next all c.loop-x.x-index c.x-item.result c.loop-x.found c.in_ok-s.s _ is c.in_ok-s.ensures.form c.in_ok-s.ensures.same c.in_ok-pass.ensures c.loop-x.invariant.form in
    let p : c.push.new.self ≡ c.loop-x.found ++ c.in_ok-s.s ∷ [] = search rules in
    record {
      form = rw p e;
      grown = grown_twice c.args.slots.now now next c.loop-x.invariant.grown (grown_same now (after now (sta c.x-item.result)) next (grown_after now (sta c.x-item.result)) (c.in_ok-pass.ensures ∙ ap (λ ns. after ns (sta c.x-item.result)) c.in_ok-s.ensures.same));
    }

pub statements-returns-clause-form : goal.statements-returns-clause-form
statements-returns-clause-form g t c =
    let n = c.args.numbers.now in
    stas_done (g.N.Numbers.tree n) (g.N.Numbers.site_of n) (g.N.Numbers.here n) c.loop-x.slots c.args.all.now c.loop-x.x-index c.loop-x.found _ (search (rules, arith)) c.loop-x.invariant.form

pub block-returns-clause-same : goal.block-returns-clause-same
block-returns-clause-same g t c = grown_back c.args.slots.now c.statements.new.slots c.close.new.self c.count-before.result c.in_ok-all.ensures.grown c.count-before.ensures c.in_ok-close.ensures

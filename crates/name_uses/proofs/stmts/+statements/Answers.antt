use Rattle.std.proofs.Common.{rules, ◌≡◌, ◌∙◌, ◌+◌, ◌++◌, ap, sym, map, drop, refl, append_assoc}
use Rattle.dart_syntax.specs.Syntax.{exps}
use Rattle.dart_syntax.specs.View.{exp, sta}
use Rattle.dart_syntax.specs.declared.tree.Stmt.TheFolds.{the_lemmas}
use Rattle.dart_meaning.specs.Uses as u
use Rattle.name_uses.specs.Undo.{meaning}
use Rattle.name_uses.proofs.Blocks.{stas_next, do_uses, for_uses}
use Rattle.name_uses.proofs.Lists.{cut}
use Rattle.name_uses.proofs.Meanings.{extends_none, extends_same, extends_twice, closed_means, closed_undo}
use Rattle.name_uses.proofs.stmts.+statements.Goals as goal

pub uses_of_stmts-loop-x-init : goal.uses_of_stmts-loop-x-init
uses_of_stmts-loop-x-init t c = record { uses = refl; undo = extends_none c.args.scope.now }

pub uses_of_stmts-loop-x-preserved : goal.uses_of_stmts-loop-x-preserved
uses_of_stmts-loop-x-preserved t c =
    let all = c.args.all.now in
    let is = cut all c.loop-x.x-index c.x-item.result c.loop-x-test.true c.x-item.is in
    let now = c.loop-x.scope in
    let mid = c.uses_of_stmt.new.scope in
    let next = c.pass.new.scope in
    record {
      uses = stas_next c.args.loops all c.loop-x.x-index c.x-item.result (drop (c.loop-x.x-index + 1) all) (meaning now) (meaning mid) (meaning next) c.loop-x.out c.uses_of_stmt.new.out _ is c.in_ok-uses_of_stmt.ensures.uses c.in_ok-uses_of_stmt.ensures.same c.in_ok-pass.ensures.after c.loop-x.invariant.uses;
      undo = extends_twice c.args.scope.now mid next (extends_twice c.args.scope.now now mid c.loop-x.invariant.undo (extends_same now mid c.in_ok-uses_of_stmt.ensures.undo c.in_ok-uses_of_stmt.ensures.same)) c.in_ok-pass.ensures.undo;
    }

pub uses_of_stmt-returns-in_ok-push-in-Return-default-Some-clause-uses : goal.uses_of_stmt-returns-in_ok-push-in-Return-default-Some-clause-uses
uses_of_stmt-returns-in_ok-push-in-Return-default-Some-clause-uses t c = search (rules, the_lemmas, append_assoc {A = u.Use})

pub uses_of_stmt-returns-in_ok-uses_of-in-Do-clause-uses : goal.uses_of_stmt-returns-in_ok-uses_of-in-Do-clause-uses
uses_of_stmt-returns-in_ok-uses_of-in-Do-clause-uses t c =
    let body : c.get-in-Do.result.now ≡ c.in-Do.body = search rules in
    do_uses c.args.loops c.in-Do.body c.get-in-Do.result.now c.in-Do.test (meaning c.args.scope.now) (meaning c.uses_of_branch-in-Do.new.scope) c.args.out.now c.uses_of_branch-in-Do.new.out c.uses_of-in-Do.new.out body c.in_ok-uses_of_branch-in-Do.ensures.uses c.in_ok-uses_of_branch-in-Do.ensures.same c.in_ok-uses_of-in-Do.ensures
    ∙ ap (λ x. c.args.out.now ++ u.sta c.args.loops (meaning c.args.scope.now) (sta x)) (sym c.in-Do.is)

pub uses_of_stmt-returns-in_ok-close-in-For-clause-uses : goal.uses_of_stmt-returns-in_ok-close-in-For-clause-uses
uses_of_stmt-returns-in_ok-close-in-For-clause-uses t c =
    let body : c.get-in-For.result.now ≡ c.in-For.body = search rules in
    let lasts : c.as_slice-in-For.result.now ≡ c.in-For.last = search rules in
    for_uses c.args.loops c.in-For.first c.in-For.test c.in-For.last c.in-For.body c.get-in-For.result.now (meaning c.args.scope.now) (meaning c.uses_of_first.new.scope) c.args.out.now c.uses_of_first.new.out c.uses_of_option-in-For.new.out c.uses_of_all.new.out c.uses_of_branch-in-For.new.out body
    c.in_ok-uses_of_first-in-For.ensures.after c.in_ok-uses_of_first-in-For.ensures.uses c.in_ok-uses_of_option-in-For.ensures
    (c.in_ok-uses_of_all-in-For.ensures ∙ ap (λ xs. c.uses_of_option-in-For.new.out ++ u.exps (meaning c.uses_of_first.new.scope) (exps (map exp xs))) lasts)
    c.in_ok-uses_of_branch-in-For.ensures.uses
    ∙ ap (λ x. c.args.out.now ++ u.sta c.args.loops (meaning c.args.scope.now) (sta x)) (sym c.in-For.is)

pub uses_of_stmt-returns-in_ok-close-in-For-clause-same : goal.uses_of_stmt-returns-in_ok-close-in-For-clause-same
uses_of_stmt-returns-in_ok-close-in-For-clause-same t c =
    closed_means c.args.scope.now c.uses_of_branch-in-For.new.scope c.close.new.self c.mark-mark.result c.mark-mark.ensures
    (extends_twice c.args.scope.now c.uses_of_first.new.scope c.uses_of_branch-in-For.new.scope c.in_ok-uses_of_first-in-For.ensures.undo (extends_same c.uses_of_first.new.scope c.uses_of_branch-in-For.new.scope c.in_ok-uses_of_branch-in-For.ensures.undo c.in_ok-uses_of_branch-in-For.ensures.same))
    c.in_ok-close-in-For.ensures.back

pub uses_of_stmt-returns-in_ok-close-in-For-clause-undo : goal.uses_of_stmt-returns-in_ok-close-in-For-clause-undo
uses_of_stmt-returns-in_ok-close-in-For-clause-undo t c =
    closed_undo c.args.scope.now c.uses_of_branch-in-For.new.scope c.close.new.self c.mark-mark.result c.mark-mark.ensures
    (extends_twice c.args.scope.now c.uses_of_first.new.scope c.uses_of_branch-in-For.new.scope c.in_ok-uses_of_first-in-For.ensures.undo (extends_same c.uses_of_first.new.scope c.uses_of_branch-in-For.new.scope c.in_ok-uses_of_branch-in-For.ensures.undo c.in_ok-uses_of_branch-in-For.ensures.same))
    c.in_ok-close-in-For.ensures.undo

pub uses_of_block-returns-clause-same : goal.uses_of_block-returns-clause-same
uses_of_block-returns-clause-same t c = closed_means c.args.scope.now c.uses_of_stmts.new.scope c.close.new.self c.mark-mark.result c.mark-mark.ensures (extends_twice c.args.scope.now c.begin_all.new.scope c.uses_of_stmts.new.scope c.in_ok-begin_all.ensures.undo c.in_ok-uses_of_stmts.ensures.undo) c.in_ok-close.ensures.back

pub uses_of_block-returns-clause-undo : goal.uses_of_block-returns-clause-undo
uses_of_block-returns-clause-undo t c = closed_undo c.args.scope.now c.uses_of_stmts.new.scope c.close.new.self c.mark-mark.result c.mark-mark.ensures (extends_twice c.args.scope.now c.begin_all.new.scope c.uses_of_stmts.new.scope c.in_ok-begin_all.ensures.undo c.in_ok-uses_of_stmts.ensures.undo) c.in_ok-close.ensures.undo

pub uses_of_branch-returns-clause-same : goal.uses_of_branch-returns-clause-same
uses_of_branch-returns-clause-same t c = closed_means c.args.scope.now c.uses_of_stmt.new.scope c.close.new.self c.mark-mark.result c.mark-mark.ensures (extends_twice c.args.scope.now c.begin.new.scope c.uses_of_stmt.new.scope c.in_ok-begin.ensures.undo (extends_same c.begin.new.scope c.uses_of_stmt.new.scope c.in_ok-uses_of_stmt.ensures.undo c.in_ok-uses_of_stmt.ensures.same)) c.in_ok-close.ensures.back

pub uses_of_branch-returns-clause-undo : goal.uses_of_branch-returns-clause-undo
uses_of_branch-returns-clause-undo t c = closed_undo c.args.scope.now c.uses_of_stmt.new.scope c.close.new.self c.mark-mark.result c.mark-mark.ensures (extends_twice c.args.scope.now c.begin.new.scope c.uses_of_stmt.new.scope c.in_ok-begin.ensures.undo (extends_same c.begin.new.scope c.uses_of_stmt.new.scope c.in_ok-uses_of_stmt.ensures.undo c.in_ok-uses_of_stmt.ensures.same)) c.in_ok-close.ensures.undo

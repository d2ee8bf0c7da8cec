use Rattle.std.proofs.Common.{rules, arith, append_assoc, ◌++◌, ◌+◌, ◌∙◌, ap, map, drop}
use Rattle.std.proofs.lemmas.Grind.{common_steps}
use Rattle.dart_syntax.specs.Syntax.{selectors}
use Rattle.dart_syntax.specs.View.{selector}
use Rattle.dart_syntax.specs.declared.tree.Expr.TheFolds.{the_lemmas}
use Rattle.dart_meaning.specs.Uses as u
use Rattle.name_uses.proofs.Lists.{count_exps, uses_joined, uses_chain, cut, one_more, the_last}
use Rattle.name_uses.specs.Undo.{meaning}
use Rattle.name_uses.proofs.exprs.+uses.Goals as goal
use Rattle.name_uses.proofs.exprs.+uses.Goals.{uses_up_to_changed-then-i-all+in_ok-uses_of_selector, uses_up_to_changed-else-i-all+in_ok-uses_of_changed}

pub uses_of-returns-in-Joined : goal.uses_of-returns-in-Joined
uses_of-returns-in-Joined t c =
    let e = uses_joined (meaning c.args.scope.now) c.in-Joined.field-0 c.in-Joined.at c.in-Joined.more in
    first_of (search rules, grind (arith, common_steps))

pub uses_of-returns-in_ok-push-in-Call : goal.uses_of-returns-in_ok-push-in-Call
uses_of-returns-in_ok-push-in-Call t c = search (rules, the_lemmas, append_assoc {A = u.Use}, count_exps)

pub uses_of-returns-in_ok-push-in-SuperCall : goal.uses_of-returns-in_ok-push-in-SuperCall
uses_of-returns-in_ok-push-in-SuperCall t c = search (rules, the_lemmas, append_assoc {A = u.Use}, count_exps)

pub uses_of-returns-in_ok-uses_of-in-Postfix : goal.uses_of-returns-in_ok-uses_of-in-Postfix
uses_of-returns-in_ok-uses_of-in-Postfix t c = search (rules, the_lemmas, append_assoc {A = u.Use}, count_exps)

pub uses_of-returns-in_ok-uses_of_target-in-Step : goal.uses_of-returns-in_ok-uses_of_target-in-Step
uses_of-returns-in_ok-uses_of_target-in-Step t c = search (rules, the_lemmas, append_assoc {A = u.Use}, count_exps)

pub uses_of-returns-in_ok-prefix_use-in-Unary : goal.uses_of-returns-in_ok-prefix_use-in-Unary
uses_of-returns-in_ok-prefix_use-in-Unary t c = search (rules, the_lemmas, append_assoc {A = u.Use}, count_exps)

pub uses_of-returns-in_ok-uses_of-in-Chain : goal.uses_of-returns-in_ok-uses_of-in-Chain
uses_of-returns-in_ok-uses_of-in-Chain t c =
    let e = uses_chain (meaning c.args.scope.now) c.in-Chain.x c.in-Chain.more in
    first_of (search (rules, append_assoc {A = u.Use}), grind (arith, common_steps))

pub uses_of-returns-in_ok-uses_of-in-Is : goal.uses_of-returns-in_ok-uses_of-in-Is
uses_of-returns-in_ok-uses_of-in-Is t c = search (rules, the_lemmas, append_assoc {A = u.Use}, count_exps)

pub uses_of-returns-in_ok-uses_of-in-Cond-2 : goal.uses_of-returns-in_ok-uses_of-in-Cond-2
uses_of-returns-in_ok-uses_of-in-Cond-2 t c = search (rules, the_lemmas, append_assoc {A = u.Use}, count_exps)

pub uses_of-returns-in_ok-operator_use-in-Assign : goal.uses_of-returns-in_ok-operator_use-in-Assign
uses_of-returns-in_ok-operator_use-in-Assign t c = search (rules, the_lemmas, append_assoc {A = u.Use}, count_exps)

pub uses_of_selector-returns-in_ok-push-in-Invoke : goal.uses_of_selector-returns-in_ok-push-in-Invoke
uses_of_selector-returns-in_ok-push-in-Invoke t c = search (rules, the_lemmas, append_assoc {A = u.Use}, count_exps)

pub uses_of_selector-returns-in_ok-push-in-Index : goal.uses_of_selector-returns-in_ok-push-in-Index
uses_of_selector-returns-in_ok-push-in-Index t c = search (rules, the_lemmas, append_assoc {A = u.Use}, count_exps)

pub uses_up_to_changed-loop-i-preserved : goal.uses_up_to_changed-loop-i-preserved
uses_up_to_changed-loop-i-preserved t c =
    let m = meaning c.args.scope.now in
    let is = cut c.args.all.now c.loop-i.i c.index-all-i.result c.loop-i-test.true c.index-all-i.is in
    let rest = u.up_to_changed m c.args.reads_too (selectors (map selector (drop (c.loop-i.i + 1) c.args.all.now))) in
    elim c.if-i-all.branch [
      | uses_up_to_changed-then-i-all+in_ok-uses_of_selector w ↦
          ap (λ o. o ++ rest) w.out-is ∙ one_more m c.args.reads_too c.args.all.now c.loop-i.i c.index-all-i.result c.loop-i.out _ _ is w.if-i-all.true w.in_ok-uses_of_selector.ensures c.loop-i.invariant
      | uses_up_to_changed-else-i-all+in_ok-uses_of_changed w ↦
          ap (λ o. o ++ rest) w.out-is ∙ the_last m c.args.reads_too c.args.all.now c.loop-i.i c.index-all-i.result c.loop-i.out _ _ is w.if-i-all.false w.in_ok-uses_of_changed.ensures c.loop-i.invariant
    ]

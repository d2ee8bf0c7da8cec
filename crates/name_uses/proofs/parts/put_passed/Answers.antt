use Rattle.std.proofs.Common.{◌≡◌, ◌∙◌, ◌++◌, ap, sym, map, length, option_map, rules}
use Rattle.dart_syntax.specs.Syntax.{exps}
use Rattle.name_uses.specs.Undo.{meaning}
use Rattle.name_uses.proofs.Lists.{uses_passed}
use Rattle.dart_syntax.specs.View as view
use Rattle.dart_meaning.specs.Uses as u
use Rattle.name_uses.proofs.parts.put_passed.Goals as goal

pub returns-in_ok-uses_of_all-in-Some : goal.returns-in_ok-uses_of_all-in-Some
returns-in_ok-uses_of_all-in-Some c =
    let x = c.in-Some.x in
    let out = c.args.out.now in
    let params = map view.param c.args.params.now in
    let args : c.as_slice.result.now ≡ x.args = search rules in
    let count : c.len.result ≡ length x.args = search rules in
    uses_passed (view.class c.args.class.now) params x.span x.args (meaning c.in_ok-scope-in-Some.scope) c.len.result out c.push-in-Some.new.self c.uses_of_all.new.out count c.in_ok-scope-in-Some.ensures c.in_ok-push-in-Some.ensures
    (c.in_ok-uses_of_all-in-Some.ensures ∙ ap (λ xs. c.push-in-Some.new.self ++ u.exps (meaning c.in_ok-scope-in-Some.scope) (exps (map view.exp xs))) args)
    ∙ ap (λ p. out ++ u.passed_uses (view.class c.args.class.now) params (option_map view.passed p)) (sym c.in-Some.is)

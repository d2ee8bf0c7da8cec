use Rattle.std.proofs.Common.{◌∙◌, ap, sym, map, option_map, ◌++◌, []}
use Rattle.dart_syntax.specs.View as view
use Rattle.program.specs.declared.numbered.SelectorKind.TheVariants.{Call, Get}
use Rattle.dart_meaning.specs.Forms.{method_form}
use Rattle.dart_meaning.specs.NumberedForm.{with_body, numbered_member}
use Rattle.dart_meaning.specs.Operators.{operator_name}
use Rattle.tree_lists.proofs.methods.add_member.Goals as goal

pub returns-in_ok-add_coded-in-Method : goal.returns-in_ok-add_coded-in-Method
returns-in_ok-add_coded-in-Method g c =
    let tree = view.unit c.args.inside.now.numbers.now.tree.now in
    let class = c.args.class.now in
    let old = map method_form c.args.all.now in
    let body = option_map view.body c.in-Method.body in
    c.in_ok-add_coded-in-Method.ensures
    ∙ ap (λ x. old ++ with_body tree class Call x (map view.param c.as_slice-params.result.now) body) c.as_slice-name.ensures
    ∙ ap (λ x. old ++ with_body tree class Call c.in-Method.name.text (map view.param x) body) c.as_slice-params.ensures
    ∙ ap (λ x. old ++ numbered_member tree class (view.member x)) (sym c.in-Method.is)

pub returns-in_ok-add_coded-in-Getter : goal.returns-in_ok-add_coded-in-Getter
returns-in_ok-add_coded-in-Getter g c =
    let tree = view.unit c.args.inside.now.numbers.now.tree.now in
    let class = c.args.class.now in
    let old = map method_form c.args.all.now in
    let body = option_map view.body c.in-Getter.body in
    c.in_ok-add_coded-in-Getter.ensures
    ∙ ap (λ x. old ++ with_body tree class Get x [] body) c.as_slice-name-in-Getter.ensures
    ∙ ap (λ x. old ++ numbered_member tree class (view.member x)) (sym c.in-Getter.is)

pub returns-in_ok-add_coded-in-Operator : goal.returns-in_ok-add_coded-in-Operator
returns-in_ok-add_coded-in-Operator g c =
    let tree = view.unit c.args.inside.now.numbers.now.tree.now in
    let class = c.args.class.now in
    let old = map method_form c.args.all.now in
    let body = option_map view.body c.in-Operator.body in
    c.in_ok-add_coded-in-Operator.ensures
    ∙ ap (λ x. old ++ with_body tree class Call x (map view.param c.as_slice-params-in-Operator.result.now) body) c.operator_name-name.ensures
    ∙ ap (λ x. old ++ with_body tree class Call (operator_name c.in-Operator.op (map view.param x)) (map view.param x) body) c.as_slice-params-in-Operator.ensures
    ∙ ap (λ x. old ++ numbered_member tree class (view.member x)) (sym c.in-Operator.is)

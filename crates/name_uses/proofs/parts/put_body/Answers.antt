use Rattle.std.proofs.Common.{◌∙◌, ◌++◌, ap, sym, map}
use Rattle.dart_syntax.specs.View as view
use Rattle.dart_meaning.specs.Uses as u
use Rattle.name_uses.proofs.parts.put_body.Goals as goal

pub returns-in-Arrow : goal.returns-in-Arrow
returns-in-Arrow c =
    let m = u.with_params (map view.param c.args.params.now) u.nothing_seen in
    c.in_ok-uses_of-in-Arrow.ensures ∙ ap (λ k. c.args.out.now ++ u.exp k (view.exp c.in-Arrow.x)) c.in_ok-scope.ensures
    ∙ ap (λ b. c.args.out.now ++ u.body_uses m (view.body b)) (sym c.in-Arrow.is)

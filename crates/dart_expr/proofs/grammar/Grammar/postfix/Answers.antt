use Rattle.std.proofs.Common.{rules, arith}
use Rattle.std.proofs.lemmas.Grind.{common_steps}
use Rattle.dart_expr.specs.Model.{expr, postfix}
use Rattle.dart_expr.proofs.View.{some_selectors}
use Rattle.dart_expr.proofs.grammar.Grammar.postfix.Goals as goal

pub returns : goal.returns
unfolding postfix
returns g c =
    let e = some_selectors (expr c.args.self.now.depth) c.in_ok-first.first c.in-Ok.selectors c.if-is_empty.ensures.1 in
    first_of (search rules, grind (arith, common_steps))

use Rattle.std.proofs.Common.{◌∙◌, ap, map, option_map}
use Rattle.dart_syntax.specs.View as view
use Rattle.dart_meaning.specs.Sites.{site_of}
use Rattle.dart_meaning.specs.Numbering as num
use Rattle.body_numbers.specs.Bodies.{passed_args}
use Rattle.tree_numbers.specs.Parts.{text_of}
use Rattle.tree_lists.proofs.bodies.passed_of.Goals as goal

pub returns : goal.returns
returns g c =
    c.in_ok-all.ensures
    ∙ ap (λ t. num.exps (view.unit c.args.inside.now.numbers.now.tree.now) (site_of t) (option_map text_of c.args.inside.now.here) (num.param_names (map view.param c.args.params.now)) (passed_args (option_map view.passed c.args.passed.now))) c.requires

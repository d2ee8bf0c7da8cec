use Rattle.std.proofs.Common.{◌∙◌, ap, map, option_map}
use Rattle.dart_syntax.specs.View as view
use Rattle.dart_meaning.specs.Sites.{site_of}
use Rattle.dart_meaning.specs.Numbering as num
use Rattle.body_numbers.specs.Bodies.{numbered}
use Rattle.tree_numbers.specs.Parts.{text_of}
use Rattle.tree_lists.proofs.SameBody.{same_body}
use Rattle.tree_lists.proofs.bodies.body_of.Goals as goal

pub returns : goal.returns
returns g c =
    let tree = view.unit c.args.inside.now.numbers.now.tree.now in
    let here = option_map text_of c.args.inside.now.here in
    let names = num.param_names (map view.param c.args.params.now) in
    c.in_ok-b.ensures ∙ ap (λ t. numbered tree (site_of t) here names (view.body c.args.body.now)) c.requires ∙ same_body tree here names (view.body c.args.body.now)

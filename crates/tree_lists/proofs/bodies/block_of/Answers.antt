use Rattle.std.proofs.Common.{◌∙◌, ap, map, option_map}
use Rattle.dart_syntax.specs.View as view
use Rattle.dart_meaning.specs.Sites.{site_of}
use Rattle.dart_meaning.specs.Numbering as num
use Rattle.body_numbers.specs.Bodies.{block_or_none}
use Rattle.tree_numbers.specs.Parts.{text_of}
use Rattle.tree_lists.proofs.bodies.block_of.Goals as goal

pub returns : goal.returns
returns g c =
    c.in_ok-all.ensures
    ∙ ap (λ t. num.stas (view.unit c.args.inside.now.numbers.now.tree.now) (site_of t) (option_map text_of c.args.inside.now.here) (num.body_names (map view.param c.args.params.now)) (block_or_none (option_map view.all_stas c.args.body.now))) c.requires

use Rattle.std.proofs.Common.{◌∙◌, ap, map, option_map}
use Rattle.dart_syntax.specs.View as view
use Rattle.dart_meaning.specs.Sites.{site_of}
use Rattle.dart_meaning.specs.Numbering as num
use Rattle.body_numbers.specs.Bodies.{passed_args, block_or_none}
use Rattle.tree_lists.proofs.constructors.constructor.Goals as goal

pub returns : goal.returns
returns g c =
    let tree = view.unit c.args.inside.now.numbers.now.tree.now in
    let params = map view.param c.args.params.now in
    let passes = c.in_ok-passed_of.ensures ∙ ap (λ h. num.exps tree (site_of tree) h (num.param_names params) (passed_args (option_map view.passed c.args.passed.now))) c.requires.here in
    let body = c.in_ok-block_of.ensures ∙ ap (λ h. num.stas tree (site_of tree) h (num.body_names params) (block_or_none (option_map view.all_stas c.args.body.now))) c.requires.here in
    λ i. record {
      required = c.in_ok-required.ensures i;
      defaults = c.in_ok-defaults.ensures i;
      sets = c.in_ok-sets.ensures i;
      passes = passes i;
      body = body i;
    }

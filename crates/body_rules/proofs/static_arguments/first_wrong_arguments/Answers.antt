use Rattle.std.proofs.Common.{◌∙◌}
use Rattle.name_uses.specs.Found.{found}
use Rattle.static_rules.specs.WrongArgumentsOfStatic.{wrong_in, wrong_arguments_of_static}
use Rattle.body_rules.proofs.Looked.{in_looked}
use Rattle.body_rules.proofs.static_arguments.first_wrong_arguments.Goals as goal

pub returns : goal.returns
unfolding wrong_arguments_of_static
returns g c all =
    let tree = g.N.Names.tree c.args.names.now in
    c.first_in_parts.ensures ∙ in_looked tree (wrong_in tree) (found c.args.parts.now) all

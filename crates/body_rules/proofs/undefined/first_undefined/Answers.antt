use Rattle.std.proofs.Common.{◌∙◌}
use Rattle.name_uses.specs.Found.{found}
use Rattle.static_rules.specs.UndefinedName.{undefined_in, undefined_name}
use Rattle.body_rules.proofs.Looked.{in_looked}
use Rattle.body_rules.proofs.undefined.first_undefined.Goals as goal

pub returns : goal.returns
unfolding undefined_name
returns g c all =
    let tree = g.N.Names.tree c.args.names.now in
    c.first_in_parts.ensures ∙ in_looked tree (undefined_in tree) (found c.args.parts.now) all

use Rattle.std.proofs.Common.{◌∙◌}
use Rattle.name_uses.specs.Found.{found}
use Rattle.static_rules.specs.AbstractMade.{abstract_in, abstract_made}
use Rattle.body_rules.proofs.Looked.{in_looked}
use Rattle.body_rules.proofs.abstract_made.first_abstract_made.Goals as goal

pub returns : goal.returns
unfolding abstract_made
returns g c all =
    let tree = g.N.Names.tree c.args.names.now in
    c.first_in_parts.ensures ∙ in_looked tree (abstract_in tree) (found c.args.parts.now) all

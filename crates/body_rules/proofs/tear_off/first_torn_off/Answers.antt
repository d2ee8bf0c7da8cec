use Rattle.std.proofs.Common.{◌∙◌}
use Rattle.name_uses.specs.Found.{found}
use Rattle.static_rules.specs.TearOff.{torn_off, tear_off}
use Rattle.body_rules.proofs.Looked.{in_looked}
use Rattle.body_rules.proofs.tear_off.first_torn_off.Goals as goal

pub returns : goal.returns
unfolding tear_off
returns g c all =
    let tree = g.N.Names.tree c.args.names.now in
    c.first_in_parts.ensures ∙ in_looked tree (torn_off tree) (found c.args.parts.now) all

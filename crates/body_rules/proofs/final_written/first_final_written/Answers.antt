use Rattle.std.proofs.Common.{◌∙◌}
use Rattle.name_uses.specs.Found.{found}
use Rattle.static_rules.specs.FinalWritten.{final_in, final_written}
use Rattle.body_rules.proofs.Looked.{in_looked}
use Rattle.body_rules.proofs.final_written.first_final_written.Goals as goal

pub returns : goal.returns
unfolding final_written
returns g c all =
    let tree = g.N.Names.tree c.args.names.now in
    c.first_in_parts.ensures ∙ in_looked tree (final_in tree) (found c.args.parts.now) all

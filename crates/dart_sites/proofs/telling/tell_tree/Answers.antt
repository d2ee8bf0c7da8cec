use Rattle.dart_syntax.specs.View.{unit}
use Rattle.dart_sites.proofs.Programs.{outcome_says}
use Rattle.dart_sites.proofs.telling.tell_tree.Goals as goal

pub returns-in-Ok : goal.returns-in-Ok
returns-in-Ok c =
    let told = c.in-Ok.ensures in
    outcome_says c.args.request c.args.source.now (unit c.args.tree.now) c.in-Ok.program c.tell_program.result c.requires.tree told.accepted told.program told.counts told.entries told.means c.tell_program.ensures

use Rattle.dart_syntax.specs.View.{unit}
use Rattle.dart_sites.specs.Top.{breaks}
use Rattle.dart_sites.proofs.refusing.refused_by_rule.Goals as goal

pub returns-in-Ok : goal.returns-in-Ok
returns-in-Ok c = record { tree = unit c.args.tree.now; tree_of = c.requires.tree; wrong = breaks c.requires.broken c.in-Ok.ensures }

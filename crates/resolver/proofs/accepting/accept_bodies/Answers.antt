use Rattle.std.proofs.Common.{◌∙◌, ap, sym, option_map}
use Rattle.dart_syntax.specs.View.{unit}
use Rattle.name_uses.specs.Found.{found}
use Rattle.resolver.specs.Refusals.{finding}
use Rattle.resolver.proofs.Findings.{parts_by_names, broken_behind}
use Rattle.resolver.proofs.accepting.accept_bodies.Goals as goal

pub of_bodies-requires-clause-by_names : goal.of_bodies-requires-clause-by_names
of_bodies-requires-clause-by_names c = parts_by_names (unit c.args.names.now.tree.now) (found c.args.parts.now) c.requires.whole c.requires.kept

pub returns-in-Some-clause-refused : goal.returns-in-Some-clause-refused
returns-in-Some-clause-refused c =
    let tree = unit c.args.names.now.tree.now in
    c.error_of.ensures tree (broken_behind tree (finding c.in-Some.found) c.requires.kept (sym c.in_ok-found.ensures ∙ ap (option_map finding) c.in-Some.is))

pub count-requires : goal.count-requires
count-requires c = record { by_names = parts_by_names (unit c.args.names.now.tree.now) (found c.args.parts.now) c.requires.whole c.requires.kept }

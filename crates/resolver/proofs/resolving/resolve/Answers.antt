use Rattle.dart_syntax.specs.View.{unit}
use Rattle.program.specs.Program.{parts_of}
use Rattle.text_trees.proofs.Whole.{are_written}
use Rattle.accepted_trees.proofs.Whole.{does_the_same}
use Rattle.resolver.proofs.Programs.{counts_are}
use Rattle.resolver.proofs.Entries.{entries_are, entries_mean}
use Rattle.resolver.proofs.resolving.resolve.Goals as goal

pub number-requires-clause-written : goal.number-requires-clause-written
number-requires-clause-written c =
    let source = c.requires.source in
    are_written c.args.text.now source.0 (unit c.args.tree.now) source.1 source.2 c.requires.small

pub returns-clause-same : goal.returns-clause-same
returns-clause-same c = λ f turns.
    let source = c.requires.source in
    let written = are_written c.args.text.now source.0 (unit c.args.tree.now) source.1 source.2 c.requires.small in
    does_the_same c.args.text.now (unit c.args.tree.now) (parts_of c.in_ok-program.program) c.in_ok-program.ensures c.in_ok-accept.ensures.accepted written f turns

pub returns-clause-counts : goal.returns-clause-counts
returns-clause-counts c = counts_are c.args.text.now (unit c.args.tree.now) (parts_of c.in_ok-program.program) c.in_ok-program.ensures c.in_ok-accept.ensures.accepted

pub returns-clause-entries : goal.returns-clause-entries
returns-clause-entries c = entries_are c.args.text.now (unit c.args.tree.now) c.in_ok-program.program c.in_ok-program.ensures

pub returns-clause-means : goal.returns-clause-means
returns-clause-means c = entries_mean c.args.text.now (unit c.args.tree.now) c.in_ok-program.program c.in_ok-program.ensures (returns-clause-same c)

use Rattle.std.proofs.Common.{◌∙◌}
use Rattle.dart_syntax.specs.View.{unit}
use Rattle.tree_numbers.specs.Maps.{in_map}
use Rattle.tree_numbers.specs.Parts.{texts}
use Rattle.tree_numbers.specs.ClassFacts.{knows}
use Rattle.tree_numbers.specs.Members.{held}
use Rattle.tree_numbers.proofs.Told.{above_told}
use Rattle.tree_numbers.proofs.tables.TreeNumbers.parent.Goals as goal

pub returns : goal.returns
returns c =
    let s = c.args.self.now in
    c.above_in.ensures ∙ above_told (unit s.tree.now) s.built_in.now (knows s.classes) s.levels (texts s.order.items) (in_map s.numbers) (held s.members) (in_map s.functions) (in_map s.variables) s.exact c.args.name.now

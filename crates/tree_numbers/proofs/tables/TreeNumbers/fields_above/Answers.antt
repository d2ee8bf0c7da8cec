use Rattle.std.proofs.Common.{◌∙◌}
use Rattle.dart_syntax.specs.View.{unit}
use Rattle.tree_numbers.specs.Maps.{in_map}
use Rattle.tree_numbers.specs.Parts.{texts}
use Rattle.tree_numbers.specs.ClassFacts.{knows}
use Rattle.tree_numbers.specs.Members.{held}
use Rattle.tree_numbers.proofs.Told.{above_count_told}
use Rattle.tree_numbers.proofs.tables.TreeNumbers.fields_above.Goals as goal

pub returns : goal.returns
returns c =
    let s = c.args.self.now in
    c.in_ok-count.ensures ∙ above_count_told (unit s.tree.now) s.built_in.now (knows s.classes) s.levels (texts s.order.items) (in_map s.numbers) (held s.members) (in_map s.functions) (in_map s.variables) s.exact c.args.class.now

use Rattle.std.proofs.Common.{◌∙◌}
use Rattle.dart_syntax.specs.View.{unit}
use Rattle.text_names.proofs.Taken.{above_is}
use Rattle.text_names.proofs.names.TextNames.takes_above.Goals as goal

pub returns : goal.returns
returns c =
    let s = c.args.self.now in
    c.takes_from_parent.ensures ∙ above_is (unit s.tree.now) c.args.kind c.args.name.now s.most_above c.args.class.now s.bounded

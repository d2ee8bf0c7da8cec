use Rattle.std.proofs.Common.{◌∙◌, ap}
use Rattle.dart_syntax.specs.View.{unit}
use Rattle.std.specs.Prelude.{is_some}
use Rattle.dart_meaning.specs.Means.{super_member}
use Rattle.name_uses.specs.Found.{part_of}
use Rattle.name_uses.specs.Looked.{looked_class}
use Rattle.text_names.proofs.Taken.{some_taken}
use Rattle.text_names.proofs.names.TextNames.super_has.Goals as goal

pub returns : goal.returns
returns c =
    let s = c.args.self.now in
    c.is_some.ensures ∙ ap is_some c.super_takes.ensures ∙ some_taken (super_member (unit s.tree.now) (looked_class (unit s.tree.now) (part_of c.args.part.now).class) c.args.kind c.args.name.now)

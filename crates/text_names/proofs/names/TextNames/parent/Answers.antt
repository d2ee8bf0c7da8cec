use Rattle.std.proofs.Common.{◌∙◌, ap}
use Rattle.dart_syntax.specs.View.{unit}
use Rattle.text_names.specs.Maps.{in_set}
use Rattle.text_names.specs.Around.{knows}
use Rattle.text_names.specs.Tops.{stands_for}
use Rattle.text_names.specs.Above.{parent_in}
use Rattle.text_names.proofs.Exact.{parent_is}
use Rattle.text_names.proofs.names.TextNames.parent.Goals as goal

pub returns : goal.returns
returns c =
    let s = c.args.self.now in
    c.parent_in.ensures ∙ ap (λ o. parent_in o c.args.class.now) c.class.ensures ∙ parent_is (unit s.tree.now) (stands_for s.tops) (knows s.classes) (in_set s.methods) (in_set s.accessors) s.built_in.classes s.built_in.methods s.exact c.args.class.now

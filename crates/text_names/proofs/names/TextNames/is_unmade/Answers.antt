use Rattle.std.proofs.Common.{◌∙◌, ap, Option}
use Rattle.dart_syntax.specs.View.{unit}
use Rattle.dart_syntax.specs.Syntax.{Top}
use Rattle.static_rules.specs.Statics as statics
use Rattle.static_rules.specs.AbstractMade.{is_unmade}
use Rattle.text_names.specs.Maps.{in_set}
use Rattle.text_names.specs.Around.{knows}
use Rattle.text_names.specs.Tops.{stands_for}
use Rattle.text_names.proofs.Exact.{top_is}
use Rattle.text_names.proofs.names.TextNames.is_unmade.Goals as goal

pub returns : goal.returns
returns c =
    let s = c.args.self.now in
    let f = λ (o : Option Top). is_unmade c.args.name.now (statics.static_of o) in
    c.is_unmade.ensures ∙ ap f c.top.ensures ∙ top_is (unit s.tree.now) (stands_for s.tops) (knows s.classes) (in_set s.methods) (in_set s.accessors) s.built_in.classes s.built_in.methods s.exact f c.args.name.now

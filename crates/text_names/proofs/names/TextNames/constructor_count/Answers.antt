use Rattle.std.proofs.Common.{◌∙◌, ap}
use Rattle.dart_syntax.specs.View.{unit}
use Rattle.text_names.specs.Maps.{in_set}
use Rattle.text_names.specs.Around.{knows}
use Rattle.text_names.specs.Tops.{stands_for}
use Rattle.text_names.specs.Asked.{params_of}
use Rattle.text_names.proofs.Exact.{constructor_is}
use Rattle.text_names.proofs.names.TextNames.constructor_count.Goals as goal

pub returns : goal.returns
returns c =
    let s = c.args.self.now in
    c.params_of.ensures ∙ ap params_of c.class.ensures ∙ constructor_is (unit s.tree.now) (stands_for s.tops) (knows s.classes) (in_set s.methods) (in_set s.accessors) s.built_in.classes s.built_in.methods s.exact c.args.class.now

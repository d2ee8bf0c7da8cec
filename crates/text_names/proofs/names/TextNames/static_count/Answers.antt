use Rattle.std.proofs.Common.{◌∙◌, ap, option_map}
use Rattle.dart_syntax.specs.View.{unit}
use Rattle.static_rules.specs.Statics.{static_of}
use Rattle.text_names.specs.Maps.{in_set}
use Rattle.text_names.specs.Around.{knows}
use Rattle.text_names.specs.Tops.{top_of, stands_for}
use Rattle.text_names.specs.Asked.{count_of}
use Rattle.text_names.proofs.Exact.{count_is}
use Rattle.text_names.proofs.names.TextNames.static_count.Goals as goal

pub returns : goal.returns
returns c =
    let s = c.args.self.now in
    c.count_of.ensures ∙ ap (λ k. count_of k c.args.name.now (static_of (option_map top_of c.top.result))) c.constructor_count-made.ensures ∙ count_is (unit s.tree.now) (stands_for s.tops) (knows s.classes) (in_set s.methods) (in_set s.accessors) s.built_in.classes s.built_in.methods s.exact c.args.name.now (option_map top_of c.top.result) c.top.ensures

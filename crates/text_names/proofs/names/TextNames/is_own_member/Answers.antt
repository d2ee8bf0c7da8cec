use Rattle.std.proofs.Common.{◌∙◌, ap}
use Rattle.dart_syntax.specs.View.{unit}
use Rattle.name_uses.specs.Found.{part_of}
use Rattle.text_names.specs.Maps.{in_set}
use Rattle.text_names.specs.Around.{knows}
use Rattle.text_names.specs.Tops.{stands_for}
use Rattle.text_names.specs.declared.names.Within.TheVariants as within
use Rattle.text_names.specs.Asked.{is_within}
use Rattle.text_names.proofs.Exact.{own_member_is}
use Rattle.text_names.proofs.names.TextNames.is_own_member.Goals as goal

pub returns : goal.returns
returns c =
    let s = c.args.self.now in
    c.is_within.ensures ∙ ap (λ o. is_within within.Members o c.args.name.now) c.own_class.ensures ∙ own_member_is (unit s.tree.now) (stands_for s.tops) (knows s.classes) (in_set s.methods) (in_set s.accessors) s.built_in.classes s.built_in.methods s.exact (part_of c.args.part.now).class c.args.name.now

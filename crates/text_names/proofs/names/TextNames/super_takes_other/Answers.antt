use Rattle.std.proofs.Common.{◌∙◌, ap}
use Rattle.dart_syntax.specs.View.{unit}
use Rattle.program.specs.declared.numbered.SelectorKind.TheVariants.{Call}
use Rattle.dart_meaning.specs.Means.{super_member}
use Rattle.name_uses.specs.Found.{part_of}
use Rattle.name_uses.specs.Looked.{looked_class}
use Rattle.text_names.specs.Above.{is_other}
use Rattle.text_names.proofs.Taken.{other_is}
use Rattle.text_names.proofs.names.TextNames.super_takes_other.Goals as goal

pub returns : goal.returns
returns c =
    let s = c.args.self.now in
    c.is_other.ensures ∙ ap (λ o. is_other o c.args.count) c.super_takes.ensures ∙ other_is c.args.count (super_member (unit s.tree.now) (looked_class (unit s.tree.now) (part_of c.args.part.now).class) Call c.args.name.now)

use Rattle.std.proofs.Common.{◌∙◌, ap, sym, option_map}
use Rattle.dart_syntax.specs.View.{unit}
use Rattle.dart_meaning.specs.Numbering as num
use Rattle.tree_numbers.specs.Parts.{text_of}
use Rattle.tree_numbers.proofs.tables.TreeNumbers.super_number.Goals as goal

pub returns-in-Some : goal.returns-in-Some
returns-in-Some c = λ site_of.
    let tree = unit c.args.self.now.tree.now in
    c.member_number.ensures ∙ ap (λ class. num.member_number tree class c.args.kind c.args.name.now) c.super_class.ensures
    ∙ ap (λ here. num.super_number tree site_of (option_map text_of here) c.args.kind c.args.name.now) (sym c.in-Some.is)

use Rattle.std.proofs.Common.{◌∙◌, ap, unwrap_or}
use Rattle.dart_syntax.specs.View.{unit}
use Rattle.dart_meaning.specs.Classes.{parent, object}
use Rattle.static_rules.specs.WrongArgumentsOfStatic.{constructor_count}
use Rattle.text_names.specs.Above.{count_by_class}
use Rattle.text_names.proofs.names.TextNames.super_count_by.Goals as goal

pub returns-in-Some : goal.returns-in-Some
returns-in-Some c =
    let tree = unit c.args.self.now.tree.now in
    c.parent_count.ensures ∙ ap (λ q. constructor_count tree (unwrap_or (parent tree q) object)) c.as_slice.ensures ∙ ap (count_by_class tree) c.in-Some.ensures

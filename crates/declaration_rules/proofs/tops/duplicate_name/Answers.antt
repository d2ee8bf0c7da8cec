use Rattle.std.proofs.Common.{ap, ◌∙◌, map}
use Rattle.dart_syntax.specs.View.{top, unit}
use Rattle.dart_meaning.specs.Means.{top_name}
use Rattle.static_rules.specs.Places.{first_in, ◌or_else◌}
use Rattle.static_rules.specs.Repeats.{repeated}
use Rattle.declaration_rules.specs.Known.{class_names, is_built_in_of}
use Rattle.static_rules.specs.DuplicateName.{in_top}
use Rattle.declaration_rules.proofs.Rules.{duplicate_name_is}
use Rattle.declaration_rules.proofs.tops.duplicate_name.Goals as goal

pub returns : goal.returns
returns c =
    let names = class_names c.as_slice.result.now in
    c.earlier_of.ensures
    ∙ ap (λ o. o or_else c.in_ok-repeated_in_tops.field-0) c.in_ok-at.ensures
    ∙ ap (λ o. repeated (is_built_in_of names) (map top_name (map top c.as_slice-tops.result.now)) or_else o) c.in_ok-repeated_in_tops.ensures
    ∙ ap (λ ts. repeated (is_built_in_of names) (map top_name (map top ts)) or_else first_in in_top (map top ts)) c.as_slice-tops.ensures
    ∙ duplicate_name_is (unit c.args.tree.now) names (ap class_names c.as_slice.ensures ∙ ap class_names c.in_ok-built_in.ensures.classes)

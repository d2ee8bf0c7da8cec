use Rattle.std.proofs.Common.{ap, ◌∙◌, map}
use Rattle.std.specs.Prelude.{filter_map}
use Rattle.dart_syntax.specs.View.{top, unit}
use Rattle.dart_meaning.specs.Classes.{class_at}
use Rattle.static_rules.specs.Places.{first_in}
use Rattle.declaration_rules.specs.Known.{breaks_in, class_names, is_declared, is_one_of}
use Rattle.declaration_rules.specs.declared.supers.SuperRule.TheVariants as rule
use Rattle.declaration_rules.specs.Seen.{has, class_of}
use Rattle.declaration_rules.proofs.Rules.{unknown_super_is}
use Rattle.declaration_rules.proofs.supers.unknown_super.Goals as goal

pub returns : goal.returns
returns c =
    let names = class_names c.as_slice-2.result.now in
    let known = has c.in_ok-known.known in
    c.first_breaks.ensures
    ∙ ap (λ cs. first_in (breaks_in rule.Unknown known (is_one_of names)) (map class_of cs)) c.deref-2.ensures.value
    ∙ unknown_super_is (unit c.args.tree.now) known names (map class_of c.in_ok-classes.classes.items)
    (c.in_ok-classes.ensures ∙ ap (λ ts. filter_map class_at (map top ts)) c.as_slice.ensures)
    (λ q. c.in_ok-known.ensures q ∙ ap (λ cs. is_declared (map class_of cs) q) c.deref.ensures.value)
    (ap class_names c.as_slice-2.ensures ∙ ap class_names c.in_ok-built_in.ensures.classes)

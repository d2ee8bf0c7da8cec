use Rattle.std.proofs.Common.{ap, ◌∙◌, map}
use Rattle.std.specs.Prelude.{filter_map}
use Rattle.dart_syntax.specs.View.{top, unit}
use Rattle.dart_meaning.specs.Classes.{class_at}
use Rattle.static_rules.specs.Places.{first_in}
use Rattle.declaration_rules.specs.Known.{breaks_in, class_names, is_one_of}
use Rattle.declaration_rules.specs.declared.supers.SuperRule.TheVariants as rule
use Rattle.declaration_rules.specs.Seen.{has, class_of}
use Rattle.declaration_rules.proofs.Rules.{super_is_builtin_is}
use Rattle.declaration_rules.proofs.supers.super_is_builtin.Goals as goal

pub returns : goal.returns
returns c =
    let names = class_names c.as_slice-2.result.now in
    let known = has c.in_ok-known.known in
    c.first_breaks.ensures
    ∙ ap (λ cs. first_in (breaks_in rule.BuiltIn known (is_one_of names)) (map class_of cs)) c.deref-2.ensures.value
    ∙ super_is_builtin_is (unit c.args.tree.now) known names (map class_of c.in_ok-classes.classes.items)
    (c.in_ok-classes.ensures ∙ ap (λ ts. filter_map class_at (map top ts)) c.as_slice.ensures)
    (ap class_names c.as_slice-2.ensures ∙ ap class_names c.in_ok-built_in.ensures.classes)

use Rattle.std.proofs.Common.{ap, ◌∙◌, map}
use Rattle.std.proofs.lemmas.Result.{IfOk-weaker}
use Rattle.std.specs.Prelude.{filter_map}
use Rattle.program.specs.BuiltIn.{built_in_members}
use Rattle.dart_syntax.specs.View.{top, unit}
use Rattle.dart_meaning.specs.Classes.{class_at}
use Rattle.declaration_rules.specs.Mixing.{mixed_in}
use Rattle.declaration_rules.specs.Seen.{class_of}
use Rattle.declaration_rules.proofs.Mixing.{mixed_name_is}
use Rattle.declaration_rules.proofs.mixed.mixed_name.Goals as goal

pub returns : goal.returns
returns c =
    let is = ap (λ m. mixed_in m (map class_of c.deref.result.now)) (c.as_slice-2.ensures ∙ c.in_ok-built_in.ensures.members)
    ∙ ap (λ cs. mixed_in built_in_members (map class_of cs)) c.deref.ensures.value
    ∙ ap (mixed_in built_in_members) (c.in_ok-classes.ensures ∙ ap (λ ts. filter_map class_at (map top ts)) c.as_slice.ensures)
    ∙ mixed_name_is (unit c.args.tree.now) in
    IfOk-weaker c.mixed_in.result _ _ (λ at h. h ∙ is) c.mixed_in.ensures

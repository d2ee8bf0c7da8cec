use Rattle.std.proofs.Common.{◌+◌, ap, sym, ◌∙◌, map}
use Rattle.std.specs.Prelude.{filter_map}
use Rattle.dart_syntax.specs.View.{top, unit}
use Rattle.program.specs.declared.numbered.Numbered.{Numbered}
use Rattle.program.specs.Parts.{Parts}
use Rattle.dart_meaning.specs.Classes.{class_at}
use Rattle.declaration_rules.specs.Seen.{class_of}
use Rattle.class_chains.proofs.Overriding.{bad_override_is, length-mapped}
use Rattle.class_chains.proofs.overrides.bad_override.Goals as goal

pub returns : goal.returns
returns c =
    let k = c.in_ok-chains.chains in
    let built_in = c.in_ok-chains.ensures.built_in in
    let all = ap (map class_of) c.in_ok-chains.ensures.all ∙ c.in_ok-classes.ensures ∙ ap (λ ts. filter_map class_at (map top ts)) c.as_slice.ensures in
    c.first_override.ensures
    ∙ bad_override_is (unit c.args.tree.now) k (map class_of k.all.items)
    (ap (λ (p : Numbered). p.classes) built_in ∙ ap (λ (p : Parts). p.classes) c.in_ok-built_in.ensures)
    (ap (λ (p : Numbered). p.methods) built_in ∙ ap (λ (p : Parts). p.methods) c.in_ok-built_in.ensures)
    all c.in_ok-chains.ensures.found
    (c.in_ok-chains.ensures.most ∙ ap (λ n. 6 + n) (sym (length-mapped class_of k.all.items)))

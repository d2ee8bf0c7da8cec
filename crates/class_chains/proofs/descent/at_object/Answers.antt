use Rattle.std.proofs.Common.{◌<◌, ◌∙◌, ap, sym, subst, refl, arith, option_map}
use Rattle.program.specs.declared.numbered.Numbered.{Numbered}
use Rattle.dart_meaning.specs.Classes.{object}
use Rattle.declaration_rules.specs.Seen.{class_of}
use Rattle.class_chains.specs.Overriding.{built_in_by}
use Rattle.class_chains.specs.Descending.{IsNearest}
use Rattle.class_chains.proofs.Numbers.{some_inj, no_some}
use Rattle.class_chains.proofs.Walking.{begun}
use Rattle.class_chains.proofs.descent.at_object.Goals as goal

pub returns : goal.returns
returns c = λ n same.
    let k = c.args.chains.now in
    let most : 1 < k.most = omega (arith, c.if-most-lt2.false, c.most.ensures) in
    subst (IsNearest k) (some_inj _ n same)
    (begun k _ (sym c.class_named.ensures ∙ ap (option_map class_of) (no_some c.class_named.result (sym c.is_some.ensures ∙ c.if-is_some.false))) most
    (λ q. c.in_ok-counts.ensures q ∙ ap (λ (p : Numbered). built_in_by p.classes p.methods object q) c.built_in.ensures) refl refl)

use Rattle.std.proofs.Common.{refl, sym, subst, ap, ◌∙◌, map}
use Rattle.std.specs.Prelude.{filter_map}
use Rattle.dart_syntax.specs.View.{member}
use Rattle.class_chains.specs.declared.descent.Step.{Step}
use Rattle.class_chains.specs.Descending.{AreSteps, counted, own_or, saved}
use Rattle.class_chains.proofs.Descending.{way_more}
use Rattle.class_chains.proofs.Walking.{gone_down, step_down}
use Rattle.class_chains.proofs.descent.go_down.Goals as goal

pub returns-clause-nearest : goal.returns-clause-nearest
returns-clause-nearest c =
    gone_down c.args.chains.now c.args.nearest.now _ c.args.c c.requires.nearest c.requires.below c.requires.named c.requires.less
    (c.in_ok-put_own.ensures ∙ ap (λ ms. own_or (map member ms) (counted c.args.nearest.now.counts)) c.as_slice-members.ensures)
    c.as_slice-nearest.ensures refl

pub returns-clause-way : goal.returns-clause-way
returns-clause-way c =
    let k = c.args.chains.now in
    let near = c.args.nearest.now in
    let step : Step = record { class = c.args.c; was = c.in_ok-was.was' } in
    subst (AreSteps k) (sym c.in_ok-push.ensures.items)
    (way_more k c.args.way.now.items step c.requires.way
    (step_down k near step c.requires.nearest c.requires.below c.requires.named
    (c.in_ok-was.ensures ∙ ap (λ ms. filter_map (saved (counted near.counts)) (map member ms)) c.as_slice-members.ensures)))

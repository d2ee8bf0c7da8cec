use Rattle.std.proofs.Common.{refl, sym, subst, ap, ◌∙◌, map}
use Rattle.std.proofs.lemmas.Slice.Eq.{bytes_eq-Decides}
use Rattle.dart_meaning.specs.Classes.{parent_of}
use Rattle.class_chains.specs.Overriding.{find_in}
use Rattle.class_chains.specs.Descending.{AreSteps, counted, before_of, put_all}
use Rattle.class_chains.proofs.Descending.{way_less}
use Rattle.class_chains.proofs.Numbers.{not_ne}
use Rattle.class_chains.proofs.Walking.{gone_up}
use Rattle.class_chains.proofs.descent.leave.Goals as goal

pub returns-in_default-parent-clause-way : goal.returns-in_default-parent-clause-way
returns-in_default-parent-clause-way c =
    (way_less c.args.chains.now c.pop.new.self.items c.in-Some.last (subst (AreSteps c.args.chains.now) c.in-Some.ensures.items c.requires.way)).0

pub returns-then-ne-clause-way : goal.returns-then-ne-clause-way
returns-then-ne-clause-way c =
    (way_less c.args.chains.now c.pop.new.self.items c.in-Some.last (subst (AreSteps c.args.chains.now) c.in-Some.ensures.items c.requires.way)).0

pub returns-clause-nearest : goal.returns-clause-nearest
returns-clause-nearest c =
    let k = c.args.chains.now in
    let last = c.in-Some.last in
    let name = c.as_slice-name in
    gone_up k c.args.nearest.now _ last c.in-Some-parent.parent.now c.requires.nearest
    (way_less k c.pop.new.self.items last (subst (AreSteps k) c.in-Some.ensures.items c.requires.way)).1
    (sym name.ensures ∙ (bytes_eq-Decides name.result.now c.args.nearest.now.class.now).0 (not_ne _ _ c.ne.ensures c.if-ne.false))
    (ap (λ t. parent_of (find_in k t) t) (sym name.ensures) ∙ sym c.in-Some-parent.ensures)
    (c.in_ok-put_back.ensures ∙ ap (λ bs. put_all (map before_of bs) (counted c.args.nearest.now.counts)) c.deref.ensures.value)
    refl c.saturating_sub-nearest.ensures

pub returns-clause-way : goal.returns-clause-way
returns-clause-way c =
    (way_less c.args.chains.now c.pop.new.self.items c.in-Some.last (subst (AreSteps c.args.chains.now) c.in-Some.ensures.items c.requires.way)).0

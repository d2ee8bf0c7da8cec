use Rattle.std.proofs.Common.{◌∙◌, ap, sym, Some}
use Rattle.std.proofs.lemmas.Slice.Eq.{bytes_eq-Decides}
use Rattle.dart_meaning.specs.Classes.{parent_of}
use Rattle.class_chains.specs.Overriding.{find_in}
use Rattle.class_chains.proofs.Numbers.{not_ne}
use Rattle.class_chains.proofs.Walking.{place_found}
use Rattle.class_chains.proofs.descent.Descent.visit.Goals as goal

pub returns : goal.returns
returns c =
    let k = c.args.chains.now in
    let near = c.climb.new.nearest in
    record {
      nearest = c.in_ok-enter.ensures.nearest;
      way = c.in_ok-enter.ensures.way;
      places = c.note_place.ensures k
          (place_found k near c.args.number c.in-Some.c c.overrides_in-place.result c.in_ok-climb.ensures.nearest
          (ap (λ t. parent_of (find_in k t) t) (sym c.as_slice.ensures) ∙ sym c.in-Some-parent.ensures ∙ ap Some (sym ((bytes_eq-Decides near.class.now c.in-Some-parent.parent.now).0 (not_ne _ _ c.ne.ensures c.if-ne.false))))
          (sym c.in-Some.is ∙ c.class_at.ensures) c.overrides_in-place.ensures)
          c.requires.places;
    }

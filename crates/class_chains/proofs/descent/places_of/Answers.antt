use Rattle.std.proofs.Common.{◌≡◌, [], sym, subst, rules}
use Rattle.class_chains.specs.Descending.{AreSteps}
use Rattle.class_chains.proofs.descent.places_of.Goals as goal

pub loop-number-init : goal.loop-number-init
loop-number-init c =
    let k = c.args.chains.now in
    let none : c.new.result.items ≡ [] = search rules in
    record {
      nearest = c.in_ok-nearest.ensures c.in-Some.nearest c.in-Some.is;
      way = subst (AreSteps k) (sym none) tt;
      places = c.in_ok-places.ensures k;
    }

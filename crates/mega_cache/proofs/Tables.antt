-- Where a table has the words of a selector.
use Rattle.std.proofs.Common.{◌≡◌, ℕ, ◌+◌, ◌*◌, ◌<◌, sym, ap, ◌∙◌, subst}
use Rattle.mega_cache.specs.declared.table.MegaTable.{MegaTable}
use Rattle.mega_cache.specs.Places.{words_up_to}
use Rattle.mega_cache.specs.Region.{About, about_of, width_of, word_at}
use Rattle.mega_cache.specs.Told.{place_of}
use Rattle.mega_cache.specs.Finds.{IsNamed}
use Rattle.mega_cache.proofs.PlaceLaws.{at_inside, at_place, at_root, place_back, some_places}

module _ (p : About) (e : ℕ) (t : MegaTable) (selector : ℕ) (n : IsNamed p e t selector) where
  pub wide : width_of p ≡ t.width
  unfolding about_of
  wide = ap width_of n.0 ∙ (sym (ap words_up_to t.end) ∙ sym t.wide)

  size : 1 + p.selectors * width_of p ≡ t.table.shared.table_id.words
  unfolding about_of
  size = (λ j. 1 + (n.0 j).selectors * wide j) ∙ sym t.size

  pub root_at : word_at p e 0 ≡ 1 + selector * t.width
  root_at = at_root p e selector t.width n.1 wide

  pub root_inside : e < p.selectors → 1 + selector * t.width < t.table.shared.table_id.words
  root_inside l = subst (λ (y : ℕ × ℕ). y.0 < y.1) (λ j. (root_at j, size j)) (at_inside p e 0 l (some_places p))

  module _ (f q : ℕ) (is : f ≡ q) where
    pub place_at : word_at p e f ≡ 1 + selector * t.width + q
    place_at = at_place p e f selector t.width q n.1 wide is

    pub place_inside : e < p.selectors → f < width_of p → 1 + selector * t.width + q < t.table.shared.table_id.words
    place_inside l h = subst (λ (y : ℕ × ℕ). y.0 < y.1) (λ j. (place_at j, size j)) (at_inside p e f l h)

    pub back_at : place_of p e (1 + selector * t.width + q) ≡ f
    back_at = ap (place_of p e) (sym place_at) ∙ place_back p e f

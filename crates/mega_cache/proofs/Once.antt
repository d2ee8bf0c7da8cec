-- A class stands at most once in a generation.
use Rattle.std.proofs.Common.{◌≡◌, ℕ, ◌<◌, ◌≤◌, List, get_or, sym, ap, ◌∙◌, subst, ⊎_elim, arith}
use native.Mathlib.Decide.{dec_le}
use Rattle.mega_cache.specs.Places.{window_place, InGeneration}
use Rattle.mega_cache.specs.Region.{About, word_at, width_of, entry_of, Holds, RegionOk}
use Rattle.mega_cache.proofs.PlaceLaws.{one_gen, pack_some, spot_in}
use Rattle.mega_cache.proofs.Keeps.{entry_inj}

module _ (p : About) (words : List ℕ) (r : RegionOk p words) (sel c g : ℕ) where
  -- the place is one of the generation, and has the class
  pub record StandsHere (place : ℕ) : Type 0 where
    pub some : 0 < place
    pub inside : place < width_of p
    pub generation : InGeneration g place
    pub word : get_or words (word_at p sel place) 0 ≡ entry_of p sel c

  its_own : (f : ℕ) → StandsHere f → (h : Holds p words sel f) → (h.class ≡ c) × (h.gen ≡ g)
  its_own f s h = (entry_inj p words r sel h.class c (sym h.word ∙ s.word), one_gen h.gen g f (subst (InGeneration h.gen) (sym h.here) (spot_in h.class h.gen h.turn)) s.generation)

  not_before : (f f' : ℕ) → StandsHere f → StandsHere f' → (h : Holds p words sel f) (h' : Holds p words sel f') → h.turn < h'.turn → ⊥
  not_before f f' s s' h h' less =
      let a = its_own f s h in let b = its_own f' s' h' in let o = h'.before h.turn less in
      let here : window_place h'.class h'.gen h.turn ≡ f = (λ j. window_place ((b.0 ∙ sym a.0) j) ((b.1 ∙ sym a.1) j) h.turn) ∙ sym h.here in
      o.other (entry_inj p words r sel o.class c (sym o.word ∙ (ap (λ (z : ℕ). get_or words (word_at p sel z) 0) here ∙ s.word)) ∙ sym b.0)

  same_turn : (f f' : ℕ) → StandsHere f → StandsHere f' → (h : Holds p words sel f) (h' : Holds p words sel f') → h.turn ≡ h'.turn → f ≡ f'
  same_turn f f' s s' h h' same =
      let a = its_own f s h in let b = its_own f' s' h' in h.here ∙ ((λ j. window_place ((a.0 ∙ sym b.0) j) ((a.1 ∙ sym b.1) j) (same j)) ∙ sym h'.here)

  holder : (f : ℕ) → sel < p.selectors → StandsHere f → Holds p words sel f
  holder f l s = ⊎_elim (λ (z : get_or words (word_at p sel f) 0 ≡ 0). absurd (pack_some c (p.resolve c sel) (sym s.word ∙ z))) (λ (h : Holds p words sel f). h) (r.places sel f l s.some s.inside)

  pub stands_once : (f f' : ℕ) → sel < p.selectors → StandsHere f → StandsHere f' → f ≡ f'
  stands_once f f' l s s' = by_turns (dec_le h.turn h'.turn) (dec_le h'.turn h.turn)
    where
      h : Holds p words sel f
      h = holder f l s

      h' : Holds p words sel f'
      h' = holder f' l s'

      by_turns : Dec (h.turn ≤ h'.turn) → Dec (h'.turn ≤ h.turn) → f ≡ f'
      by_turns (yes a) (yes b) = same_turn f f' s s' h h' (omega arith)
      by_turns (no a) b = absurd (not_before f' f s' s h' h (omega arith))
      by_turns (yes a) (no b) = absurd (not_before f f' s s' h h' (omega arith))

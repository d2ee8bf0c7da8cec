-- From the number found to what it says, and from what was seen to what stands.
use Rattle.std.proofs.Common.{◌≡◌, ◌≢◌, ℕ, suc, ◌<◌, ◌≤◌, Option, Some, None, MatchOption, get_or, sym, refl, ap, ◌∙◌, subst, ⊎_elim, inl, inr, arith}
use native.Mathlib.Decide.{ℕ_discrete, dec_le}
use Rattle.mega_cache.specs.declared.entry.Entry.{Entry}
use Rattle.mega_cache.specs.declared.view.Sight.TheVariants.{Root, Taken, Empty}
use Rattle.mega_cache.specs.declared.view.MegaView.{MegaView}
use Rattle.list_members.specs.Members.{Has}
use Rattle.mega_cache.specs.Entries.{IsEntryOf, IsPacked}
use Rattle.mega_cache.specs.Places.{InGeneration, capacity, window_place}
use Rattle.mega_cache.specs.Region.{About, word_at, entry_of, Holds, Known}
use Rattle.mega_cache.specs.Told.{saw, Learnt, RootIs, PlaceIs}
use Rattle.mega_cache.specs.Finds.{RegionSeat, SeesPlace, SeesRoot, SawOthers}
use Rattle.list_members.proofs.MemberFacts.{each_has}
use Rattle.mega_cache.proofs.PlaceLaws.{cap_up, one_gen, spot_in, pack_some, pack_inj}
use Rattle.mega_cache.proofs.Keeps.{entry_inj}

pub root_told : (p : About) (e n : ℕ) (s t : RegionSeat) → e < p.selectors → RootIs p e n s.me.0 t.me.0 → SeesRoot p e s n t
root_told p e n s t le r = let w = (r.snap.region.roots e le).within in let is = r.word in (r.snap, omega arith, r.after)

-- another root is greater
pub root_rose : (p : About) (e g n : ℕ) (s t : RegionSeat) → RootIs p e n s.me.0 t.me.0 → Has (Root e g) s.me.0.seen → n ≢ g → g < n
root_rose p e g n s t r has other =
    let k : Known p r.snap.words (Root e g) = each_has (Known p r.snap.words) t.me.0.seen (Root e g) (subst (λ (z : MegaView). Has (Root e g) z.seen) (sym r.after) (inr has)) r.snap.known in
    let a = k.1 in let is = r.word in strict (dec_le n g)
  where
    strict : Dec (n ≤ g) → g < n
    strict (yes l) = let k : Known p r.snap.words (Root e g) = each_has (Known p r.snap.words) t.me.0.seen (Root e g) (subst (λ (z : MegaView). Has (Root e g) z.seen) (sym r.after) (inr has)) r.snap.known in
        let a = k.1 in let is = r.word in absurd (other (omega arith))
    strict (no l) = omega arith

-- what was found at a place unpacks
pub entry_form : (p : About) (e f n : ℕ) (v w : MegaView) → PlaceIs p e f n v w → IsPacked n
entry_form p e f n v w l = ⊎_elim (λ (y : (n ≡ 0) × (w ≡ saw v (Empty e f))). inl y.0)
    (λ (y : (c : ℕ) × (c < p.classes) × (n ≡ entry_of p e c) × (w ≡ saw v (Taken e f c))).
    let s = l.snap.region.sound in let few = s.few_classes in let top = cap_up p.last 7 s.few_generations in let is : capacity 7 ≡ 2048 = refl in let small = y.1 in inr (y.0, p.resolve y.0 e, omega arith, s.few_methods y.0 e, y.2)) l.after

-- and what it unpacks to was seen
pub read : (p : About) (e f n : ℕ) (s t : RegionSeat) → PlaceIs p e f n s.me.0 t.me.0 → (r : Option Entry) → MatchOption r (n ≡ 0) (IsEntryOf n) → SeesPlace p e f s r t
read p e f n s t l None z = record {
  snap = l.snap;
  after = (
    l.word ∙ z,
    ⊎_elim (λ (y : (n ≡ 0) × (t.me.0 ≡ saw s.me.0 (Empty e f))). y.1) (λ (y : (c : ℕ) × (c < p.classes) × (n ≡ entry_of p e c) × (t.me.0 ≡ saw s.me.0 (Taken e f c))). absurd (pack_some y.0 (p.resolve y.0 e) (sym y.2 ∙ z))) l.after,
  );
}
read p e f n s t l (Some a) two = let is = two.0 in let fits = two.1 in record {
  snap = l.snap;
  after = ⊎_elim (λ (y : (n ≡ 0) × (t.me.0 ≡ saw s.me.0 (Empty e f))). absurd (pack_some a.class.0 a.target (sym is ∙ y.0)))
      (λ (y : (c : ℕ) × (c < p.classes) × (n ≡ entry_of p e c) × (t.me.0 ≡ saw s.me.0 (Taken e f c))).
      let both = pack_inj a.class.0 a.target y.0 (p.resolve y.0 e) fits (l.snap.region.sound.few_methods y.0 e) (sym is ∙ y.2) in
      ((subst (λ (z : ℕ). z < p.classes) (sym both.0) y.1, both.1 ∙ ap (λ (z : ℕ). p.resolve z e) (sym both.0)), y.3 ∙ ap (λ (z : ℕ). saw s.me.0 (Taken e f z)) (sym both.0)))
      l.after;
}

module _ (p : About) (v : MegaView) (s : Learnt p v) (e c g : ℕ) (f : ℕ) (in_gen : InGeneration g f) (has : Has (Taken e f c) v.seen) where
  -- the class stands in its window of the generation, behind others
  pub held : (h : Holds p s.words e f) × (h.class ≡ c) × (h.gen ≡ g)
  held = let k : Known p s.words (Taken e f c) = each_has (Known p s.words) v.seen (Taken e f c) has s.known in
      ⊎_elim (λ (z : get_or s.words (word_at p e f) 0 ≡ 0). absurd (pack_some c (p.resolve c e) (sym k.4 ∙ z)))
      (λ (h : Holds p s.words e f). (h, entry_inj p s.words s.region e h.class c (sym h.word ∙ k.4), one_gen h.gen g f (subst (InGeneration h.gen) (sym h.here) (spot_in h.class h.gen h.turn)) in_gen)) (s.region.places e f k.0 k.1 k.2)

  here_is : window_place c g held.0.turn ≡ f
  here_is = (λ j. window_place (sym held.1 j) (sym held.2 j) held.0.turn) ∙ sym held.0.here

  -- so the places before it are not of other classes up to d
  pub found : (d : ℕ) → SawOthers e c g d v → held.0.turn < d → ⊥
  found d before late =
      let h = held.0 in let b = before h.turn late in let k : Known p s.words (Taken e (window_place c g h.turn) b.0) = each_has (Known p s.words) v.seen (Taken e (window_place c g h.turn) b.0) b.1 s.known in
      let same : entry_of p e b.0 ≡ entry_of p e h.class = sym k.4 ∙ (ap (λ (z : ℕ). get_or s.words (word_at p e z) 0) here_is ∙ h.word) in
      b.2 (entry_inj p s.words s.region e b.0 h.class same ∙ held.1)

  pub not_full : SawOthers e c g 8 v → ⊥
  not_full before = let h = held.0 in let near = h.near in found 8 before (omega arith)

  -- an empty place in the window is behind it
  pub not_empty : (d : ℕ) → SawOthers e c g d v → get_or s.words (word_at p e (window_place c g d)) 0 ≡ 0 → ⊥
  not_empty d before z = by_order (dec_le (suc d) held.0.turn) (ℕ_discrete d held.0.turn)
    where
      by_order : Dec (d < held.0.turn) → Dec (d ≡ held.0.turn) → ⊥
      by_order (yes l) e' = let o = held.0.before d l in pack_some o.class (p.resolve o.class e) (sym o.word ∙ (ap (λ (y : ℕ × ℕ). get_or s.words (word_at p e (window_place y.0 y.1 d)) 0) (λ j. (held.1 j, held.2 j)) ∙ z))
      by_order (no n) (yes same) = pack_some held.0.class (p.resolve held.0.class e) (sym held.0.word ∙ (ap (λ (y : ℕ). get_or s.words (word_at p e y) 0) (sym here_is ∙ ap (window_place c g) (sym same)) ∙ z))
      by_order (no n) (no n') = found d before (omega arith)

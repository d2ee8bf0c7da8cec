-- What a pass has seen of a window, place by place.
use Rattle.std.proofs.Common.{◌≡◌, ◌≢◌, ℕ, zero, suc, ◌+◌, ◌<◌, ◌≤◌, List, [], ◌∷◌, ◌++◌, sym, refl, ap, ◌∙◌, subst, inl, inr, arith, below_more}
use Rattle.mega_cache.specs.declared.view.Sight.{Sight}
use Rattle.mega_cache.specs.declared.view.Sight.TheVariants.{Root, Taken, Empty}
use Rattle.mega_cache.specs.declared.view.MegaView.{MegaView}
use Rattle.list_members.specs.Members.{Has}
use Rattle.mega_cache.specs.Places.{window_place}
use Rattle.mega_cache.specs.Region.{About, width_of}
use Rattle.mega_cache.specs.Told.{saw}
use Rattle.mega_cache.specs.Finds.{SawOthers, ReadOthers, with_read, StandsAt}
use Rattle.list_members.proofs.MemberFacts.{has_right}
use Rattle.mega_cache.proofs.PlaceLaws.{spot_in, spot_some, spot_inside}

pub has_saw : (v w : MegaView) (s t : Sight) → w ≡ saw v s → Has t v.seen → Has t w.seen
has_saw v w s t is h = subst (λ (z : MegaView). Has t z.seen) (sym is) (inr h)

pub newest : (v w : MegaView) (s : Sight) → w ≡ saw v s → Has s w.seen
newest v w s is = subst (λ (z : MegaView). Has s z.seen) (sym is) (inl refl)

pub before_on : (e c g d : ℕ) (v w : MegaView) (s : Sight) → w ≡ saw v s → SawOthers e c g d v → SawOthers e c g d w
before_on e c g d v w s is b j l = let a = b j l in (a.0, has_saw v w s _ is a.1, a.2)

pub before_next : (e c g d k : ℕ) (v w : MegaView) → w ≡ saw v (Taken e (window_place c g d) k) → SawOthers e c g d v → k ≢ c → SawOthers e c g (d + 1) w
before_next e c g d k v w is b other = below_more (λ (j : ℕ). (k : ℕ) × Has (Taken e (window_place c g j) k) w.seen × (k ≢ c)) d (before_on e c g d v w (Taken e (window_place c g d) k) is b) (k, newest v w (Taken e (window_place c g d) k) is, other)

window_in : (e c g n : ℕ) (l m : List Sight) → ReadOthers e c g n l → (j : ℕ) → j < n → (k : ℕ) × Has (Taken e (window_place c g j) k) (l ++ m) × (k ≢ c)
window_in e c g zero l m o j lt = absurd (omega arith)
window_in e c g (suc n) [] m o j lt = absurd o
window_in e c g (suc n) (Root y h ∷ l) m o j lt = absurd o
window_in e c g (suc n) (Empty y f ∷ l) m o j lt = absurd o
window_in e c g (suc n) (Taken y f k ∷ l) m o j lt =
    below_more (λ (j : ℕ). (k' : ℕ) × Has (Taken e (window_place c g j) k') (Taken y f k ∷ l ++ m) × (k' ≢ c)) n (λ j lt'. (let r = window_in e c g n l m o.3 j lt' in (r.0, inr r.1, r.2)))
    (k, inl (λ i. Taken (sym o.0 i) (sym o.1 i) k), o.2) j (omega arith)

pub window_before : (e c g n : ℕ) (v w : MegaView) (l : List Sight) → w ≡ with_read v l → ReadOthers e c g n l → SawOthers e c g n w
window_before e c g n v w l is o = subst (SawOthers e c g n) (sym is) (window_in e c g n l v.seen o)

pub window_next : (e c g n k : ℕ) (l : List Sight) → ReadOthers e c g n l → k ≢ c → ReadOthers e c g (n + 1) (Taken e (window_place c g n) k ∷ l)
window_next e c g n k l o other = subst (λ (z : ℕ). ReadOthers e c g z (Taken e (window_place c g n) k ∷ l)) (let z : suc n ≡ n + 1 = omega arith in z) (refl, refl, other, o)

pub more : (v w u : MegaView) (l : List Sight) (s : Sight) → w ≡ with_read v l → u ≡ saw w s → u ≡ with_read v (s ∷ l)
more v w u l s is next = next ∙ ap (λ (z : MegaView). saw z s) is

pub stands_on : (e c g : ℕ) (v w : MegaView) (l : List Sight) → w ≡ with_read v l → StandsAt e c g v → StandsAt e c g w
stands_on e c g v w l is s = (s.0, s.1, subst (λ (z : MegaView). Has (Taken e s.0 c) z.seen) (sym is) (has_right l v.seen (Taken e s.0 c) s.2))

pub place_ok : (p : About) (c g d q : ℕ) → g ≤ p.last → q ≡ window_place c g d → (0 < q) × (q < width_of p)
place_ok p c g d q le is = subst (λ (z : ℕ). (0 < z) × (z < width_of p)) (sym is) (spot_some c g d, spot_inside p c g d le)

pub more_before : (e c g d : ℕ) (v w : MegaView) → ((s : Sight) → Has s v.seen → Has s w.seen) → SawOthers e c g d v → SawOthers e c g d w
more_before e c g d v w more b j l = let a = b j l in (a.0, more (Taken e (window_place c g j) a.0) a.1, a.2)

pub next_before : (e c g d k : ℕ) (v w : MegaView) → ((s : Sight) → Has s v.seen → Has s w.seen) → Has (Taken e (window_place c g d) k) w.seen → SawOthers e c g d v → k ≢ c → SawOthers e c g (d + 1) w
next_before e c g d k v w more has b other = below_more (λ (j : ℕ). (k : ℕ) × Has (Taken e (window_place c g j) k) w.seen × (k ≢ c)) d (more_before e c g d v w more b) (k, has, other)

pub stands_at : (e c g d k : ℕ) (w : MegaView) → k ≡ c → Has (Taken e (window_place c g d) k) w.seen → StandsAt e c g w
stands_at e c g d k w is has = (window_place c g d, spot_in c g d, subst (λ (z : ℕ). Has (Taken e (window_place c g d) z) w.seen) is has)

-- Laws for callers: what a pass has seen it goes on having seen, and a class that was seen is found again.
use Rattle.std.proofs.Common.{◌≡◌, ℕ, ◌<◌, List, ◌∷◌, refl, sym, subst, ⊎_elim, inl}
use Rattle.program.specs.declared.numbered.Target.{Target}
use Rattle.mega_cache.specs.declared.view.Sight.{Sight}
use Rattle.mega_cache.specs.declared.view.Sight.TheVariants.{Taken, Empty}
use Rattle.mega_cache.specs.declared.view.MegaView.{MegaView}
use Rattle.mega_cache.specs.declared.view.Found.{Found}
use Rattle.mega_cache.specs.declared.view.Found.TheVariants.{At, Absent}
use Rattle.list_members.specs.Members.{Has}
use Rattle.mega_cache.specs.Places.{window_place}
use Rattle.mega_cache.specs.Told.{both}
use Rattle.mega_cache.specs.Finds.{FindIs, FoundAgain, KeepsSeen, ReadOthers, ReadTo, StandsAt, with_read}
use Rattle.list_members.proofs.MemberFacts.{has_left, has_right}
use Rattle.mega_cache.proofs.PlaceLaws.{spot_in}

pub keeps_all : (v : MegaView) → KeepsSeen v v
keeps_all v s h = h

pub keeps_further : (u v w : MegaView) → KeepsSeen u v → KeepsSeen v w → KeepsSeen u w
keeps_further u v w k l s h = l s (k s h)

-- so does a pass that is the same, as each of two behind a split
pub keeps_same : (v w : MegaView) → w ≡ v → KeepsSeen v w
keeps_same v w is s h = subst (λ (z : MegaView). Has s z.seen) (sym is) h

pub keeps_read : (v w : MegaView) (l : List Sight) → w ≡ with_read v l → KeepsSeen v w
keeps_read v w l is s h = subst (λ (z : MegaView). Has s z.seen) (sym is) (has_right l v.seen s h)

-- a join keeps what either pass had seen
pub keeps_left : (u v w : MegaView) → w ≡ both u v → KeepsSeen u w
keeps_left u v w is s h = subst (λ (z : MegaView). Has s z.seen) (sym is) (has_left u.seen v.seen s h)

pub keeps_right : (u v w : MegaView) → w ≡ both u v → KeepsSeen v w
keeps_right u v w is s h = subst (λ (z : MegaView). Has s z.seen) (sym is) (has_right u.seen v.seen s h)

-- `find` keeps what was seen before
pub find_keeps : (sel c : ℕ) (r : Found) (v w : MegaView) → FindIs sel c r v w → KeepsSeen v w
find_keeps sel c (At t g) v w f = keeps_read v w (Taken sel (window_place c g f.0) c ∷ f.2.0) f.2.1
find_keeps sel c (Absent g) v w f = ⊎_elim (λ (h : (l : List Sight) × (w ≡ with_read v l) × ReadOthers sel c g 8 l). keeps_read v w h.0 h.1)
    (λ (h : (d : ℕ) × (d < 8) × ReadTo sel c g d (Empty sel (window_place c g d)) v w). keeps_read v w (Empty sel (window_place c g h.0) ∷ h.2.0) h.2.1) f

-- a class that is found was seen there
pub find_stands : (sel c : ℕ) (t : Target) (g : ℕ) (v w : MegaView) → FindIs sel c (At t g) v w → StandsAt sel c g w
find_stands sel c t g v w f = (window_place c g f.0, spot_in c g f.0, subst (λ (z : MegaView). Has (Taken sel (window_place c g f.0) c) z.seen) (sym f.2.1) (inl refl))

-- a class that was seen stays seen, through each later call, split and join
pub stands_later : (sel c g : ℕ) (v w : MegaView) → KeepsSeen v w → StandsAt sel c g v → StandsAt sel c g w
stands_later sel c g v w k s = (s.0, s.1, k (Taken sel s.0 c) s.2)

-- so where the root has that generation, the next `find` is no Absent
pub stands_found : (sel c g : ℕ) (v w : MegaView) → KeepsSeen v w → StandsAt sel c g v → ¬ FoundAgain sel c (Absent g) w
stands_found sel c g v w k s absent = absent (stands_later sel c g v w k s)

-- What each kind of step tells.
use Rattle.std.specs.Prelude.{◌≡◌, ◌≢◌, ◌⊎◌, ℕ, ◌+◌, ◌-◌, ◌*◌, ◌<◌, List, [], ◌∷◌, ◌++◌, slice_index}
use Rattle.atomic_table.specs.Table.{Me, Step}
use Rattle.mega_cache.specs.declared.view.Sight.{Sight}
use Rattle.mega_cache.specs.declared.view.Sight.TheVariants.{Root, Taken, Empty}
use Rattle.mega_cache.specs.declared.view.MegaView.{MegaView}
use Rattle.list_members.specs.Members.{Each}
use Rattle.mega_cache.specs.Region.{About, word_at, entry_of, width_of, root_of, Known, RegionOk}

-- one atomic step
abbrev pub At : Type 0
At = Step (Unit {0})

-- a pass at a step
abbrev pub Sat : Type 0
Sat = Me (Unit {0}) MegaView

-- one word more was seen
abbrev pub saw : MegaView → Sight → MegaView
saw v t = record { seen = t ∷ v.seen }

-- at some moment the words were these, which keep the rule, and all that was seen was in them
pub record Learnt (p : About) (v : MegaView) : Type 0 where
  pub words : List ℕ
  pub region : RegionOk p words
  pub known : Each (Known p words) v.seen

-- the root was n, and that is seen
pub record RootIs (p : About) (sel n : ℕ) (v w : MegaView) : Type 0 where
  pub snap : Learnt p w
  pub word : root_of p snap.words sel ≡ n
  pub after : w ≡ saw v (Root sel n)

-- what was seen at a place whose word is n: it is empty, or holds a class
abbrev pub SawPlace : About → ℕ → ℕ → ℕ → MegaView → MegaView → Type 0
SawPlace p sel place n v w =
    ((n ≡ 0) × (w ≡ saw v (Empty sel place))) ⊎ ((c : ℕ) × (c < p.classes) × (n ≡ entry_of p sel c) × (w ≡ saw v (Taken sel place c)))

-- the word of the place was n, and that is seen
pub record PlaceIs (p : About) (sel place n : ℕ) (v w : MegaView) : Type 0 where
  pub snap : Learnt p w
  pub word : slice_index snap.words (word_at p sel place) ≡ n
  pub after : SawPlace p sel place n v w

-- load of the root
abbrev pub root_loaded : About → ℕ → At → Sat → ℕ → Sat → Type 0
root_loaded p sel st m n m' = (m'.1 ≡ m.1) × RootIs p sel n m.0 m'.0

-- raise of the root, to the next generation: that stands now, or what was found
abbrev pub root_raised : About → ℕ → At → Sat → ℕ → Sat → Type 0
root_raised p sel st m n m' = (m'.1 ≡ m.1) × (n ≡ st.first → RootIs p sel st.second m.0 m'.0) × (n ≢ st.first → RootIs p sel n m.0 m'.0)

-- the place whose word has this number
abbrev pub place_of : About → ℕ → ℕ → ℕ
place_of p sel i = i - (1 + sel * width_of p)

-- load of a place
abbrev pub place_loaded : About → ℕ → At → Sat → ℕ → Sat → Type 0
place_loaded p sel st m n m' = (m'.1 ≡ m.1) × PlaceIs p sel (place_of p sel st.word) n m.0 m'.0

-- claim of a place: it was empty and holds the class now, or it holds what was found
abbrev pub place_claimed : About → ℕ → At → Sat → ℕ → Sat → Type 0
place_claimed p sel st m n m' =
    (m'.1 ≡ m.1) × (n ≡ 0 → PlaceIs p sel (place_of p sel st.word) st.second m.0 m'.0) × (n ≢ 0 → PlaceIs p sel (place_of p sel st.word) n m.0 m'.0)

-- what the first pass has seen, and what is left of one that was joined to another
abbrev pub nothing : MegaView
nothing = record { seen = [] }

-- split: both have seen what the one had
abbrev pub same : MegaView → MegaView
same v = v

-- join: what either has seen
abbrev pub both : MegaView → MegaView → MegaView
both v w = record { seen = v.seen ++ w.seen }

-- What `find`, `insert` and the steps under them require and tell.
use Rattle.std.specs.Prelude.{◌≡◌, ◌≢◌, ◌⊎◌, ℕ, zero, suc, ◌<◌, ◌≤◌, Bool, true, false, List, [], ◌∷◌, ◌++◌, length, Option, Some, MatchOption, slice_index}
use Rattle.atomic_table.specs.declared.shared.Seat.{Seat}
use Rattle.program.specs.declared.numbered.Target.{Target}
use Rattle.program.specs.Lookup.{resolve}
use Rattle.program.specs.Program.{parts_of}
use Rattle.method_lookup.specs.declared.linked.Linked.{Linked}
use Rattle.mega_cache.specs.declared.entry.Entry.{Entry}
use Rattle.mega_cache.specs.declared.view.Sight.{Sight}
use Rattle.mega_cache.specs.declared.view.Sight.TheVariants.{Root, Taken, Empty}
use Rattle.mega_cache.specs.declared.view.MegaView.{MegaView}
use Rattle.mega_cache.specs.declared.view.Found.{Found}
use Rattle.mega_cache.specs.declared.view.Found.TheVariants.{At, Absent}
use Rattle.mega_cache.specs.declared.table.MegaTable.{MegaTable}
use Rattle.mega_cache.specs.declared.table.MegaPass.{MegaPass}
use Rattle.list_members.specs.Members.{Has}
use Rattle.mega_cache.specs.Places.{last_generation, window_place, InGeneration}
use Rattle.mega_cache.specs.Region.{About, about_of, word_at}
use Rattle.mega_cache.specs.Told.{Learnt, saw}

-- A table, and its passes.

-- the program that a table was made for
abbrev pub linked_of : MegaTable → Linked
linked_of table = table.table.shared.key.value

-- where a call of a selector on a class of that program goes
abbrev pub target_in : MegaTable → ℕ → ℕ → Target
target_in table c sel = resolve (parts_of (linked_of table).program) c sel

-- the last generation of a table
abbrev pub last_in : MegaTable → ℕ
last_in table = last_generation (length (linked_of table).program.classes)

-- the pass is one of this table
abbrev pub IsPassOf : MegaTable → MegaPass → Type 0
IsPassOf table pass = pass.seat.table_id ≡ table.table.shared.table_id

-- what a pass has seen
abbrev pub seen_by : MegaPass → MegaView
seen_by pass = pass.seat.me.0

-- the table's program has the selector
abbrev pub HasSelector : MegaTable → ℕ → Type 0
HasSelector table sel = sel < length (linked_of table).program.selectors

-- the table's program has the class
abbrev pub HasClass : MegaTable → ℕ → Type 0
HasClass table c = c < length (linked_of table).program.classes

-- What was seen.

-- class k was seen at place d of the window of c
abbrev pub SawAt : ℕ → ℕ → ℕ → ℕ → ℕ → MegaView → Type 0
SawAt sel c g d k v = Has (Taken sel (window_place c g d) k) v.seen

-- the places of the window of c up to d were seen taken by others
abbrev pub SawOthers : ℕ → ℕ → ℕ → ℕ → MegaView → Type 0
SawOthers sel c g d v = (j : ℕ) → j < d → (k : ℕ) × SawAt sel c g j k v × (k ≢ c)

-- the list has nothing but the root, at generation g, and then the first n places of the window of c, each with another class, the newest first
abbrev pub ReadOthers : ℕ → ℕ → ℕ → ℕ → List Sight → Type 0
ReadOthers sel c g zero (Root y h ∷ l) = (y ≡ sel) × (h ≡ g) × (l ≡ [])
ReadOthers sel c g zero _ = ⊥
ReadOthers sel c g (suc n) (Taken y place k ∷ l) = (y ≡ sel) × (place ≡ window_place c g n) × (k ≢ c) × ReadOthers sel c g n l
ReadOthers sel c g (suc n) _ = ⊥

-- these were seen too
abbrev pub with_read : MegaView → List Sight → MegaView
with_read v l = record { seen = l ++ v.seen }

-- the root, n places with other classes, and then this
abbrev pub ReadTo : ℕ → ℕ → ℕ → ℕ → Sight → MegaView → MegaView → Type 0
ReadTo sel c g n last v w = (l : List Sight) × (w ≡ with_read v (last ∷ l)) × ReadOthers sel c g n l

-- `find` read the root and then the window, place by place: up to the class, to the first empty place, or to the end
abbrev pub FindIs : ℕ → ℕ → Found → MegaView → MegaView → Type 0
FindIs sel c (At t g) v w = (d : ℕ) × (d < 8) × ReadTo sel c g d (Taken sel (window_place c g d) c) v w
FindIs sel c (Absent g) v w =
    ((l : List Sight) × (w ≡ with_read v l) × ReadOthers sel c g 8 l) ⊎ ((d : ℕ) × (d < 8) × ReadTo sel c g d (Empty sel (window_place c g d)) v w)

-- what is found has this target
abbrev pub HasTarget : Target → Found → Type 0
HasTarget target (At t g) = t ≡ target
HasTarget target (Absent g) = Unit {0}

-- the class was seen in generation g
abbrev pub StandsAt : ℕ → ℕ → ℕ → MegaView → Type 0
StandsAt sel c g v = (place : ℕ) × InGeneration g place × Has (Taken sel place c) v.seen

-- a class that was seen in the generation that the root has is found
abbrev pub FoundAgain : ℕ → ℕ → Found → MegaView → Type 0
FoundAgain sel c (At t g) v = Unit {0}
FoundAgain sel c (Absent g) v = ¬ StandsAt sel c g v

-- nothing that was seen is forgotten
abbrev pub KeepsSeen : MegaView → MegaView → Type 0
KeepsSeen v w = (s : Sight) → Has s v.seen → Has s w.seen

-- the class was seen in generation g, or its window there was seen full of others
abbrev pub IsSettled : ℕ → ℕ → ℕ → Bool → MegaView → Type 0
IsSettled sel c g true w = StandsAt sel c g w
IsSettled sel c g false w = SawOthers sel c g 8 w

-- The steps.

-- a pass inside a call
abbrev pub RegionSeat : Type 0
RegionSeat = Seat (Unit {0}) MegaView

-- the program and the selector that a step names are those of the table and of the call
abbrev pub IsNamed : About → ℕ → MegaTable → ℕ → Type 0
IsNamed p sel table selector = (p ≡ about_of (linked_of table)) × (sel ≡ selector)

-- the pass is one of the table, whose program has the selector
abbrev pub InReach : About → ℕ → MegaTable → RegionSeat → Type 0
InReach p sel table seat = (seat.table_id ≡ table.table.shared.table_id) × (sel < p.selectors)

-- it is the same pass
abbrev pub SameSeat : RegionSeat → RegionSeat → Type 0
SameSeat s t = (t.table_id ≡ s.table_id) × (t.id ≡ s.id) × (t.me.1 ≡ s.me.1)

-- the entry is a class of the program with its target
abbrev pub IsEntry : About → ℕ → Entry → Type 0
IsEntry p sel entry = (entry.class.0 < p.classes) × (entry.target ≡ p.resolve entry.class.0 sel)

-- the generation is one that there is, and the root was seen there
abbrev pub SawRoot : About → ℕ → ℕ → RegionSeat → Type 0
SawRoot p sel g s = (g ≤ 7) × (g ≤ p.last) × Has (Root sel g) s.me.0.seen

-- a class with its target was seen at the place
abbrev pub SawEntry : About → ℕ → ℕ → RegionSeat → RegionSeat → Entry → Type 0
SawEntry p sel place s t entry = IsEntry p sel entry × (t.me.0 ≡ saw s.me.0 (Taken sel place entry.class.0))

-- the place was seen: empty, or with a class and its target
pub record SeesPlace (p : About) (sel place : ℕ) (s : RegionSeat) (r : Option Entry) (t : RegionSeat) : Type 0 where
  pub snap : Learnt p t.me.0
  pub after : MatchOption r ((slice_index snap.words (word_at p sel place) ≡ 0) × (t.me.0 ≡ saw s.me.0 (Empty sel place))) (SawEntry p sel place s t)

-- a class with its target was seen at place d of the entry's window
abbrev pub SeesAt : About → ℕ → Entry → ℕ → ℕ → RegionSeat → Entry → RegionSeat → Type 0
SeesAt p sel entry g d s found t = SeesPlace p sel (window_place entry.class.0 g d) s (Some found) t

-- the root was seen at generation n
abbrev pub SeesRoot : About → ℕ → RegionSeat → ℕ → RegionSeat → Type 0
SeesRoot p sel s n t = Learnt p t.me.0 × (n ≤ p.last) × (t.me.0 ≡ saw s.me.0 (Root sel n))

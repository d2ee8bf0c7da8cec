-- What a look through a row finds, and what claims leave.
use Rattle.std.specs.Prelude.{◌≡◌, ◌≢◌, ◌⊎◌, ℕ, zero, suc, ◌<◌, Bool, true, false, List, [], ◌∷◌, ◌++◌}
use Rattle.program.specs.declared.numbered.Target.{Target}
use Rattle.miss_handler.specs.declared.row.Check.{Check}
use Rattle.miss_handler.specs.declared.state.CallState.{CallState}
use Rattle.miss_handler.specs.declared.state.CallState.TheVariants.{Mono}
use Rattle.miss_handler.specs.States.{check, class_id}
use Rattle.shared_cells.specs.declared.answer.Sought.{Sought}
use Rattle.shared_cells.specs.declared.answer.Sought.TheVariants.{Stands, Room, Full}
use Rattle.cell_rule.specs.declared.words.Info.{Info}
use Rattle.cell_rule.specs.declared.view.Seen.{Seen}
use Rattle.cell_rule.specs.declared.view.Seen.TheVariants.{Head, Data, Set, Empty}
use Rattle.cell_rule.specs.declared.view.View.{View}
use Rattle.list_members.specs.Members.{Each, Has}
use Rattle.cell_rule.specs.About.{About}
use Rattle.cell_rule.specs.Steps.{OthersSeen}

-- the view that has seen the words of l too, the newest first
abbrev pub reads : View → List Seen → View
reads v l = record v { seen = l ++ v.seen; trace = l ++ v.trace }

-- l are the checks 0 to n - 1 of the row, seen in this order, with other classes than c
abbrev pub Others : ℕ → ℕ → ℕ → List Seen → Type 0
Others x c zero l = l ≡ []
Others x c (suc n) [] = ⊥
Others x c (suc n) (Head y k e ∷ l) = ⊥
Others x c (suc n) (Data y k i ∷ l) = ⊥
Others x c (suc n) (Set y q k ∷ l) = (y ≡ x) × (q ≡ n) × (k.class.0 ≢ c) × Others x c n l
Others x c (suc n) (Empty y q ∷ l) = ⊥

-- a check of the site, set or empty
abbrev pub InRow : ℕ → Seen → Type 0
InRow x (Head y k e) = ⊥
InRow x (Data y k i) = ⊥
InRow x (Set y q k) = y ≡ x
InRow x (Empty y q) = y ≡ x

-- what was found from check 0 on, up to the class, the first empty check or the fourth
abbrev pub SoughtIs : About → ℕ → ℕ → Sought → View → View → Type 0
SoughtIs p x c (Stands t) v w = (q : ℕ) × (l : List Seen) × (q < 4) × (w ≡ reads v (Set x q (check c t) ∷ l)) × Others x c q l × (t ≡ (p.at x).resolve c)
SoughtIs p x c (Room q) v w = (l : List Seen) × (q < 4) × (w ≡ reads v (Empty x q ∷ l)) × Others x c q l
SoughtIs p x c Full v w = (l : List Seen) × (w ≡ reads v l) × Others x c 4 l

-- the class stands in a check that was seen
abbrev pub StandsSeen : ℕ → ℕ → View → Type 0
StandsSeen x d w = (q : ℕ) × (t : Target) × Has (Set x q (check d t)) w.seen

-- the class stands in a check, or all four have other classes
abbrev pub Standing : ℕ → ℕ → Bool → View → Type 0
Standing x d true w = StandsSeen x d w
Standing x d false w = OthersSeen x d 4 w

-- checks were seen, and nothing else
abbrev pub ReadsOn : ℕ → View → View → Type 0
ReadsOn x v w = (l : List Seen) × (w ≡ reads v l) × Each (InRow x) l

-- all four checks were seen set
abbrev pub FullSeen : ℕ → View → Type 0
FullSeen x w = (q : ℕ) → q < 4 → (k : Check) × Has (Set x q k) w.seen

-- the class stands in a check seen, or all four are seen set
abbrev pub Placed : ℕ → ℕ → View → Type 0
Placed x a w = StandsSeen x a w ⊎ FullSeen x w

-- the same of the class of a Mono
abbrev pub FirstPlaced : ℕ → CallState → View → Type 0
FirstPlaced x s w = (a : ℕ) → s ≡ Mono (class_id a) → Placed x a w

-- where the state is a Mono, its class is there, and a data word of it was seen
abbrev pub MonoSeen : About → ℕ → CallState → View → Type 0
MonoSeen p x s v = (a : ℕ) → s ≡ Mono (class_id a) → (a < p.classes) × ((j : ℕ) × (i : Info) × Has (Data x j i) v.seen × (i.state ≡ Mono (class_id a)))

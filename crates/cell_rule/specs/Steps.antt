-- What the steps require, and what they tell by the parts of words.
use Rattle.std.specs.Prelude.{◌≡◌, ◌≢◌, ◌⊎◌, ℕ, ◌<◌, ◌≤◌, List, [], ◌∷◌, Option, MatchOption}
use Rattle.atomic_table.specs.declared.shared.Seat.{Seat}
use Rattle.miss_handler.specs.declared.row.Check.{Check}
use Rattle.miss_handler.specs.declared.state.CallState.TheVariants.{Mono}
use Rattle.miss_handler.specs.States.{IsCachedOrMega, Later}
use Rattle.cell_rule.specs.declared.words.Info.{Info}
use Rattle.cell_rule.specs.declared.words.Entry.{Entry}
use Rattle.cell_rule.specs.declared.view.Seen.{Seen}
use Rattle.cell_rule.specs.declared.view.Seen.TheVariants.{Data, Set, Empty}
use Rattle.cell_rule.specs.declared.view.Asked.{Asked}
use Rattle.cell_rule.specs.declared.view.View.{View}
use Rattle.cell_rule.specs.declared.table.CellWords.{CellWords}
use Rattle.list_members.specs.Members.{Each, Has}
use Rattle.cell_rule.specs.About.{About, about_of}
use Rattle.cell_rule.specs.Histories.{Histories, Good, Known, Explained, Called, present, call}
use Rattle.cell_rule.specs.Rule.{Worded}
use Rattle.cell_rule.specs.Told.{Learnt, begins, goes_on, HeadSeen, DataSeen, Won}
use Rattle.miss_handler.specs.States.{Reached}

-- a seat of the table
abbrev pub Place : Type 0
Place = Seat (Unit {0}) View

-- the names of the proofs are the table's program and the site
abbrev pub IsNamed : About → ℕ → CellWords → ℕ → Type 0
IsNamed p x t site = (p ≡ about_of t.table.shared.key.value) × (x ≡ site)

-- the seat is one of the table and is not spent, and the site is one of the program
abbrev pub InReach : About → ℕ → CellWords → Place → Type 0
InReach p x t s = (s.table_id ≡ t.table.shared.table_id) × (0 < s.me.0.share) × (x < p.sites)

-- it is the same seat of the same table
abbrev pub SameSeat : Place → Place → Type 0
SameSeat s t = (t.table_id ≡ s.table_id) × (t.id ≡ s.id) × (t.me.1 ≡ s.me.1)

-- the newest call is of class c at site x
abbrev pub IsCurrent : ℕ → ℕ → View → Type 0
IsCurrent x c v = (more : List Asked) × (v.asked ≡ call x c ∷ more)

-- one history has all that the view has seen
abbrev pub Knows : About → View → Type 0
Knows p v = (h : Histories) × Learnt p h v

-- the target word of the stamp r.0 was seen, at the start of a call
abbrev pub OpensTo : About → ℕ → ℕ → Place → ℕ × Entry → Place → Type 0
OpensTo p x c s r t = HeadSeen p x r.0 r.1 (begins s.me.0 (call x c)) t.me.0

-- the same within a call
abbrev pub HeadTo : About → ℕ → Place → ℕ × Entry → Place → Type 0
HeadTo p x s r t = HeadSeen p x r.0 r.1 (goes_on s.me.0) t.me.0

-- the data word of the stamp r.0 was seen
abbrev pub DataTo : About → ℕ → ℕ → Place → ℕ × Info → Place → Type 0
DataTo p x c s r t = DataSeen p x c r.0 r.1 s.me.0 t.me.0

-- the transition was installed, or another data word stood there
abbrev pub AdvancedTo : About → ℕ → ℕ → ℕ × Info → Info → Place → Option (ℕ × Info) → Place → Type 0
AdvancedTo p x c seen next s r t = MatchOption r (Won p x seen.0 seen.1 next s.me.0 t.me.0) (λ d. DataTo p x c s d t)

-- the check q was seen
abbrev pub CheckTo : About → ℕ → ℕ → Place → Option Check → Place → Type 0
CheckTo p x q s r t = Knows p t.me.0 × MatchOption r (t.me.0 ≡ goes_on s.me.0 (Empty x q)) (λ k. t.me.0 ≡ goes_on s.me.0 (Set x q k))

-- the checks before q were seen with other classes than d
abbrev pub OthersSeen : ℕ → ℕ → ℕ → View → Type 0
OthersSeen x d q v = (j : ℕ) → j < q → (k : Check) × Has (Set x j k) v.seen × (k.class.0 ≢ d)

-- the class is that of the call, or of a Mono that was seen
abbrev pub CallsIt : ℕ → ℕ → View → Type 0
CallsIt x d v = IsCurrent x d v ⊎ ((j : ℕ) × (i : Info) × Has (Data x j i) v.seen × (i.state ≡ Mono record { 0 = d }))

-- a data word Cached or Mega was seen
abbrev pub CachedSeen : ℕ → View → Type 0
CachedSeen x v = (k : ℕ) × (i : Info) × Has (Data x k i) v.seen × IsCachedOrMega i.state

-- of two data words seen at one site, the one with the less stamp has a state at or before the other's
abbrev pub Coherent : List Seen → Type 0
Coherent l = (x k k' : ℕ) (i i' : Info) → Has (Data x k i) l → Has (Data x k' i') l → k ≤ k' → Later i.state i'.state

-- the words at the end, for a pass that has the whole share: its calls are all that were made, and each is explained
pub record EndsAs (p : About) (v : View) (words : List ℕ) : Type 0 where
  pub h : Histories
  pub good : Good p h
  pub worded : (x : ℕ) → x < p.sites → Worded (h x) x words
  pub level : (x : ℕ) → x < p.sites → (h x).low ≡ (h x).top
  pub known : Each (Known p h) v.seen
  pub explained : Each (Explained h) v.asked
  pub reached : (x : ℕ) → x < p.sites → Reached (p.at x) (h x).top (present (h x)) (Called (v ∷ []) x)

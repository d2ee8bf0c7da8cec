-- The five states of a call site.
--
-- A site is Unlinked until its first call, and then answers calls on the classes that it covers.
-- A call on another class is a miss, and changes the site along one of these edges:
--
--   Unlinked --> Mono     the first call
--   Mono     --> Single   a second class; each concrete class from the one to the other has the target of the first
--   Mono     --> Cached   a second class; some concrete class from the one to the other has another target: both go into the row
--   Single   --> Single   a class outside of the range; in the range made wider each concrete class has the target still
--   Single   --> Cached   a class outside of the range; some concrete class in the wider range has another target: the class goes into the row
--   Cached   --> Cached   a class that is not in the row, which has fewer than four checks: it goes into the row
--   Cached   --> Mega     a class that is not in the row, which has four checks: it goes into the table of the site's selector
--   Mega     --> Mega     a class that is not in the table: it goes into the table
--
-- All but the two that keep a Cached or Mega site as it is are transitions: each raises the site's stamp by one.
use Rattle.std.specs.Prelude.{◌≡◌, ◌≢◌, ℕ, zero, suc, ◌+◌, ◌-◌, ◌<◌, ◌≤◌, Bool, true, false, not, ◌&&◌, ◌||◌, ◌==◌, nat_lt, nat_le, if◌then◌else◌, min, max, IsTrue, List, [], ◌∷◌, ◌++◌, length, take, fold, All, Option, None, Some, option_map, find}
use Rattle.std.specs.List.{list_any, list_all}
use Rattle.program.specs.declared.ids.ClassId.{ClassId}
use Rattle.program.specs.declared.numbered.Target.{Target}
use Rattle.program.specs.declared.numbered.Target.TheVariants.{Method, Nsm}
use Rattle.miss_handler.specs.declared.row.Check.{Check}
use Rattle.miss_handler.specs.declared.row.Row.{Row}
use Rattle.miss_handler.specs.declared.state.Advance.{Advance}
use Rattle.miss_handler.specs.declared.state.CallState.{CallState}
use Rattle.miss_handler.specs.declared.state.CallState.TheVariants.{Unlinked, Mono, Single, Cached, Mega}

-- what the calls of a site may meet: how many classes there are, which of them are concrete, and where a call on each goes
pub record Receivers : Type 0 where
  pub classes : ℕ
  pub concrete : ℕ → Bool
  pub resolve : ℕ → Target

-- a class by its number
abbrev pub class_id : ℕ → ClassId
class_id c = record { 0 = c }

-- class c and its target
abbrev pub check : ℕ → Target → Check
check c t = record { class = class_id c; target = t }

-- the checks of a row
abbrev pub checks_of : Row → List Check
checks_of row = take row.len row.checks

-- ---- what a state answers for

-- class c is in the row
abbrev pub has : List Check → ℕ → Bool
has row c = list_any (λ k. k.class.0 == c) row

-- the target of its check
abbrev pub target_in : List Check → ℕ → Option Target
target_in row c = option_map (λ (k : Check). k.target) (find (λ k. k.class.0 == c) row)

-- The state answers for class c as it stands. In Mega the table of the site's selector is asked, and not the site.
abbrev pub Covers : CallState → List Check → ℕ → Type 0
Covers Unlinked row c = ⊥
Covers (Mono a) row c = c ≡ a.0
Covers (Single lo hi t) row c = (lo.0 ≤ c) × (c ≤ hi.0)
Covers Cached row c = IsTrue (has row c)
Covers Mega row c = ⊥

-- the same as a test
abbrev pub covers : CallState → List Check → ℕ → Bool
covers Unlinked row c = false
covers (Mono a) row c = c == a.0
covers (Single lo hi t) row c = nat_le lo.0 c && nat_le c hi.0
covers Cached row c = has row c
covers Mega row c = false

-- The state is one that a site may have after a call on class c: what it does not cover, its row or its table may.
abbrev pub Explains : CallState → ℕ → Type 0
Explains Unlinked c = ⊥
Explains (Mono a) c = c ≡ a.0
Explains (Single lo hi t) c = (lo.0 ≤ c) × (c ≤ hi.0)
Explains Cached c = Unit {0}
Explains Mega c = Unit {0}

-- ---- lawful states

-- each concrete class from lo to hi has the target t
abbrev pub OneTarget : Receivers → ℕ → ℕ → Target → Type 0
OneTarget r lo hi t = (c : ℕ) → lo ≤ c → c ≤ hi → IsTrue (r.concrete c) → r.resolve c ≡ t

-- the classes that the state names are there, and have the target that stands with them
abbrev pub LawfulState : Receivers → CallState → Type 0
LawfulState r Unlinked = Unit {0}
LawfulState r (Mono a) = a.0 < r.classes
LawfulState r (Single lo hi t) = (lo.0 < hi.0) × (hi.0 < r.classes) × OneTarget r lo.0 hi.0 t
LawfulState r Cached = Unit {0}
LawfulState r Mega = Unit {0}

-- the same of a check
abbrev pub IsRight : Receivers → Check → Type 0
IsRight r k = (k.class.0 < r.classes) × (k.target ≡ r.resolve k.class.0)

-- no class has two checks
abbrev pub Differ : List Check → Type 0
Differ [] = Unit {0}
Differ (k ∷ row) = (has row k.class.0 ≡ false) × Differ row

-- how many checks a site may have in the state
abbrev pub MayHave : CallState → ℕ → Type 0
MayHave Unlinked n = n ≡ 0
MayHave (Mono a) n = n ≡ 0
MayHave (Single lo hi t) n = n ≡ 0
MayHave Cached n = n ≤ 4
MayHave Mega n = n ≡ 4

-- each class that the state or the row names has the target that stands with it
pub record Lawful (r : Receivers) (state : CallState) (row : List Check) : Type 0 where
  pub named : LawfulState r state
  pub right : All (IsRight r) row
  pub differ : Differ row
  pub size : MayHave state (length row)

-- ---- what a miss does

-- the numbers from lo on, so many
abbrev pub numbers_from : ℕ → ℕ → List ℕ
numbers_from lo zero = []
numbers_from lo (suc n) = lo ∷ numbers_from (suc lo) n

-- whether two targets are the same
abbrev pub same_target : Target → Target → Bool
same_target (Method m) (Method n) = m.0 == n.0
same_target (Nsm m) (Nsm n) = m.0 == n.0
same_target _ _ = false

-- a class that a call on it could meet has the target t
abbrev pub serves : Receivers → Target → ℕ → Bool
serves r t c = not (r.concrete c) || same_target (r.resolve c) t

-- OneTarget as a test
unfoldable pub one_target : Receivers → ℕ → ℕ → Target → Bool
one_target r lo hi t = list_all (serves r t) (numbers_from lo ((hi + 1) - lo))

-- a new state, and the classes to add
abbrev pub advance : CallState → Option ClassId → Option ClassId → Advance
advance state first second = record { state = state; add_first = first; add_second = second }

-- the range, where it has one target, or else the other
abbrev pub range_or : Receivers → ℕ → ℕ → Target → Advance → Advance
range_or r lo hi t other = if one_target r lo hi t then advance (Single (class_id lo) (class_id hi) t) None None else other

-- Cached while the row has room
abbrev pub state_by_room : List Check → CallState
state_by_room row = if nat_lt (length row) 4 then Cached else Mega

-- what a call on a concrete class c that is not covered makes of a site: its state, and the classes to add to its row or, in Mega, to its selector's table
abbrev pub next : Receivers → CallState → List Check → ℕ → Advance
next r Unlinked row c = advance (Mono (class_id c)) None None
next r (Mono a) row c = range_or r (min a.0 c) (max a.0 c) (r.resolve a.0) (advance Cached (Some a) (Some (class_id c)))
next r (Single lo hi t) row c = range_or r (min lo.0 c) (max hi.0 c) t (advance Cached (Some (class_id c)) None)
next r Cached row c = advance (state_by_room row) (Some (class_id c)) None
next r Mega row c = advance Mega (Some (class_id c)) None

-- the check of a class to be added
abbrev pub added : Receivers → Option ClassId → List Check
added r None = []
added r (Some c) = check c.0 (r.resolve c.0) ∷ []

-- the row with checks behind it, unless they go to the table
abbrev pub row_with : CallState → List Check → List Check → List Check
row_with Unlinked row more = row ++ more
row_with (Mono a) row more = row ++ more
row_with (Single lo hi t) row more = row ++ more
row_with Cached row more = row ++ more
row_with Mega row more = row

-- the row with the adds made
abbrev pub row_after : Receivers → List Check → Advance → List Check
row_after r row a = row_with a.state row (added r a.add_first ++ added r a.add_second)

-- a lawful site is lawful again once the adds are made
abbrev pub StaysLawful : Receivers → CallState → List Check → Advance → Type 0
StaysLawful r state row a = Lawful r state row → Lawful r a.state (row_after r row a)

-- class c is covered by the state and the row; in Mega, since it was added to the table
abbrev pub CoversWith : CallState → List Check → Option ClassId → ℕ → Type 0
CoversWith Unlinked row add c = Covers Unlinked row c
CoversWith (Mono a) row add c = Covers (Mono a) row c
CoversWith (Single lo hi t) row add c = Covers (Single lo hi t) row c
CoversWith Cached row add c = Covers Cached row c
CoversWith Mega row add c = add ≡ Some (class_id c)

-- class c is covered once the adds are made
abbrev pub CoversAfter : Receivers → List Check → Advance → ℕ → Type 0
CoversAfter r row a c = CoversWith a.state (row_after r row a) a.add_first c

-- whether a miss changes the state
abbrev pub moves : CallState → List Check → Bool
moves Unlinked row = true
moves (Mono a) row = true
moves (Single lo hi t) row = true
moves Cached row = not (nat_lt (length row) 4)
moves Mega row = false

-- a transition of the state by class c
pub record Move (r : Receivers) (state : CallState) (row : List Check) (c : ℕ) (to : CallState) : Type 0 where
  pub uncovered : covers state row c ≡ false
  pub changes : moves state row ≡ true
  pub leads : (next r state row c).state ≡ to

-- ---- the order of states

-- as wide a range, or more than a range
abbrev pub Widens : ℕ → ℕ → Target → CallState → Type 0
Widens lo hi t Unlinked = ⊥
Widens lo hi t (Mono a) = ⊥
Widens lo hi t (Single l h u) = (l.0 ≤ lo) × (hi ≤ h.0) × (u ≡ t)
Widens lo hi t Cached = Unit {0}
Widens lo hi t Mega = Unit {0}

-- one of the last two states
abbrev pub IsCachedOrMega : CallState → Type 0
IsCachedOrMega Unlinked = ⊥
IsCachedOrMega (Mono a) = ⊥
IsCachedOrMega (Single lo hi t) = ⊥
IsCachedOrMega Cached = Unit {0}
IsCachedOrMega Mega = Unit {0}

-- the second state is the first one or a later one: Unlinked; then Mono of a; then Single with a in its range; then Single with a wider range and the same target; then Cached; then Mega
abbrev pub Later : CallState → CallState → Type 0
Later Unlinked u = Unit {0}
Later (Mono a) u = Explains u a.0
Later (Single lo hi t) u = Widens lo.0 hi.0 t u
Later Cached u = IsCachedOrMega u
Later Mega u = u ≡ Mega

-- the earlier row is the front of the later one
abbrev pub Extends : List Check → List Check → Type 0
Extends row later = (more : List Check) × (later ≡ row ++ more)

-- ---- runs of a site

-- what a site keeps; the stamp is the number of its transitions
pub record SiteCell : Type 0 where
  pub state : CallState
  pub row : List Check
  pub stamp : ℕ

-- a site that had no call
abbrev pub unlinked : SiteCell
unlinked = record { state = Unlinked; row = []; stamp = 0 }

-- the site after a miss
abbrev pub missed : Receivers → SiteCell → ℕ → SiteCell
missed r cell c = record {
  state = (next r cell.state cell.row c).state;
  row = row_after r cell.row (next r cell.state cell.row c);
  stamp = if moves cell.state cell.row then cell.stamp + 1 else cell.stamp;
}

-- the site after a call: a covered class changes nothing
abbrev pub called : Receivers → SiteCell → ℕ → SiteCell
called r cell c = if covers cell.state cell.row c then cell else missed r cell c

-- the site after calls on these classes, in order
unfoldable pub after_calls : Receivers → SiteCell → List ℕ → SiteCell
after_calls r cell classes = fold (called r) cell classes

-- the same, where no one else called there before
abbrev pub alone : Receivers → List ℕ → SiteCell
alone r classes = after_calls r unlinked classes

-- two classes of a set, and two concrete ones from the one to the other with different targets: no range has them all
pub record Apart (r : Receivers) (Called : ℕ → Type 0) : Type 0 where
  pub lo : ℕ
  pub hi : ℕ
  pub below : lo < hi
  pub lo_called : Called lo
  pub hi_called : Called hi
  pub one : ℕ
  pub other : ℕ
  pub one_within : (lo ≤ one) × (one ≤ hi)
  pub other_within : (lo ≤ other) × (other ≤ hi)
  pub one_concrete : IsTrue (r.concrete one)
  pub other_concrete : IsTrue (r.concrete other)
  pub differ : r.resolve one ≢ r.resolve other

-- k transitions by classes of a set may have led to the state
abbrev pub Reached : Receivers → ℕ → CallState → (ℕ → Type 0) → Type 0
Reached r k Unlinked Called = k ≡ 0
Reached r k (Mono a) Called = (k ≡ 1) × Called a.0
Reached r k (Single lo hi t) Called = (2 ≤ k) × (k ≤ 1 + (hi.0 - lo.0)) × Called lo.0 × Called hi.0
Reached r k Cached Called = (2 ≤ k) × (k ≤ r.classes + 1) × Apart r Called
Reached r k Mega Called = (3 ≤ k) × (k ≤ r.classes + 2) × Apart r Called

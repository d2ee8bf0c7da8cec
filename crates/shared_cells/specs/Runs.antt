-- What a dispatch knows while it runs, and what it leaves.
use Rattle.std.specs.Prelude.{◌≡◌, ◌≢◌, ◌⊎◌, ℕ, ◌+◌, ◌<◌, ◌≤◌, Bool, true, false, List, [], ◌∷◌, ◌++◌, Option, Some, None, ◌==◌, cond}
use Rattle.program.specs.declared.numbered.Target.{Target}
use Rattle.miss_handler.specs.declared.row.Check.{Check}
use Rattle.miss_handler.specs.declared.state.CallState.{CallState}
use Rattle.miss_handler.specs.declared.state.CallState.TheVariants.{Unlinked, Mono, Single, Cached, Mega}
use Rattle.miss_handler.specs.States.{check, class_id, Explains, Move}
use Rattle.cell_rule.specs.declared.words.Info.{Info}
use Rattle.cell_rule.specs.declared.words.Entry.{Entry}
use Rattle.cell_rule.specs.declared.view.Seen.{Seen}
use Rattle.cell_rule.specs.declared.view.Seen.TheVariants.{Head, Data, Set, Empty}
use Rattle.cell_rule.specs.declared.view.Change.{Change}
use Rattle.cell_rule.specs.declared.view.View.{View}
use Rattle.list_members.specs.Members.{Each, Has}
use Rattle.cell_rule.specs.About.{About}
use Rattle.cell_rule.specs.Histories.{Histories, call}
use Rattle.cell_rule.specs.Stamps.{data_stamp, head_stamp}
use Rattle.cell_rule.specs.Told.{Learnt, change}
use Rattle.cell_rule.specs.Steps.{Knows}
use Rattle.shared_cells.specs.Reading.{Others, StandsSeen, Placed}

-- the state itself answers for the class, without a row or a table
abbrev pub CoversItself : CallState → ℕ → Type 0
CoversItself Unlinked c = ⊥
CoversItself (Mono a) c = c ≡ a.0
CoversItself (Single lo hi t) c = (lo.0 ≤ c) × (c ≤ hi.0)
CoversItself Cached c = ⊥
CoversItself Mega c = ⊥

-- a word of the site
abbrev pub AtSite : ℕ → Seen → Type 0
AtSite x (Head y k e) = y ≡ x
AtSite x (Data y k i) = y ≡ x
AtSite x (Set y q k) = y ≡ x
AtSite x (Empty y q) = y ≡ x

-- ---- the first pair read with equal stamps

-- a data word, and the words seen after it, the newest first
abbrev pub Found : Type 0
Found = Option (Info × List Seen)

-- a word seen after it
abbrev pub pushed : Seen → Found → Found
pushed s None = None
pushed s (Some a) = Some (a.0, s ∷ a.1)

-- the first of two
abbrev pub or_else : Found → Found → Found
or_else None d = d
or_else (Some a) d = Some a

-- the data word i of the stamp k, if the word loaded before it was the target word of that stamp
abbrev pub paired_at : ℕ → Info → List Seen → Found
paired_at k i [] = None
paired_at k i (Head y j e ∷ l) = cond (j == k) (Some (i, [])) None
paired_at k i (Data y j d ∷ l) = None
paired_at k i (Set y q j ∷ l) = None
paired_at k i (Empty y q ∷ l) = None

-- the pair that a word makes with the one before it
abbrev pub paired : Seen → List Seen → Found
paired (Head y k e) l = None
paired (Data y k i) l = paired_at k i l
paired (Set y q k) l = None
paired (Empty y q) l = None

-- of a trace whose newest word is first
abbrev pub first_pair : List Seen → Found
first_pair [] = None
first_pair (s ∷ l) = or_else (pushed s (first_pair l)) (paired s l)

-- the pair covers the class, by its state or by the checks loaded next
abbrev pub CoversBy : ℕ → ℕ → CallState → List Seen → Type 0
CoversBy x c Unlinked l = ⊥
CoversBy x c (Mono a) l = c ≡ a.0
CoversBy x c (Single lo hi t) l = (lo.0 ≤ c) × (c ≤ hi.0)
CoversBy x c Cached l = (q : ℕ) × (t : Target) × (m : List Seen) × (q < 4) × (l ≡ Set x q (check c t) ∷ m) × Others x c q m
CoversBy x c Mega l = ⊥

-- the checks from 0 on, up to the first empty one or the fourth, are not of the class
abbrev pub Through : ℕ → ℕ → List Seen → Type 0
Through x c l = Others x c 4 l ⊎ ((q : ℕ) × (m : List Seen) × (q < 4) × (l ≡ Empty x q ∷ m) × Others x c q m)

-- the pair does not cover the class, by its state or by the checks loaded next
abbrev pub MissesBy : ℕ → ℕ → CallState → List Seen → Type 0
MissesBy x c Unlinked l = Unit {0}
MissesBy x c (Mono a) l = c ≢ a.0
MissesBy x c (Single lo hi t) l = ¬ ((lo.0 ≤ c) × (c ≤ hi.0))
MissesBy x c Cached l = (more : List Seen) × (m : List Seen) × (l ≡ more ++ m) × Through x c m
MissesBy x c Mega l = Unit {0}

-- no pair with equal stamps was read yet, or the first one does not cover the class
abbrev pub Tried : Bool → ℕ → ℕ → List Seen → Type 0
Tried false x c l = first_pair l ≡ None
Tried true x c l = (a : Info × List Seen) × (first_pair l ≡ Some a) × MissesBy x c a.0.state a.1

-- the stamp of the data word loaded or installed last
abbrev pub last_stamp : List Seen → ℕ
last_stamp [] = 0
last_stamp (Head y k e ∷ l) = last_stamp l
last_stamp (Data y k i ∷ l) = k
last_stamp (Set y q k ∷ l) = last_stamp l
last_stamp (Empty y q ∷ l) = last_stamp l

-- ---- what a call leaves

-- of the view before, and the view after
pub record After (x c : ℕ) (v w : View) : Type 0 where
  pub share : w.share ≡ v.share
  pub asked : w.asked ≡ call x c ∷ v.asked
  pub seen : w.seen ≡ w.trace ++ v.seen
  pub here : Each (AtSite x) w.trace

-- the class is covered by a pair of the trace with equal stamps, or by a data word that the call installed, or it stands in a check
abbrev pub Stood : ℕ → ℕ → View → Type 0
Stood x c w = ((k : ℕ) × (e : Entry) × (i : Info) × Has (Head x k e) w.trace × Has (Data x k i) w.trace × CoversItself i.state c)
    ⊎ ((d : Change) × Has d w.changes × CoversItself d.to.state c)
    ⊎ StandsSeen x c w

-- the site is megamorphic
abbrev pub MegaSeen : ℕ → View → Type 0
MegaSeen x w = (k : ℕ) × (i : Info) × Has (Data x k i) w.trace × (i.state ≡ Mega)

-- the first pair is the one that was read last, and is megamorphic
abbrev pub MegaFirst : Bool → View → Type 0
MegaFirst true w = (i : Info) × (first_pair w.trace ≡ Some (i, [])) × (i.state ≡ Mega)
MegaFirst false w = Unit {0}

-- where one of the transitions left Mono(a) for Cached, a stands in a check seen, or all four are seen set
abbrev pub Kept : ℕ → List Change → View → Type 0
Kept x l w = (a : ℕ) (d : Change) → Has d l → d.from.state ≡ Mono (class_id a) → d.to.state ≡ Cached → Placed x a w

-- a transition by the class
abbrev pub IsMove : About → ℕ → ℕ → Change → Type 0
IsMove p x c d = (row : List Check) × Move (p.at x) d.from.state row c d.to.state

-- between two turns of a dispatch: the target word was loaded last
pub record Running (p : About) (x c k : ℕ) (e : Entry) (newest : ℕ) (b : Bool) (v w : View) : Type 0 where
  pub after : After x c v w
  pub h : Histories
  pub learnt : Learnt p h w
  pub head : (l : List Seen) × (w.trace ≡ Head x k e ∷ l)
  pub data_seen : (newest ≡ 0) ⊎ ((i : Info) × Has (Data x newest i) w.seen)
  pub first : Tried b x c w.trace
  pub kept : Kept x w.changes w
  pub moves : Each (IsMove p x c) w.changes

-- a data word was seen, after a target word
pub record Looked (p : About) (x c k : ℕ) (e : Entry) (newest : ℕ) (b : Bool) (v : View) (j : ℕ) (i : Info) (u : View) : Type 0 where
  pub after : After x c v u
  pub h : Histories
  pub learnt : Learnt p h u
  pub top : (h x).top ≡ j
  pub fits : j < 65000
  pub has_data : Has (Data x j i) u.seen
  pub has_head : Has (Head x k e) u.seen
  pub k_le : k ≤ j
  pub newest_le : newest ≤ j
  pub low_level : j ≤ data_stamp x u.seen
  pub level : data_stamp x u.seen ≤ j
  pub closed : Explains i.state c → u.pending ≡ false
  -- the trace before, which ends with the target word
  pub trace : List Seen
  pub trace_is : u.trace ≡ Data x j i ∷ Head x k e ∷ trace
  pub first : Tried b x c (Head x k e ∷ trace)
  pub kept : Kept x u.changes u
  pub moves : Each (IsMove p x c) u.changes

-- a pair with the stamp k was read that does not cover the class, and nothing but checks after it
pub record Level (p : About) (x c k : ℕ) (e : Entry) (newest : ℕ) (i : Info) (v u : View) : Type 0 where
  pub after : After x c v u
  pub knows : Knows p u
  pub head : Has (Head x k e) u.trace
  pub data_word : Has (Data x k i) u.trace
  pub small : k < 65000
  pub newest_le : newest ≤ k
  pub level : data_stamp x u.seen ≤ k
  pub closed : Explains i.state c → u.pending ≡ false
  pub first : Tried true x c u.trace
  pub last : last_stamp u.trace ≡ k
  pub kept : Kept x u.changes u
  pub moves : Each (IsMove p x c) u.changes

-- the call installed i' over i, with the stamp k + 1, and set the target word
pub record Moving (p : About) (x c k : ℕ) (newest : ℕ) (i i' : Info) (v u : View) : Type 0 where
  pub after : After x c v u
  pub knows : Knows p u
  pub data_word : Has (Data x (k + 1) i') u.trace
  pub before : Has (Data x k i) u.trace
  pub head : (m : ℕ) × (e : Entry) × Has (Head x m e) u.trace × (k < m)
  pub small : k < 65000
  pub newest_le : newest ≤ k
  pub level : data_stamp x u.seen ≤ head_stamp x u.seen
  pub closed : u.pending ≡ false
  pub first : Tried true x c u.trace
  pub last : last_stamp u.trace ≡ k + 1
  pub old : List Change
  pub changes : u.changes ≡ change (k + 1) i i' ∷ old
  pub kept : Kept x old u
  pub moves : Each (IsMove p x c) u.changes

-- What the rule says of a site's words and of all views, part by part.
use Rattle.std.specs.Prelude.{◌≡◌, ℕ, ◌+◌, ◌<◌, ◌≤◌, false, IsTrue, List, [], length, slice_index, sum_by}
use mathlib.Core.Option.{some}
use lib.ListN.{get_elem?}
use Rattle.atomic_table.specs.Table.{State}
use Rattle.miss_handler.specs.declared.row.Check.{Check}
use Rattle.miss_handler.specs.declared.state.CallState.TheVariants.{Mono, Mega}
use Rattle.miss_handler.specs.States.{class_id, has, Explains, Lawful, Later, Reached}
use Rattle.cell_rule.specs.declared.words.Info.{Info}
use Rattle.cell_rule.specs.declared.words.Entry.{Entry}
use Rattle.cell_rule.specs.declared.view.Seen.TheVariants.{Head, Data, Set}
use Rattle.cell_rule.specs.declared.view.View.{View}
use Rattle.list_members.specs.Members.{Each, Has}
use Rattle.cell_rule.specs.Words.{data_word, target_word, check_word, entry_of, DataFits, TargetFits}
use Rattle.cell_rule.specs.About.{About, state_target}
use Rattle.cell_rule.specs.Histories.{Called, settled}
use Rattle.cell_rule.specs.Rule.{head_at, data_at, check_at, row_word, share}

-- the present words of a site, unpacked
pub record Site : Type 0 where
  pub low : ℕ
  pub entry : Entry
  pub top : ℕ
  pub info : Info
  pub row : List Check

-- word 0 is 0
abbrev pub StartsWithZero : State (Unit {0}) View → Type 0
StartsWithZero s = slice_index s.words 0 ≡ 0

module _ (p : About) (s : State (Unit {0}) View) (x : ℕ) (now : Site) where
  -- the words are packed, their stamps are equal or neighbours, and of equal stamps the target word goes with the data word
  pub record Packed : Type 0 where
    pub head : slice_index s.words (head_at x) ≡ target_word now.low now.entry
    pub head_fits : TargetFits now.low now.entry
    pub info : slice_index s.words (data_at x) ≡ data_word now.top now.info
    pub info_fits : DataFits now.top now.info
    pub checks : (q : ℕ) → q < 4 → slice_index s.words (check_at x q) ≡ row_word now.row q
    pub neighbours : (now.low ≤ now.top) × (now.top ≤ now.low + 1)
    pub level : now.low ≡ now.top → now.entry ≡ entry_of now.info

  -- the state is lawful with the row of the checks that are set
  abbrev pub IsLawful : Type 0
  IsLawful = Lawful (p.at x) now.info.state now.row

  -- the stamp and the state are reached by the classes called there, each of which is concrete
  pub record IsReached : Type 0 where
    pub reached : Reached (p.at x) now.top now.info.state (Called s.views x)
    pub concrete : (c : ℕ) → Called s.views x c → IsTrue ((p.at x).concrete c)

  -- the checks stand in front, their classes were called, and in Mega some class that was called has none
  pub record IsFilled : Type 0 where
    pub front : (q : ℕ) → length now.row ≤ q → q < 4 → slice_index s.words (check_at x q) ≡ 0
    pub called : Each (λ k. Called s.views x k.class.0) now.row
    pub over : now.info.state ≡ Mega → (c : ℕ) × Called s.views x c × (has now.row c ≡ false)

  -- the word that a view has seen is at or before the present one, and is that one where it has its stamp
  module _ (v : View) where
    pub record IsSeen : Type 0 where
      pub heads : (k : ℕ) (e : Entry) → Has (Head x k e) v.seen → (k ≤ now.low) × (k ≡ now.low → e ≡ now.entry)
      pub infos : (k : ℕ) (i : Info) → Has (Data x k i) v.seen → (k ≤ now.top) × (k ≡ now.top → i ≡ now.info)
      pub level : (i : Info) → Has (Data x now.low i) v.seen → now.entry ≡ entry_of i
      pub later : (k : ℕ) (i : Info) → Has (Data x k i) v.seen → Later i.state now.info.state
      pub checks : (q : ℕ) (k : Check) → q < 4 → Has (Set x q k) v.seen → slice_index s.words (check_at x q) ≡ check_word k

    -- all calls at the site but the open one are explained; a pair of equal stamps goes together; targets are the program's, and a Mono's class was called
    pub record IsExplained : Type 0 where
      pub calls : (c : ℕ) → Has (record { site = x; class = c }) (settled v.pending v.asked) → Explains now.info.state c
      pub pairs : (k : ℕ) (e : Entry) (i : Info) → Has (Head x k e) v.seen → Has (Data x k i) v.seen → e ≡ entry_of i
      pub targets : (k : ℕ) (i : Info) → Has (Data x k i) v.seen → i.target ≡ state_target (p.at x) i.state
      pub monos : (k a : ℕ) (i : Info) → Has (Data x k i) v.seen → i.state ≡ Mono (class_id a) → Called s.views x a

    -- of two data words seen, in one view or in two, the one with the less stamp is at or before the other, and two with one stamp are one word
    abbrev pub Agrees : View → Type 0
    Agrees w = (k j : ℕ) (i i' : Info) → Has (Data x k i) v.seen → Has (Data x j i') w.seen → k ≤ j → Later i.state i'.state × (k ≡ j → i ≡ i')

  -- a data word ahead of its target word was seen
  abbrev pub IsShown : Type 0
  IsShown = now.low < now.top → (j : ℕ) × (v : View) × (get_elem? s.views j ≡ some v) × Has (Data x now.top now.info) v.seen

-- the shares of all views add up, and a view without one has seen nothing
pub record IsShared (s : State (Unit {0}) View) : Type 0 where
  pub total : sum_by share s.views ≡ 65536
  pub spent : (j : ℕ) (v : View) → get_elem? s.views j ≡ some v → v.share ≡ 0 → (v.seen ≡ []) × (v.asked ≡ [])

-- the rule of one site, part by part
pub record Listed (p : About) (s : State (Unit {0}) View) (x : ℕ) : Type 0 where
  pub now : Site
  pub packed : Packed p s x now
  pub lawful : IsLawful p s x now
  pub reached : IsReached p s x now
  pub filled : IsFilled p s x now
  pub seen : (j : ℕ) (v : View) → get_elem? s.views j ≡ some v → IsSeen p s x now v
  pub explained : (j : ℕ) (v : View) → get_elem? s.views j ≡ some v → IsExplained p s x now v
  pub agree : (j k : ℕ) (v w : View) → get_elem? s.views j ≡ some v → get_elem? s.views k ≡ some w → Agrees p s x now v w
  pub shown : IsShown p s x now

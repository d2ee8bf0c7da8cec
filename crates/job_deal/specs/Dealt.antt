-- The rule of the counter, and what its steps tell.
use Rattle.std.specs.Prelude.{◌≡◌, ℕ, ◌%◌, ◌^◌, ◌<◌, List, [], ◌∷◌, length, slice_index, sum_by, flat_map}
use mathlib.Core.Option.{some}
use lib.ListN.{get_elem?}
use Rattle.atomic_table.specs.Table.{State, Me, Step}
use Rattle.job_deal.specs.declared.hand.Hand.{Hand}
use Rattle.job_deal.specs.Counts.{EachOnce}

-- the share of the first pass, which all shares together have at any time
abbrev pub whole_share : ℕ
whole_share = 65536

-- the view with this share that drew these numbers, the last one first
abbrev pub hand : ℕ → List ℕ → Hand
hand share drawn = record { share = share; drawn = drawn }

-- the share of a view
abbrev pub share : Hand → ℕ
share v = v.share

-- the numbers that a view has drawn
abbrev pub drawn : Hand → List ℕ
drawn v = v.drawn

-- the numbers that were drawn, by whichever pass
abbrev pub all_drawn : List Hand → List ℕ
all_drawn views = flat_map drawn views

-- The word is the number of draws, modulo 2^64.
-- While there were fewer than 2^64, the numbers drawn are those below the word, each once.
pub record Dealt (s : State (Unit {0}) Hand) : Type 0 where
  pub one_word : length s.words ≡ 1
  pub word : slice_index s.words 0 ≡ length (all_drawn s.views) % 2 ^ 64
  pub once : length (all_drawn s.views) < 2 ^ 64 → EachOnce (length (all_drawn s.views)) (all_drawn s.views)
  pub shares : sum_by share s.views ≡ whole_share
  pub spent : (i : ℕ) (v : Hand) → get_elem? s.views i ≡ some v → v.share ≡ 0 → v.drawn ≡ []

-- who has the whole share, and drew fewer than 2^64 numbers, drew each number below their count once
abbrev pub KnowsAll : Hand → Type 0
KnowsAll v = v.share ≡ whole_share → length v.drawn < 2 ^ 64 → EachOnce (length v.drawn) v.drawn

-- a draw: the number found is drawn
abbrev pub drew : Step (Unit {0}) → Me (Unit {0}) Hand → ℕ → Me (Unit {0}) Hand → Type 0
drew st m n m' = (m'.0 ≡ hand m.0.share (n ∷ m.0.drawn)) × (m'.1 ≡ m.1) × KnowsAll m'.0

-- a look: it changes nothing
abbrev pub looked : Step (Unit {0}) → Me (Unit {0}) Hand → ℕ → Me (Unit {0}) Hand → Type 0
looked st m n m' = (m'.0 ≡ m.0) × (m'.1 ≡ m.1) × KnowsAll m.0

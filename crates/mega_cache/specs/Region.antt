-- The rule of the table. A place is set once, for a class in whose window it stands, behind places of other classes; and a generation is left for the next one where all places of a window are taken.
use Rattle.std.specs.Prelude.{◌≡◌, ◌≢◌, ◌⊎◌, ℕ, ◌+◌, ◌*◌, ◌<◌, ◌≤◌, List, length, slice_index}
use mathlib.Core.Option.{some}
use lib.ListN.{get_elem?}
use Rattle.atomic_table.specs.Table.{State}
use Rattle.program.specs.declared.numbered.Target.{Target}
use Rattle.program.specs.Lookup.{resolve}
use Rattle.program.specs.Program.{parts_of}
use Rattle.method_lookup.specs.declared.linked.Linked.{Linked}
use Rattle.mega_cache.specs.declared.view.Sight.{Sight}
use Rattle.mega_cache.specs.declared.view.Sight.TheVariants.{Root, Taken, Empty}
use Rattle.mega_cache.specs.declared.view.MegaView.{MegaView}
use Rattle.list_members.specs.Members.{Each}
use Rattle.mega_cache.specs.Entries.{packed, method_of}
use Rattle.mega_cache.specs.Places.{capacity, last_generation, words_up_to, window_place}

-- what the rule asks of a program: how many classes and selectors it has, the last generation, and the target of a class and a selector
pub record About : Type 0 where
  pub classes : ℕ
  pub selectors : ℕ
  pub last : ℕ
  pub resolve : ℕ → ℕ → Target

-- the same of a linked program
unfoldable pub about_of : Linked → About
about_of linked = record {
  classes = length linked.program.classes;
  selectors = length linked.program.selectors;
  last = last_generation (length linked.program.classes);
  resolve = resolve (parts_of linked.program);
}

-- what holds of every program. The last capacity divides 2,048, so 7 has an inverse modulo it
pub record Sound (p : About) : Type 0 where
  pub rest : ℕ
  pub whole : capacity p.last * rest ≡ 2048
  pub few_generations : p.last ≤ 7
  pub few_classes : p.classes ≤ capacity p.last
  pub few_methods : (c sel : ℕ) → method_of (p.resolve c sel) < 32768

-- how many words a selector has
abbrev pub width_of : About → ℕ
width_of p = words_up_to p.last

module _ (p : About) where
  -- the number of a selector's word, by its place; word 0 of the table is not used
  unfoldable pub word_at : ℕ → ℕ → ℕ
  word_at sel place = 1 + (sel * width_of p + place)

  -- the word of a class with its target
  abbrev pub entry_of : ℕ → ℕ → ℕ
  entry_of sel c = packed c (p.resolve c sel)

  -- the generation of a selector's root
  abbrev pub root_of : List ℕ → ℕ → ℕ
  root_of words sel = slice_index words (word_at sel 0)

  -- the place holds another class than c, with its target
  pub record Other (words : List ℕ) (sel place c : ℕ) : Type 0 where
    pub class : ℕ
    pub range : class < p.classes
    pub word : slice_index words (word_at sel place) ≡ entry_of sel class
    pub other : class ≢ c

  -- The place holds a class with its target, in the class's window in a generation up to the root, and each place before it there holds another class. In the last generation it is the class's home.
  pub record Holds (words : List ℕ) (sel place : ℕ) : Type 0 where
    pub class : ℕ
    pub range : class < p.classes
    pub word : slice_index words (word_at sel place) ≡ entry_of sel class
    pub gen : ℕ
    pub reached : gen ≤ root_of words sel
    pub turn : ℕ
    pub near : turn < 8
    pub here : place ≡ window_place class gen turn
    pub before : (d : ℕ) → d < turn → Other words sel (window_place class gen d) class
    pub home : gen ≡ p.last → turn ≡ 0

  -- it is empty, or holds a class so
  abbrev pub PlaceOk : List ℕ → ℕ → ℕ → Type 0
  PlaceOk words sel place = (slice_index words (word_at sel place) ≡ 0) ⊎ Holds words sel place

  -- all eight places of some window in generation g are taken
  abbrev pub IsCrowded : List ℕ → ℕ → ℕ → Type 0
  IsCrowded words sel g = (c : ℕ) × ((d : ℕ) → d < 8 → (k : ℕ) × (slice_index words (word_at sel (window_place c g d)) ≡ entry_of sel k))

  -- the root is a generation that there is, and each one below it is crowded
  pub record RootOk (words : List ℕ) (sel : ℕ) : Type 0 where
    pub within : root_of words sel ≤ p.last
    pub crowded : (g : ℕ) → g < root_of words sel → IsCrowded words sel g

  -- what was seen is still there: no root falls, and a place that was taken stays as it is
  abbrev pub Known : List ℕ → Sight → Type 0
  Known words (Root sel g) = (sel < p.selectors) × (g ≤ root_of words sel)
  Known words (Taken sel place c) = (sel < p.selectors) × (0 < place) × (place < width_of p) × (c < p.classes) × (slice_index words (word_at sel place) ≡ entry_of sel c)
  Known words (Empty sel place) = Unit {0}

  -- the rule on the words
  pub record RegionOk (words : List ℕ) : Type 0 where
    pub sound : Sound p
    pub size : length words ≡ 1 + p.selectors * width_of p
    pub roots : (sel : ℕ) → sel < p.selectors → RootOk words sel
    pub places : (sel place : ℕ) → sel < p.selectors → 0 < place → place < width_of p → PlaceOk words sel place

  -- the rule on the words and on what each pass has seen
  pub record Ruled (s : State (Unit {0}) MegaView) : Type 0 where
    pub region : RegionOk s.words
    pub each_view : (j : ℕ) (v : MegaView) → get_elem? s.views j ≡ some v → Each (Known s.words) v.seen

-- Sets of classes as bits, and the set of the classes above each class by `extends` and `implements`.
use Rattle.std.specs.Prelude.{◌≡◌, ℕ, ◌+◌, ◌/◌, ◌%◌, ◌<◌, Bool, nat_eq, IsTrue, List, length, slice_get, slice_index, Some, unwrap_or, [], All}
use Rattle.std.specs.Int.{bit_at}
use Rattle.program.specs.Hierarchy.{Supers, supers_in, is_subtype, ends_within}

-- d is in the set: bit d % 64 of word d / 64
abbrev pub holds : List ℕ → ℕ → Bool
holds words d = nat_eq (bit_at (slice_index words (d / 64)) (d % 64)) 1

-- the words that so many classes take
abbrev pub word_count : ℕ → ℕ
word_count count = count / 64 + 1

-- Each number that is named is that of a class.
abbrev pub AreWithin : Supers → Type 0
AreWithin named = (c : ℕ) → All (λ e. e < length named) (supers_in named c)

-- No class is above itself.
abbrev pub AllEnd : Supers → Type 0
AllEnd named = (c : ℕ) → IsTrue (ends_within (length named) named c)

-- the set of class c and the classes above it
pub record IsRow (named : Supers) (c : ℕ) (words : List ℕ) : Type 0 where
  pub same : length words ≡ word_count (length named)
  pub each : (d : ℕ) → d < length named → holds words d ≡ is_subtype named c d

-- Each set that is there, that is, not without words, is right.
abbrev pub AreRows : Supers → List (List ℕ) → Type 0
AreRows named rows = (c : ℕ) (words : List ℕ) → slice_get rows c ≡ Some words → 0 < length words → IsRow named c words

-- the set of class c is there
abbrev pub IsFilled : List (List ℕ) → ℕ → Type 0
IsFilled rows c = (words : List ℕ) × (slice_get rows c ≡ Some words) × (0 < length words)

-- the set of class e, or none
abbrev pub row_of : List (List ℕ) → ℕ → List ℕ
row_of rows e = unwrap_or (slice_get rows e) []

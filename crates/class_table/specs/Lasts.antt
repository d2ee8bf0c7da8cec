-- The greatest number below each class, as a list.
use Rattle.std.specs.Prelude.{◌≡◌, ℕ, ◌<◌, ◌≤◌, nat_lt, if◌then◌else◌, IsTrue, List, length, slice_index, slice_set, Option, None, Some}
use Rattle.program.specs.Hierarchy.{Parents, IsLast, is_above, parent_in}

-- for each class the greatest number among it and the classes below it
pub record AreLasts (up : Parents) (last : List ℕ) : Type 0 where
  pub same : length last ≡ length up
  pub each : (c : ℕ) → c < length up → IsLast up c (slice_index last c)

-- what is known once the classes from k on have told the ones above them
pub record AreRaised (up : Parents) (k : ℕ) (last : List ℕ) : Type 0 where
  pub same : length last ≡ length up
  pub there : (b : ℕ) → b < length up → slice_index last b < length up
  pub self : (b : ℕ) → b < length up → b ≤ slice_index last b
  pub below : (b : ℕ) → b < length up → IsTrue (is_above up b (slice_index last b))
  pub told : (d p : ℕ) → k ≤ d → d < length up → parent_in up d ≡ Some p → slice_index last d ≤ slice_index last p

-- class c tells the one above it
abbrev pub raised : List ℕ → ℕ → Option ℕ → List ℕ
raised last c None = last
raised last c (Some p) = if nat_lt (slice_index last p) (slice_index last c) then slice_set last p (slice_index last c) else last

-- A law of plain cells.
use Rattle.std.specs.Prelude.{◌≡◌, ℕ, List}
use Rattle.program.specs.Parts.{Parts}
use Rattle.miss_handler.specs.States as one
use Rattle.miss_handler.specs.Sites.{receivers}
use Rattle.call_cell.specs.Kept.{Kept, after_calls, classes_at}

-- after any calls each site is as its own classes, in order, would leave it alone
abbrev pub SitesAreAlone : Type 0
SitesAreAlone = (p : Parts) (k : Kept) (calls : List (ℕ × ℕ)) (s : ℕ) → (after_calls p k calls).site s ≡ one.after_calls (receivers p s) (k.site s) (classes_at s calls)

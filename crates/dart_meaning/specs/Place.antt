-- Where a call site stands.
use Rattle.std.specs.Prelude.{ℕ}

-- At the byte of its name or operator, where a read comes before a write; or in what `print` and a list's text do.
pub data Place : Type 0 where
  reading writing : ℕ → Place
  in_print in_list : Place

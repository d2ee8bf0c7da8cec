-- Comments between `/*` and `*/`.
use Rattle.std.specs.Prelude.{◌≡◌, ℕ, Bool, true, ◌∷◌}
use Rattle.dart_syntax.specs.Bytes.{Text}

-- the two bytes at the front
abbrev pub Begins : ℕ → ℕ → Text → Type 0
Begins a b bs = (rest : Text) × (bs ≡ a ∷ b ∷ rest)

-- Behind the opening of a comment: up to and with the end of it. Comments nest. `ok` says which bytes may stand in it.
pub data Comment (ok : ℕ → Bool) : Text → Text → Type 0 where
  close : {rest : Text} → Comment ok (42 ∷ 47 ∷ rest) rest
  nested : {bs mid rest : Text} → Comment ok bs mid → Comment ok mid rest → Comment ok (47 ∷ 42 ∷ bs) rest
  other : {b : ℕ} {bs rest : Text} → ok b ≡ true → ¬ Begins 42 47 (b ∷ bs) → ¬ Begins 47 42 (b ∷ bs) → Comment ok bs rest → Comment ok (b ∷ bs) rest

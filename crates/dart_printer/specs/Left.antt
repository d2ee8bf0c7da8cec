-- What is still to be written of a list with commas between, behind some of its items.
use Rattle.std.specs.Prelude.{ℕ, zero, suc, List}
use Rattle.dart_syntax.specs.Syntax.{Exps}
use Rattle.dart_syntax.specs.Text.{exps_text, more_text, listed, commas}

-- the expressions that still come, where n are written: behind the first each has a comma before it
abbrev pub exps_left : ℕ → Exps → List ℕ
exps_left zero more = exps_text more
exps_left (suc n) more = more_text more

-- the same of items of any kind
abbrev pub items_left : {A : Type 0} → (A → List ℕ) → ℕ → List A → List ℕ
items_left f zero more = listed f more
items_left f (suc n) more = commas f more

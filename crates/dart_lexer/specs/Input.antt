-- Readers: the outcome of a function that takes something from the front of a text.
use Rattle.std.specs.Prelude.{◌≡◌, ◌≢◌, ℕ, Option, Some, None, Result, Ok, Err}
use Rattle.dart_syntax.specs.Bytes.{Text}
use Rattle.dart_lexer.specs.declared.fault.Fault.{Fault}
use Rattle.dart_lexer.specs.declared.fault.Fault.TheVariants.{NoMemory}

-- what is taken and the text behind it, or a fault
abbrev pub Outcome : Type 0 → Type 0
Outcome A = Result (A × Text) Fault

-- takes something from the front of a text
abbrev pub Reader : Type 0 → Type 0
Reader A = Text → Outcome A

-- goes on behind what was taken, and ends at a fault
abbrev pub and_then : {A B : Type 0} → Outcome A → (A → Reader B) → Outcome B
and_then (Ok p) f = f p.0 p.1
and_then (Err e) f = Err e

-- what a function that reads ensures: the reader's outcome, unless memory fails
abbrev pub Reads : {A : Type 0} → Outcome A → Result A Fault → Text → Type 0
Reads outcome (Ok a) new = outcome ≡ Ok (a, new)
Reads outcome (Err e) new = e ≢ NoMemory → outcome ≡ Err e

-- the same where nothing stands behind the value
abbrev pub Gives : {A : Type 0} → Result A Fault → Result A Fault → Type 0
Gives outcome (Ok a) = outcome ≡ Ok a
Gives outcome (Err e) = e ≢ NoMemory → outcome ≡ Err e

-- what a function ensures that may find nothing
abbrev pub Finds : Option (ℕ × Text) → Option ℕ → Text → Type 0
Finds outcome (Some c) new = outcome ≡ Some (c, new)
Finds outcome None new = outcome ≡ None

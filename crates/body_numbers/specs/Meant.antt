-- What a bare name stands for.
use Rattle.std.specs.Prelude.{ℕ, ◌≡◌, List, Option}
use Rattle.dart_syntax.specs.Syntax.{Tree}
use Rattle.dart_values.specs.Values.{Text}
use Rattle.dart_meaning.specs.Place.{Place}
use Rattle.dart_meaning.specs.Meaning.{of_body, of_this, of_unit}
use Rattle.dart_meaning.specs.Numbering as num
use Rattle.body_numbers.specs.declared.meant.Meant.{Meant}
use Rattle.body_numbers.specs.declared.meant.Meant.TheVariants as v

-- the answer is right: a local by its slot, a variable of the text by its number, or a member of `this`
abbrev pub IsMeant : Tree → (Place → ℕ) → Option Text → List Text → Text → Meant → Type 0
IsMeant tree site_of here names name (v.Slot k) = (num.owner tree site_of here names name ≡ of_body) × (k ≡ num.slot tree site_of here names name)
IsMeant tree site_of here names name (v.Variable k) = (num.owner tree site_of here names name ≡ of_unit) × (k ≡ num.variable tree site_of here name)
IsMeant tree site_of here names name v.Member = num.owner tree site_of here names name ≡ of_this

-- The open variables of a body, and the slots of their names.
use Rattle.std.specs.Prelude.{ℕ, ◌≡◌, suc, ◌-◌, ◌++◌, List, [], ◌∷◌, length, map}
use Rattle.std.specs.Option.{option_map}
use Rattle.std.specs.HashMap.{HashMap}
use Rattle.std.specs.Borrow.{Bor}
use Rattle.dart_syntax.specs.Bytes.{Text}
use Rattle.body_numbers.specs.Maps.{Meanings, in_map}
use Rattle.dart_meaning.specs.Numbering.{index_of}
use Rattle.body_numbers.specs.declared.slots.Open.{Open}

-- the slot of each name, where the newest variable stands first in the list
unfoldable pub slots : List Text → Meanings ℕ
slots names q = option_map (λ k. length names - suc k) (index_of q names)

-- the names of the open variables, the newest first
abbrev pub names_of : List Open → List Text
names_of stack = map (λ (o : Open). o.name.now) stack

-- Each variable keeps what its name stood for before.
abbrev pub KeepsBefore : List Open → Type 0
KeepsBefore [] = Unit {0}
KeepsBefore (o ∷ more) = (o.was ≡ slots (names_of more) o.name.now) × KeepsBefore more

-- The map has the slots of the open variables, and can be led back.
pub record IsKept {S : Type 0} (known : HashMap (Bor Text) ℕ S) (stack : List Open) : Type 0 where
  pub agrees : in_map known ≡ slots (names_of stack)
  pub before : KeepsBefore stack

-- what was open, and more
unfoldable pub Grown : List Text → List Text → Type 0
Grown old new = (more : List Text) × (new ≡ more ++ old)

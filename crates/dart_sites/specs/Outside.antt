-- What reading all bytes and writing a text do.
use Rattle.std.specs.Prelude.{◌≡◌, ℕ, ◌≤◌, ◌<◌, List, ◌++◌, length, take, Option, IfSome, Bool, true, false}
use Rattle.std.specs.Io.KnownBytes.{Appends, Consumes, IsAtEnd, Keeps}
use Rattle.ds_base.specs.Outside.{Rose}
use Rattle.dart_sites.specs.declared.reading.Turn.{Turn}
use Rattle.dart_sites.specs.declared.reading.Turn.TheVariants as turn
use Rattle.dart_sites.specs.declared.reading.Input.{Input}
use Rattle.dart_sites.specs.declared.reading.Input.TheVariants as input

-- all that was left was read, within the limit
pub record ReadAll (old new : Option (List ℕ)) (bytes : List ℕ) : Type 0 where
  pub all : IfSome old (λ rest. (rest ≡ bytes) × IsAtEnd new)
  pub within : length bytes ≤ 1048576

-- one byte more than the limit was read
pub record ReadTooMuch (old new : Option (List ℕ)) : Type 0 where
  pub bytes : List ℕ
  pub taken : Consumes old new bytes
  pub more : length bytes ≡ 1048577

-- at most one byte more than the limit was read
pub record ReadWithin (old new : Option (List ℕ)) : Type 0 where
  pub bytes : List ℕ
  pub taken : Consumes old new bytes
  pub most : length bytes ≤ 1048577

-- one read took some bytes, at most this many
pub record Takes (old new : Option (List ℕ)) (size : ℕ) : Type 0 where
  pub bytes : List ℕ
  pub taken : Consumes old new bytes
  pub most : length bytes ≤ size

-- one read added some bytes
pub record ReadMore (old new : Option (List ℕ)) (size : ℕ) (before after : List ℕ) : Type 0 where
  pub bytes : List ℕ
  pub added : after ≡ before ++ bytes
  pub taken : Consumes old new bytes
  pub some : 1 ≤ length bytes
  pub most : length bytes ≤ size

-- one read found the end
pub record ReadNone (old new : Option (List ℕ)) (before after : List ℕ) : Type 0 where
  pub same : after ≡ before
  pub at_end : IsAtEnd old
  pub keeps : Keeps old new

-- what one turn of the reading did
abbrev pub TurnSays : Option (List ℕ) → Option (List ℕ) → ℕ → ℕ → ℕ → List ℕ → List ℕ → Turn → Type 0
TurnSays old new before now size had has turn.More = ReadMore old new size had has
TurnSays old new before now size had has turn.End = ReadNone old new had has
TurnSays old new before now size had has turn.Failed = Rose before now × Keeps old new
TurnSays old new before now size had has turn.NoMemory = Takes old new size

-- what each end of a reading says
abbrev pub ReadSays : Option (List ℕ) → Option (List ℕ) → ℕ → ℕ → Input → Type 0
ReadSays old new before now (input.Bytes bytes) = ReadAll old new bytes.items
ReadSays old new before now input.TooLarge = ReadTooMuch old new
ReadSays old new before now input.Failed = Rose before now
ReadSays old new before now input.NoMemory = Unit {0}

-- what reading all bytes did
pub record HasRead (old new : Option (List ℕ)) (before now : ℕ) (answer : Input) : Type 0 where
  pub later : before ≤ now
  pub within : ReadWithin old new
  pub says : ReadSays old new before now answer

-- what writing a text did: all of it, or a proper part after a fault
abbrev pub WriteSays : Option (List ℕ) → Option (List ℕ) → ℕ → ℕ → List ℕ → Bool → Type 0
WriteSays old new before now text true = Appends old new text
WriteSays old new before now text false = Rose before now × ((count : ℕ) × (count < length text) × Appends old new (take count text))

-- what writing a text did to the sink and to its count of faults
pub record HasWritten (old new : Option (List ℕ)) (before now : ℕ) (text : List ℕ) (whole : Bool) : Type 0 where
  pub later : before ≤ now
  pub says : WriteSays old new before now text whole

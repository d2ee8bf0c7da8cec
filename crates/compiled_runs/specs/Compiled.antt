-- What a group answers, by what the program does from each entry.
use Rattle.std.specs.Prelude.{◌≡◌, ℕ, List, All, map, Some}
use Rattle.program.specs.declared.ids.EntryId.{EntryId}
use Rattle.program.specs.Parts.{Parts}
use Rattle.dart_meaning.specs.Entry.{Meaning}
use Rattle.dart_meaning.specs.Numbered.{entry_meaning_n}
use Rattle.code_meaning.specs.Laws.{TakesNothing}
use Rattle.group_runner.specs.declared.end.GroupEnd.{GroupEnd}
use Rattle.group_runner.specs.Group.{OneEnded}

-- Each entry is a function that is there and takes nothing.
abbrev pub EachTakesNothing : Parts → List EntryId → Type 0
EachTakesNothing p entries = All (λ (e : EntryId). TakesNothing p e.0) entries

-- what the program does from each entry, in the order of the entries
abbrev pub AreMeant : Parts → ℕ → List EntryId → List Meaning → Type 0
AreMeant p turns entries ms = map (λ (e : EntryId). entry_meaning_n p e.0 turns) entries ≡ map Some ms

-- The answer of one worker tells what the program does from each entry.
abbrev pub OneMeant : Parts → ℕ → List EntryId → GroupEnd → Type 0
OneMeant p turns entries end = (ms : List Meaning) → AreMeant p turns entries ms → OneEnded p ms end

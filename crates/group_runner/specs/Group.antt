-- What a group of entries that ran answers.
use Rattle.std.specs.Prelude.{◌≡◌, ℕ, List, [], ◌∷◌, map, All}
use Rattle.std.specs.List.{flat_map}
use Rattle.program.specs.declared.ids.EntryId.{EntryId}
use Rattle.program.specs.Lookup.{resolve}
use Rattle.program.specs.Parts.{Parts}
use Rattle.program.specs.Program.{parts_of}
use Rattle.dart_meaning.specs.Entry.{Meaning}
use Rattle.code_pool.specs.Pool.{Pool}
use Rattle.code_pool.specs.Machine.{ends, machine}
use Rattle.call_cell.specs.declared.plain.PlainCells.{PlainCells}
use Rattle.call_cell.specs.Kept.{nothing_kept, after_calls}
use Rattle.call_cell.specs.Plain.{linked_of, kept}
use Rattle.isolate_run.specs.declared.ended.Ended.{Ended}
use Rattle.isolate_run.specs.Ran.{CanRun, Tells}
use Rattle.group_runner.specs.declared.end.EndCells.{EndCells}
use Rattle.group_runner.specs.declared.end.EndCells.TheVariants.{Plain}
use Rattle.group_runner.specs.declared.end.GroupEnd.{GroupEnd}

-- the calls of all entries, one after the other
abbrev pub all_asked : List Meaning → List (ℕ × ℕ)
all_asked ms = flat_map (λ (m : Meaning). m.asked) ms

-- each answer tells what its entry does
abbrev pub EachTells : Parts → List Meaning → List Ended → Type 0
EachTells p [] [] = Unit {0}
EachTells p (m ∷ ms) (e ∷ es) = Tells p m e × EachTells p ms es
EachTells p _ _ = ⊥

-- Plain cells of this program, each of whose sites is as these calls, one after the other, make of one that had no call.
pub record AreAlone (p : Parts) (asked : List (ℕ × ℕ)) (cells : PlainCells) : Type 0 where
  pub program : parts_of (linked_of cells).program ≡ p
  pub kept_is : kept cells ≡ after_calls p nothing_kept asked

-- the cells of a group in the end
abbrev pub CellsEnded : Parts → List (ℕ × ℕ) → EndCells → Type 0
CellsEnded p asked (Plain cells) = AreAlone p asked cells

-- The answer of one worker tells what each entry does, and its cells are as the calls of the entries, one entry after the other, left them.
pub record OneEnded (p : Parts) (ms : List Meaning) (end : GroupEnd) : Type 0 where
  pub ended : EachTells p ms end.ended.items
  pub cells : CellsEnded p (all_asked ms) end.cells

-- ---- entries

-- every entry can run, with so many turns
abbrev pub EachCanRun : Parts → Pool → ℕ → List EntryId → Type 0
EachCanRun p pool turns entries = All (λ (e : EntryId). CanRun p pool (resolve p) e.0 turns) entries

-- From each entry the machine, asking lookup for each target, comes to one of these meanings, in the order of the entries.
abbrev pub ComeTo : Parts → Pool → ℕ → List EntryId → List Meaning → Type 0
ComeTo p pool turns entries ms = map (λ (e : EntryId). machine p pool (resolve p) e.0 turns) entries ≡ map ends ms

-- The answer of one worker tells what the machine comes to.
abbrev pub OneFrom : Parts → Pool → ℕ → List EntryId → GroupEnd → Type 0
OneFrom p pool turns entries end = (ms : List Meaning) → ComeTo p pool turns entries ms → OneEnded p ms end

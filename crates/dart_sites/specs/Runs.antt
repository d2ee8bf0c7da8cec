-- What the entries of a run do, and the text of `run`.
use Rattle.std.specs.Prelude.{◌≡◌, ℕ, Bool, true, false, not, List, map, find, Option, Some, is_some, string_bytes}
use Rattle.std.specs.List.{list_all}
use Rattle.std.specs.Option.{option_map}
use Rattle.dart_syntax.specs.Syntax.{Tree}
use Rattle.program.specs.declared.ids.EntryId.{EntryId}
use Rattle.program.specs.declared.numbered.Numbered.{Numbered}
use Rattle.program.specs.Parts.{Parts}
use Rattle.program.specs.Program as program
use Rattle.program.specs.Program.{parts_of}
use Rattle.dart_meaning.specs.Run.{Ending, done}
use Rattle.dart_meaning.specs.Entry.{Meaning, entry_meaning, entry_named}
use Rattle.dart_meaning.specs.Sites.{site_of}
use Rattle.call_cell.specs.Kept.{Kept, nothing_kept, after_calls}
use Rattle.group_runner.specs.Group.{all_asked}
use Rattle.compiled_runs.specs.Compiled.{EachTakesNothing, AreMeant}
use Rattle.site_report.specs.Report.{report_text, check_text_of, list_text_of}
use Rattle.site_report.specs.Meant.{meant_by, asked_at}
use Rattle.dart_sites.specs.Refusals.{entry_line}
use Rattle.dart_sites.specs.Words.{texts, entries}
use Rattle.dart_sites.specs.declared.words.Request.{Request}
use Rattle.dart_sites.specs.declared.words.Request.TheVariants as request
use Rattle.dart_sites.specs.declared.entries.Found.{Found}
use Rattle.dart_sites.specs.declared.entries.Found.TheVariants as found
use Rattle.dart_sites.specs.declared.telling.Outcome.{Outcome}
use Rattle.dart_sites.specs.declared.telling.Outcome.TheVariants as outcome

-- ---- the meaning of entries

-- what the entry point of a name does alone with so many turns, with lookup at every call, if there is one
abbrev pub means : Tree → ℕ → List ℕ → Option Meaning
means tree turns name = option_map (λ f. entry_meaning tree (site_of tree) f turns) (entry_named tree name)

abbrev pub is_done : Ending → Bool
is_done done = true
is_done _ = false

-- ---- the text

-- what the calls of these entries, one entry after the other, make of sites that had no call
abbrev pub kept_after : Parts → List Meaning → Kept
kept_after p ms = after_calls p nothing_kept (all_asked ms)

-- For each entry its name, its lines and its ending; for each site how often the entries ask it, and its state and row after all their calls.
unfoldable pub text_of_run : Parts → List (List ℕ) → List Meaning → List ℕ
text_of_run p names ms = report_text p (meant_by names ms) (asked_at ms) (λ s. ((kept_after p ms).site s).state) (λ s. ((kept_after p ms).site s).row)

-- What running these entries of a numbered program, of these names, gave: the text, and whether each was done.
pub record IsRunOf (p : Parts) (entries : List EntryId) (turns : ℕ) (names : List (List ℕ)) (text : List ℕ) (all_done : Bool) : Type 0 where
  pub meanings : List Meaning
  pub each_means : AreMeant p turns entries meanings
  pub text_is : text ≡ text_of_run p names meanings
  pub done_is : all_done ≡ list_all (λ (m : Meaning). is_done m.ending) meanings

-- ---- entries by their names

-- each name is that of its entry point
abbrev pub AreEntries : Numbered → List (List ℕ) → List EntryId → Type 0
AreEntries p names entries = map (program.entry_named p) names ≡ map (λ (e : EntryId). Some e.0) entries

-- the first of the names that is no entry point
abbrev pub unnamed : Numbered → List (List ℕ) → Option (List ℕ)
unnamed p names = find (λ name. not (is_some (program.entry_named p name))) names

-- what looking the names up says
abbrev pub FoundSays : Numbered → List (List ℕ) → Found → Type 0
FoundSays p names (found.All entries) = AreEntries p names entries.items × EachTakesNothing (parts_of p) entries.items
FoundSays p names (found.Missing name) = unnamed p names ≡ Some (string_bytes name.now)

-- ---- what a request says of a numbered program

-- the entries that are named were run
pub record HasRun (p : Numbered) (turns : ℕ) (names : List (List ℕ)) (text : List ℕ) (all_done : Bool) : Type 0 where
  pub entries : List EntryId
  pub named : AreEntries p names entries
  pub ran : IsRunOf (parts_of p) entries turns names text all_done

-- the line of the first name that is no entry point
pub record IsUnnamed (p : Numbered) (names : List (List ℕ)) (line : List ℕ) : Type 0 where
  pub name : List ℕ
  pub first : unnamed p names ≡ Some name
  pub line_is : line ≡ entry_line name

-- the text that a request defines for a numbered program
abbrev pub ProgramTold : Request → Numbered → List ℕ → Bool → Type 0
ProgramTold request.Check p text all_done = (text ≡ check_text_of (parts_of p)) × (all_done ≡ true)
ProgramTold request.List p text all_done = (text ≡ list_text_of (parts_of p)) × (all_done ≡ true)
ProgramTold (request.Run turns names) p text all_done = HasRun p turns (texts names.now) text all_done

-- what came of a numbered program: its text, or a name that is no entry point
abbrev pub ProgramSays : Request → Numbered → Outcome → Type 0
ProgramSays asked p (outcome.Told told) = ProgramTold asked p told.text.items told.all_done
ProgramSays asked p (outcome.WrongNames line) = IsUnnamed p (entries asked) line.items
ProgramSays asked p outcome.NoMemory = Unit {0}
ProgramSays asked p _ = ⊥

-- What an entry that ran answers.
use Rattle.std.specs.Prelude.{◌≡◌, ◌<◌, ◌^◌, ℕ, List, length, map, slice_index}
use Rattle.program.specs.declared.ids.SelectorId.{SelectorId}
use Rattle.program.specs.declared.numbered.Site.{Site}
use Rattle.program.specs.declared.numbered.Target.{Target}
use Rattle.program.specs.Parts.{Parts}
use Rattle.dart_meaning.specs.Run as run
use Rattle.dart_meaning.specs.Entry.{Meaning}
use Rattle.code_pool.specs.Pool.{Pool}
use Rattle.code_pool.specs.Machine.{ends, machine}
use Rattle.call_cell.specs.Kept.{classes_at}
use Rattle.isolate_run.specs.declared.ended.Ended.{Ended}
use Rattle.isolate_run.specs.declared.ended.Ending.{Ending}
use Rattle.isolate_run.specs.declared.ended.Ending.TheVariants as ending

-- an ending in the words of the meaning
abbrev pub ending_of : Ending → run.Ending
ending_of ending.Done = run.done
ending_of (ending.Threw trap) = run.threw trap
ending_of ending.OutOfTurns = run.out_of_turns
ending_of ending.StackOverflow = run.stack_overflow

-- how often these calls asked site s
abbrev pub calls_at : List (ℕ × ℕ) → ℕ → ℕ
calls_at asked s = length (classes_at s asked)

-- the selector of a site
abbrev pub selector_of : Site → SelectorId
selector_of s = s.selector

-- The pool has the sites of the program, the machine comes to an end from this entry, and it asks each site fewer than 2^64 times.
pub record CanRun (p : Parts) (pool : Pool) (answers : ℕ → ℕ → Target) (e turns : ℕ) : Type 0 where
  pub sites : pool.sites ≡ map selector_of p.sites
  pub means : Meaning
  pub comes : machine p pool answers e turns ≡ ends means
  pub few : (s : ℕ) → calls_at means.asked s < 2 ^ 64

-- The answer tells what an entry does: its lines, its ending, and how often it asks each site.
pub record Tells (p : Parts) (m : Meaning) (ended : Ended) : Type 0 where
  pub lines : ended.lines.items ≡ m.lines
  pub ending : ending_of ended.ending ≡ m.ending
  pub sites : length ended.calls.items ≡ length p.sites
  pub calls : (s : ℕ) → s < length p.sites → slice_index ended.calls.items s ≡ calls_at m.asked s

-- the answer tells what the machine comes to, and what it asked and tested led the cells and the types on
pub record Ran (after_calls after_tests : List (ℕ × ℕ) → Type 0) (p : Parts) (m : Meaning) (ended : Ended) : Type 0 where
  pub tells : Tells p m ended
  pub cells : after_calls m.asked
  pub types : after_tests m.tests

-- the same of whatever the machine comes to from an entry
abbrev pub RanFrom : (List (ℕ × ℕ) → Type 0) → (List (ℕ × ℕ) → Type 0) → Parts → Pool → (ℕ → ℕ → Target) → ℕ → ℕ → Ended → Type 0
RanFrom after_calls after_tests p pool answers e turns ended =
    (m : Meaning) → machine p pool answers e turns ≡ ends m → Ran after_calls after_tests p m ended

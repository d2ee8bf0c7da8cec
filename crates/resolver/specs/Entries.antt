-- The entry points of a tree and of its numbered program.
use Rattle.std.specs.Prelude.{◌≡◌, ℕ, List}
use Rattle.std.specs.Option.{option_map, option_and_then}
use Rattle.dart_syntax.specs.Syntax.{Tree}
use Rattle.program.specs.declared.numbered.Numbered.{Numbered}
use Rattle.program.specs.Program as program
use Rattle.program.specs.Program.{parts_of}
use Rattle.dart_meaning.specs.Entry as entry
use Rattle.dart_meaning.specs.Entry.{entry_meaning}
use Rattle.dart_meaning.specs.Numbered.{entry_meaning_n}
use Rattle.dart_meaning.specs.Sites.{site_of}

-- What the program's entry point of a name does, and whether there is one, is what the tree's does, with every number of turns.
abbrev pub EntriesMean : Tree → Numbered → Type 0
EntriesMean tree p =
    (name : List ℕ) (turns : ℕ)
    → option_and_then (λ e. entry_meaning_n (parts_of p) e turns) (program.entry_named p name)
    ≡ option_map (λ f. entry_meaning tree (site_of tree) f turns) (entry.entry_named tree name)

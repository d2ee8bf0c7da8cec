-- Places of a source, as lines of refusals show them.
use Rattle.std.specs.Prelude.{ℕ, List, ◌++◌, codes}
use Rattle.std.specs.Fmt.{decimal}
use Rattle.dart_syntax.specs.Places.{line_at, column_at}

-- LINE:COL
abbrev pub place_text : List ℕ → ℕ → List ℕ
place_text source place = decimal (line_at source place) ++ codes ":" ++ decimal (column_at source place)

-- Words for trees that are written by hand: a name and a part of the text by the byte where it begins.
use Rattle.std.specs.Prelude.{ℕ, ◌+◌, List, length}
use Rattle.dart_syntax.specs.declared.token.Span.{Span}
use Rattle.dart_syntax.specs.declared.tree.Name.{Name}

-- so many bytes from a place on
abbrev pub sp : ℕ → ℕ → Span
sp start bytes = record { start = start; end = start + bytes }

abbrev pub n : List ℕ → ℕ → Name
n text start = record { text = text; span = sp start (length text) }

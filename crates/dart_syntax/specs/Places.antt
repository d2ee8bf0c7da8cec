-- The line and the column of a place of a text, which is the number of bytes before it.
use Rattle.std.specs.Prelude.{ℕ, ◌+◌, List, length, take, reverse, count_by, take_while, ◌==◌, not}

-- 1 and the line feeds before a place
abbrev pub line_at : List ℕ → ℕ → ℕ
line_at source place = 1 + count_by (λ b. b == 10) (take place source)

-- 1 and the bytes since the last line feed before a place
abbrev pub column_at : List ℕ → ℕ → ℕ
column_at source place = 1 + length (take_while (λ b. not (b == 10)) (reverse (take place source)))

-- Texts as bytes: the kinds of bytes, runs of one kind, and places.
use Rattle.std.specs.Prelude.{◌≡◌, ℕ, ◌-◌, Bool, true, false, not, ◌||◌, ◌==◌, List, [], ◌∷◌, Option, Some, None}
use Rattle.std.specs.Char.{is_ascii_digit, is_ascii_hexdigit, is_ascii_alphabetic, is_ascii_alphanumeric}
use Rattle.dart_syntax.specs.declared.byte_kind.ByteKind.{ByteKind}
use Rattle.dart_syntax.specs.declared.byte_kind.ByteKind.TheVariants as byte
use Rattle.dart_syntax.specs.declared.token.Span.{Span}

-- a text is the list of its bytes
abbrev pub Text : Type 0
Text = List ℕ

-- whether a byte is of a kind
abbrev pub is_in : ByteKind → ℕ → Bool
is_in byte.Space b = b == 32 || b == 9
is_in byte.LineEnd b = b == 10 || b == 13
is_in byte.InLine b = not (b == 10 || b == 13)
is_in byte.Digit b = is_ascii_digit b
is_in byte.Hex b = is_ascii_hexdigit b
is_in byte.Start b = is_ascii_alphabetic b || b == 95 || b == 36
is_in byte.Initial b = is_ascii_alphabetic b || b == 95
is_in byte.Simple b = is_ascii_alphanumeric b || b == 95
is_in byte.Part b = is_ascii_alphanumeric b || b == 95 || b == 36

-- the next byte, if there is one
abbrev pub first : Text → Option ℕ
first [] = None
first (b ∷ bs) = Some b

-- the text behind the next byte
abbrev pub next : Text → Text
next [] = []
next (b ∷ bs) = bs

-- the bytes of a kind at the front, all of them: what they are, and the text behind them
pub data Run (p : ℕ → Bool) : Text → Text → Text → Type 0 where
  stop : {rest : Text} → ((b : ℕ) → first rest ≡ Some b → p b ≡ false) → Run p rest [] rest
  step : {b : ℕ} {bs xs rest : Text} → p b ≡ true → Run p bs xs rest → Run p (b ∷ bs) (b ∷ xs) rest

-- Inside of these definitions a place is told by how many bytes the text has from there on.
-- This is the span between two places of a text of n bytes.
abbrev pub span : ℕ → ℕ → ℕ → Span
span n from to = record { start = n - from; end = n - to }

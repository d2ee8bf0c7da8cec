-- The inside of strings: characters, escapes, and the pieces between interpolations.
use Rattle.std.specs.Prelude.{◌≡◌, ℕ, zero, suc, ◌+◌, ◌-◌, ◌*◌, Bool, true, false, not, ◌||◌, ◌&&◌, if◌then◌else◌, ◌==◌, nat_le, List, [], ◌∷◌, ◌++◌, length, Option, Some, None}
use Rattle.std.specs.Str.{continuation_len, lead_bits}
use Rattle.std.specs.Char.Escape.{encode_utf16}
use Rattle.dart_syntax.specs.declared.token.Token.{Token}
use Rattle.dart_syntax.specs.declared.token.TokenKind.{TokenKind}
use Rattle.dart_syntax.specs.declared.token.TokenKind.TheVariants as tk
use Rattle.dart_syntax.specs.declared.byte_kind.ByteKind.TheVariants as byte
use Rattle.dart_syntax.specs.Words.{token}
use Rattle.dart_syntax.specs.Bytes.{Text, is_in, first, next, Run, span}
use Rattle.dart_syntax.specs.Numbers.{value}
use Rattle.dart_syntax.specs.Names.{keyword_of, is_reserved, simple_kind}

-- ---- characters

-- six more bits of a character, from the byte that follows
abbrev pub six_bits : ℕ → Option ℕ → ℕ
six_bits c None = 64 * c
six_bits c (Some b) = 64 * c + (b - 128)

-- the character whose last n bytes stand at the front, where c is the value of those before, and the text behind it
abbrev pub with_bytes : ℕ → ℕ → Text → ℕ × Text
with_bytes zero c bs = (c, bs)
with_bytes (suc n) c bs = with_bytes n (six_bits c (first bs)) (next bs)

-- The UTF-8 character with the first byte b, behind that byte. An ASCII character is its byte.
unfoldable pub character : ℕ → Text → ℕ × Text
character b bs = with_bytes (continuation_len b) (lead_bits b) bs

-- ---- escapes

-- what a letter behind a backslash stands for; another character stands for itself
abbrev pub escaped : ℕ → ℕ
escaped c = if c == 110 then 10 else (if c == 114 then 13 else (if c == 102 then 12 else (if c == 98 then 8 else (if c == 116 then 9 else (if c == 118 then 11 else c)))))

-- a character that has its own meaning, or itself, behind a backslash: not `x`, `u` or a line's end
abbrev pub is_escape : ℕ → Bool
is_escape b = not (b == 120 || b == 117 || is_in byte.LineEnd b)

-- n hexadecimal digits
pub data Digits : ℕ → Text → Text → Text → Type 0 where
  none : {rest : Text} → Digits 0 rest [] rest
  more : {n a : ℕ} {bs ds rest : Text} → is_in byte.Hex a ≡ true → Digits n bs ds rest → Digits (suc n) (a ∷ bs) (a ∷ ds) rest

-- one to six digits, up to 10FFFF
abbrev pub is_code : Text → Bool
is_code ds = nat_le 1 (length ds) && nat_le (length ds) 6 && nat_le (value 16 ds) 0x10_FFFF

-- what stands behind a backslash, as the number of a character or of a code unit
pub data Escape : Text → ℕ → Text → Type 0 where
  plain : {b : ℕ} {bs : Text} → is_escape b ≡ true → Escape (b ∷ bs) (escaped (character b bs).0) (character b bs).1
  two : {bs ds rest : Text} → Digits 2 bs ds rest → Escape (120 ∷ bs) (value 16 ds) rest
  four : {bs ds rest : Text} → Digits 4 bs ds rest → Escape (117 ∷ bs) (value 16 ds) rest
  braced : {bs ds rest : Text} → Run (is_in byte.Hex) bs ds (125 ∷ rest) → is_code ds ≡ true → Escape (117 ∷ 123 ∷ bs) (value 16 ds) rest

-- ---- the text between quotes and interpolations

-- not the quote q, `$`, a backslash or a line's end
abbrev pub is_plain : ℕ → ℕ → Bool
is_plain q b = not (b == q || b == 36 || b == 92 || is_in byte.LineEnd b)

-- one character of a string between the quotes q, or one escape
pub data Character (q : ℕ) : Text → ℕ → Text → Type 0 where
  plain : {b : ℕ} {bs : Text} → is_plain q b ≡ true → Character q (b ∷ bs) (character b bs).0 (character b bs).1
  escape : {c : ℕ} {bs rest : Text} → Escape bs c rest → Character q (92 ∷ bs) c rest

-- characters one behind the other, as UTF-16 code units
pub data Raw (q : ℕ) : Text → Text → Text → Type 0 where
  none : {rest : Text} → Raw q rest [] rest
  more : {c : ℕ} {us bs mid rest : Text} → Character q bs c mid → Raw q mid us rest → Raw q bs (encode_utf16 c ++ us) rest

-- the token of a piece, by whether it is the first of its string and whether it is the last
abbrev pub piece : Bool → Bool → Text → TokenKind
piece true true u = tk.Str u
piece true false u = tk.StrOpen u
piece false false u = tk.StrMid u
piece false true u = tk.StrClose u

-- From bs, behind a quote, a brace or a name, to the quote that closes the string, or into `${`: the second Bool says which.
-- The first token stands at the place `from`.
pub data Segment (n q : ℕ) : Bool → ℕ → Text → List Token → Bool → Text → Type 0 where
  closed : {f : Bool} {from : ℕ} {bs u rest : Text} → Raw q bs u (q ∷ rest) → Segment n q f from bs (token (piece f true u) (span n from (length rest)) ∷ []) true rest
  entered : {f : Bool} {from : ℕ} {bs u rest : Text} → Raw q bs u (36 ∷ 123 ∷ rest) → Segment n q f from bs (token (piece f false u) (span n from (length rest)) ∷ []) false rest
  simple : {f last : Bool} {from b : ℕ} {bs u mid name after rest : Text} {k : TokenKind} {ts : List Token} → Raw q bs u (36 ∷ b ∷ mid) → is_in byte.Initial b ≡ true → Run (is_in byte.Simple) mid name after
      → is_reserved (b ∷ name) ≡ false → simple_kind (keyword_of (b ∷ name)) (b ∷ name) ≡ Some k → Segment n q false (length after) after ts last rest
      → Segment n q f from bs (token (piece f false u) (span n from (length (b ∷ mid))) ∷ token k (span n (length (b ∷ mid)) (length after)) ∷ ts) last rest

-- The tokens of a text, by cases: how a text is split into spaces, comments and the texts of tokens.
-- Each relation reads from one text up to another: it says what stands between the two.
use Rattle.std.specs.Prelude.{◌≡◌, ℕ, suc, ◌<◌, Bool, true, false, ◌||◌, ◌&&◌, ◌==◌, List, [], ◌∷◌, ◌++◌, length, Option, Some, None}
use Rattle.std.specs.Str.{IsUtf8}
use Rattle.dart_syntax.specs.declared.token.Token.{Token}
use Rattle.dart_syntax.specs.declared.token.TokenKind.{TokenKind}
use Rattle.dart_syntax.specs.declared.token.TokenKind.TheVariants as tk
use Rattle.dart_syntax.specs.declared.token.Sign.{Sign}
use Rattle.dart_syntax.specs.declared.token.Sign.TheVariants as s
use Rattle.dart_syntax.specs.declared.byte_kind.ByteKind.TheVariants as byte
use Rattle.dart_syntax.specs.declared.open.Open.{Open}
use Rattle.dart_syntax.specs.declared.open.Open.TheVariants as open_
use Rattle.dart_syntax.specs.Words.{token}
use Rattle.dart_syntax.specs.Bytes.{Text, is_in, Run, span}
use Rattle.dart_syntax.specs.Comments.{Comment}
use Rattle.dart_syntax.specs.Names.{keyword_of, is_reserved, word_kind}
use Rattle.dart_syntax.specs.Numbers.{value, decimal_kind, hex_kind}
use Rattle.dart_syntax.specs.Signs.{signs, IsLongest}
use Rattle.dart_syntax.specs.Strings.{Segment}

-- the place of the opening quote of the innermost string that is open
abbrev pub inside : List Open → Option ℕ
inside [] = None
inside (open_.Brace outer ∷ os) = outer
inside (open_.Text q l ∷ os) = Some l

-- the bytes that may stand between tokens and in comments: in an interpolation no line ends
abbrev pub fits_line : Option ℕ → ℕ → Bool
fits_line None b = true
fits_line (Some l) b = is_in byte.InLine b

-- a space, a tab, or outside of interpolations a line's end
abbrev pub is_blank : Option ℕ → ℕ → Bool
is_blank o b = is_in byte.Space b || (is_in byte.LineEnd b && fits_line o b)

-- a single or a double quote
abbrev pub is_quote : ℕ → Bool
is_quote b = b == 39 || b == 34

-- the letter behind the 0 of a hexadecimal integer
abbrev pub is_x : ℕ → Bool
is_x b = b == 120 || b == 88

-- whether such a letter comes next
abbrev pub starts_x : Text → Bool
starts_x [] = false
starts_x (b ∷ bs) = is_x b

-- whether an integer is hexadecimal
abbrev pub is_hex : ℕ → Text → Bool
is_hex b bs = b == 48 && starts_x bs

-- a brace, and the text behind it
abbrev pub brace : ℕ → Sign → Text → Token
brace n c rest = token (tk.Sign c) (span n (suc (length rest)) (length rest))

-- One piece of a text of n bytes: a space, a comment, or the text of tokens. The lists say what is open before it and behind it, the innermost first.
pub data Takes (n : ℕ) : List Open → Text → List Token → List Open → Text → Type 0 where
  blank : {o : List Open} {b : ℕ} {rest : Text} → is_blank (inside o) b ≡ true → Takes n o (b ∷ rest) [] o rest
  line : {o : List Open} {bs text rest : Text} → Run (is_in byte.InLine) bs text rest → Takes n o (47 ∷ 47 ∷ bs) [] o rest
  comment : {o : List Open} {bs rest : Text} → Comment (fits_line (inside o)) bs rest → Takes n o (47 ∷ 42 ∷ bs) [] o rest
  word : {o : List Open} {b : ℕ} {bs text rest : Text} → is_in byte.Start b ≡ true → Run (is_in byte.Part) bs text rest → is_reserved (b ∷ text) ≡ false
      → Takes n o (b ∷ bs) (token (word_kind (keyword_of (b ∷ text)) (b ∷ text)) (span n (length (b ∷ bs)) (length rest)) ∷ []) o rest
  decimal : {o : List Open} {b : ℕ} {bs ds rest : Text} {k : TokenKind} → is_in byte.Digit b ≡ true → is_hex b bs ≡ false → Run (is_in byte.Digit) bs ds rest → decimal_kind (value 10 (b ∷ ds)) ≡ Some k
      → Takes n o (b ∷ bs) (token k (span n (length (b ∷ bs)) (length rest)) ∷ []) o rest
  hexadecimal : {o : List Open} {x : ℕ} {bs ds rest : Text} {k : TokenKind} → is_x x ≡ true → Run (is_in byte.Hex) bs ds rest → 0 < length ds → hex_kind (value 16 ds) ≡ Some k
      → Takes n o (48 ∷ x ∷ bs) (token k (span n (length (48 ∷ x ∷ bs)) (length rest)) ∷ []) o rest
  sign : {o : List Open} {c : Sign} {bs rest : Text} → IsLongest signs bs c rest → Takes n o bs (token (tk.Sign c) (span n (length bs) (length rest)) ∷ []) o rest
  opens : {o : List Open} {rest : Text} → Takes n o (123 ∷ rest) (brace n s.BraceOpen rest ∷ []) (open_.Brace (inside o) ∷ o) rest
  closes : {o : List Open} {outer : Option ℕ} {rest : Text} → Takes n (open_.Brace outer ∷ o) (125 ∷ rest) (brace n s.BraceClose rest ∷ []) o rest
  stray : {rest : Text} → Takes n [] (125 ∷ rest) (brace n s.BraceClose rest ∷ []) [] rest
  string : {o : List Open} {q : ℕ} {bs rest : Text} {ts : List Token} → is_quote q ≡ true → Segment n q true (length (q ∷ bs)) bs ts true rest → Takes n o (q ∷ bs) ts o rest
  enters : {o : List Open} {q : ℕ} {bs rest : Text} {ts : List Token} → is_quote q ≡ true → Segment n q true (length (q ∷ bs)) bs ts false rest → Takes n o (q ∷ bs) ts (open_.Text q (length (q ∷ bs)) ∷ o) rest
  ends : {o : List Open} {q l : ℕ} {bs rest : Text} {ts : List Token} → Segment n q false (length (125 ∷ bs)) bs ts true rest → Takes n (open_.Text q l ∷ o) (125 ∷ bs) ts o rest
  goes_on : {o : List Open} {q l : ℕ} {bs rest : Text} {ts : List Token} → Segment n q false (length (125 ∷ bs)) bs ts false rest → Takes n (open_.Text q l ∷ o) (125 ∷ bs) ts (open_.Text q l ∷ o) rest

-- pieces one behind the other
pub data Runs (n : ℕ) : List Open → Text → List Token → List Open → Text → Type 0 where
  here : {o : List Open} {rest : Text} → Runs n o rest [] o rest
  step : {o p r : List Open} {bs mid rest : Text} {ts us : List Token} → Takes n o bs ts p mid → Runs n p mid us r rest → Runs n o bs (ts ++ us) r rest

-- The token list of a text: the text is UTF-8 and all of it is pieces, no string is left open, and an end token closes the list.
pub record TokenList (text : Text) (ts : List Token) : Type 0 where
  pub utf8 : IsUtf8 text
  pub found : List Token
  pub still_open : List Open
  pub runs : Runs (length text) [] text found still_open []
  pub no_string : inside still_open ≡ None
  pub is : ts ≡ found ++ token tk.End (span (length text) 0 0) ∷ []

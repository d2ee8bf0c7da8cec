-- Why a text has no tokens: its first fault. Places are told as in the definition of tokens, until the end of this file.
use Rattle.std.specs.Prelude.{◌≡◌, ℕ, ◌-◌, ◌<◌, Bool, true, false, ◌||◌, ◌==◌, List, [], ◌∷◌, length, Some, None}
use Rattle.std.specs.Str.{IsUtf8, IsValidUpTo}
use Rattle.dart_syntax.specs.declared.token.Token.{Token}
use Rattle.dart_syntax.specs.declared.token.TokenKind.{TokenKind}
use Rattle.dart_syntax.specs.declared.byte_kind.ByteKind.TheVariants as byte
use Rattle.dart_syntax.specs.declared.open.Open.{Open}
use Rattle.dart_syntax.specs.declared.open.Open.TheVariants as open_
use Rattle.dart_syntax.specs.Bytes.{Text, is_in, Run}
use Rattle.dart_syntax.specs.Comments.{Begins, Comment}
use Rattle.dart_syntax.specs.Names.{keyword_of, is_reserved, simple_kind}
use Rattle.dart_syntax.specs.Numbers.{value, decimal_kind, hex_kind}
use Rattle.dart_syntax.specs.Signs.{signs, NoSign}
use Rattle.dart_syntax.specs.Strings.{Escape, Raw}
use Rattle.dart_syntax.specs.Tokens.{inside, fits_line, is_quote, is_x, is_hex, Runs}
use Rattle.dart_lexer.specs.declared.error.LexError.{LexError}
use Rattle.dart_lexer.specs.declared.error.LexError.TheVariants as error
use Rattle.dart_lexer.specs.declared.fault.Fault.{Fault}
use Rattle.dart_lexer.specs.declared.fault.Fault.TheVariants.{NoMemory, BadChar, UnclosedString, UnclosedComment, WideInteger, ReservedWord}

-- ---- comments

-- how far a comment goes that has no end: the rest is where a byte stands that is not ok, or the text's end
pub data Endless (ok : ℕ → Bool) : Text → Text → Type 0 where
  ends : Endless ok [] []
  stops : {b : ℕ} {bs : Text} → ok b ≡ false → Endless ok (b ∷ bs) (b ∷ bs)
  inner : {bs rest : Text} → Endless ok bs rest → Endless ok (47 ∷ 42 ∷ bs) rest
  nested : {bs mid rest : Text} → Comment ok bs mid → Endless ok mid rest → Endless ok (47 ∷ 42 ∷ bs) rest
  other : {b : ℕ} {bs rest : Text} → ok b ≡ true → ¬ Begins 42 47 (b ∷ bs) → ¬ Begins 47 42 (b ∷ bs) → Endless ok bs rest → Endless ok (b ∷ bs) rest

-- ---- strings

-- the text's end or a line's end
abbrev pub ends_line : Text → Bool
ends_line [] = true
ends_line (b ∷ bs) = is_in byte.LineEnd b

-- why no character of a string can be read, whose quote stands at the place l
pub data BadCharacter (l : ℕ) : Text → Fault → Type 0 where
  line_end : {bs : Text} → ends_line bs ≡ true → BadCharacter l bs (UnclosedString l)
  cut_off : {bs : Text} → ends_line bs ≡ true → BadCharacter l (92 ∷ bs) (UnclosedString l)
  escape : {bs : Text} → ends_line bs ≡ false → ((c : ℕ) (rest : Text) → ¬ Escape bs c rest) → BadCharacter l (92 ∷ bs) (BadChar (length (92 ∷ bs)))

-- what is no name and no brace behind a `$`
pub data NoName : Text → Type 0 where
  none : NoName []
  other : {b : ℕ} {rest : Text} → (b == 123) ≡ false → is_in byte.Initial b ≡ false → NoName (b ∷ rest)
  keyword : {b : ℕ} {mid name after : Text} → is_in byte.Initial b ≡ true → Run (is_in byte.Simple) mid name after → is_reserved (b ∷ name) ≡ false → simple_kind (keyword_of (b ∷ name)) (b ∷ name) ≡ None
      → NoName (b ∷ mid)

-- why no piece of a string can be read
pub data BadSegment (q l : ℕ) : Text → Fault → Type 0 where
  character : {bs u mid : Text} {e : Fault} → Raw q bs u mid → BadCharacter l mid e → BadSegment q l bs e
  name : {bs u rest : Text} → Raw q bs u (36 ∷ rest) → NoName rest → BadSegment q l bs (BadChar (length (36 ∷ rest)))
  reserved : {bs u mid name after : Text} {b : ℕ} → Raw q bs u (36 ∷ b ∷ mid) → is_in byte.Initial b ≡ true → Run (is_in byte.Simple) mid name after → is_reserved (b ∷ name) ≡ true
      → BadSegment q l bs (ReservedWord (length (b ∷ mid)))
  later : {bs u mid name after : Text} {b : ℕ} {k : TokenKind} {e : Fault} → Raw q bs u (36 ∷ b ∷ mid) → is_in byte.Initial b ≡ true → Run (is_in byte.Simple) mid name after → is_reserved (b ∷ name) ≡ false
      → simple_kind (keyword_of (b ∷ name)) (b ∷ name) ≡ Some k → BadSegment q l after e → BadSegment q l bs e

-- ---- pieces

-- the bytes that begin a piece and no sign
abbrev pub begins : ℕ → Bool
begins b = is_in byte.Space b || is_in byte.LineEnd b || b == 47 || is_in byte.Start b || is_quote b || is_in byte.Digit b || b == 123 || b == 125

-- a slash or star, which makes a comment of the slash before it
abbrev pub is_comment_opening : Text → Bool
is_comment_opening [] = false
is_comment_opening (b ∷ bs) = b == 47 || b == 42

-- why no piece can be taken, where these are open
pub data Stuck : List Open → Text → Fault → Type 0 where
  text_end : {o : List Open} {l : ℕ} → inside o ≡ Some l → Stuck o [] (UnclosedString l)
  line_end : {o : List Open} {l b : ℕ} {bs : Text} → inside o ≡ Some l → is_in byte.LineEnd b ≡ true → Stuck o (b ∷ bs) (UnclosedString l)
  no_comment : {o : List Open} {bs : Text} → is_comment_opening bs ≡ false → Stuck o (47 ∷ bs) (BadChar (length (47 ∷ bs)))
  endless : {o : List Open} {bs : Text} → Endless (fits_line (inside o)) bs [] → Stuck o (47 ∷ 42 ∷ bs) (UnclosedComment (length (47 ∷ 42 ∷ bs)))
  comment_line : {o : List Open} {l b : ℕ} {bs rest : Text} → inside o ≡ Some l → Endless (fits_line (inside o)) bs (b ∷ rest) → Stuck o (47 ∷ 42 ∷ bs) (UnclosedString l)
  reserved : {o : List Open} {b : ℕ} {bs text rest : Text} → is_in byte.Start b ≡ true → Run (is_in byte.Part) bs text rest → is_reserved (b ∷ text) ≡ true → Stuck o (b ∷ bs) (ReservedWord (length (b ∷ bs)))
  wide_decimal : {o : List Open} {b : ℕ} {bs ds rest : Text} → is_in byte.Digit b ≡ true → is_hex b bs ≡ false → Run (is_in byte.Digit) bs ds rest → decimal_kind (value 10 (b ∷ ds)) ≡ None
      → Stuck o (b ∷ bs) (WideInteger (length (b ∷ bs)))
  wide_hex : {o : List Open} {x : ℕ} {bs ds rest : Text} → is_x x ≡ true → Run (is_in byte.Hex) bs ds rest → 0 < length ds → hex_kind (value 16 ds) ≡ None → Stuck o (48 ∷ x ∷ bs) (WideInteger (length (48 ∷ x ∷ bs)))
  no_hex : {o : List Open} {x : ℕ} {bs rest : Text} → is_x x ≡ true → Run (is_in byte.Hex) bs [] rest → Stuck o (48 ∷ x ∷ bs) (BadChar (length (48 ∷ x ∷ bs)))
  string : {o : List Open} {q : ℕ} {bs : Text} {e : Fault} → is_quote q ≡ true → BadSegment q (length (q ∷ bs)) bs e → Stuck o (q ∷ bs) e
  goes_on : {o : List Open} {q l : ℕ} {bs : Text} {e : Fault} → BadSegment q l bs e → Stuck (open_.Text q l ∷ o) (125 ∷ bs) e
  other : {o : List Open} {b : ℕ} {bs : Text} → begins b ≡ false → NoSign signs (b ∷ bs) → Stuck o (b ∷ bs) (BadChar (length (b ∷ bs)))

-- pieces are taken from the front while they are whole, and then none can be
pub record FaultOf (text : Text) (e : Fault) : Type 0 where
  pub found : List Token
  pub still_open : List Open
  pub rest : Text
  pub runs : Runs (length text) [] text found still_open rest
  pub stuck : Stuck still_open rest e

-- ---- the answer

-- the same fault of a text of n bytes, with its byte place
abbrev pub at_place : ℕ → Fault → LexError
at_place n NoMemory = error.NoMemory
at_place n (BadChar left) = error.BadChar (n - left)
at_place n (UnclosedString left) = error.UnclosedString (n - left)
at_place n (UnclosedComment left) = error.UnclosedComment (n - left)
at_place n (WideInteger left) = error.WideInteger (n - left)
at_place n (ReservedWord left) = error.ReservedWord (n - left)

-- the first fault of a UTF-8 text
pub record FirstFault (text : Text) (e : LexError) : Type 0 where
  pub utf8 : IsUtf8 text
  pub fault : Fault
  pub is_fault : FaultOf text fault
  pub is : e ≡ at_place (length text) fault

-- Why a text is refused. That it is not UTF-8 is looked at first, over the whole text: the place is the length of the longest front that is.
pub data Refused (text : Text) : LexError → Type 0 where
  not_utf8 : {at : ℕ} → IsValidUpTo text at → Refused text (error.NotUtf8 at)
  faulty : {e : LexError} → FirstFault text e → Refused text e

-- The same pieces as functions: what the code computes.
use Rattle.std.specs.Prelude.{ℕ, zero, suc, ◌+◌, ◌*◌, Bool, true, false, ◌||◌, ◌&&◌, if◌then◌else◌, ◌==◌, List, [], ◌∷◌, ◌++◌, length, take, drop, Option, Some, None, Result, Ok, Err}
use Rattle.std.specs.List.{prefix_len}
use Rattle.std.specs.Char.Escape.{encode_utf16}
use Rattle.dart_syntax.specs.declared.token.Token.{Token}
use Rattle.dart_syntax.specs.declared.token.TokenKind.{TokenKind}
use Rattle.dart_syntax.specs.declared.token.TokenKind.TheVariants as tk
use Rattle.dart_syntax.specs.declared.token.Sign.{Sign}
use Rattle.dart_syntax.specs.declared.token.Sign.TheVariants as s
use Rattle.dart_lexer.specs.declared.fault.Fault.{Fault}
use Rattle.dart_lexer.specs.declared.fault.Fault.TheVariants.{BadChar, UnclosedString, UnclosedComment, WideInteger, ReservedWord}
use Rattle.dart_syntax.specs.declared.byte_kind.ByteKind.{ByteKind}
use Rattle.dart_syntax.specs.declared.byte_kind.ByteKind.TheVariants as byte
use Rattle.dart_syntax.specs.declared.open.Open.{Open}
use Rattle.dart_syntax.specs.declared.open.Open.TheVariants as open_
use Rattle.dart_syntax.specs.Words.{token}
use Rattle.dart_syntax.specs.Bytes.{Text, is_in, first, next, span}
use Rattle.dart_syntax.specs.Names.{keyword_of, is_reserved, word_kind, simple_kind}
use Rattle.dart_syntax.specs.Numbers.{hex_value, value, decimal_kind, hex_kind}
use Rattle.dart_syntax.specs.Signs.{signs}
use Rattle.dart_syntax.specs.Strings.{character, escaped, is_code, piece}
use Rattle.dart_syntax.specs.Tokens.{inside, fits_line, is_quote, is_hex}
use Rattle.dart_lexer.specs.FirstFault.{begins, ends_line}
use Rattle.dart_lexer.specs.Input.{Outcome, Reader, and_then}
use Rattle.dart_lexer.specs.Signs.{sign_in}

-- whether there is a byte, and it is this one
abbrev pub is_some_byte : ℕ → Option ℕ → Bool
is_some_byte a None = false
is_some_byte a (Some b) = b == a

-- whether this byte comes next
abbrev pub is_first : ℕ → Text → Bool
is_first a bs = is_some_byte a (first bs)

-- ---- comments: Ok with the text behind the end, or Err with the text from where there is none

-- behind a comment's opening: `ok` tells the bytes it may hold, d how many inner comments are open, and `skip` that the next byte belongs to a sign
abbrev pub past : (ℕ → Bool) → ℕ → Bool → Text → Result Text Text
past ok d skip [] = Err []
past ok d true (b ∷ bs) = past ok d false bs
past ok zero false (b ∷ bs) =
    if b == 42 && is_first 47 bs then Ok (next bs) else (if b == 47 && is_first 42 bs then past ok 1 true bs else (if ok b then past ok zero false bs else Err (b ∷ bs)))
past ok (suc d) false (b ∷ bs) =
    if b == 42 && is_first 47 bs then past ok d true bs else (if b == 47 && is_first 42 bs then past ok (suc (suc d)) true bs else (if ok b then past ok (suc d) false bs else Err (b ∷ bs)))

-- the longest run of a kind
abbrev pub run : ByteKind → Text → Text
run c bs = take (prefix_len (is_in c) bs) bs

-- the text behind that run
abbrev pub past_run : ByteKind → Text → Text
past_run c bs = drop (prefix_len (is_in c) bs) bs

-- ---- escapes: what is found and the text behind it, or None

-- a number, as the value of digits or the code of a character, and the text behind it
abbrev pub Found : Type 0
Found = Option (ℕ × Text)

-- goes on with the value of a hexadecimal digit, if one is there
abbrev pub digit_by : Option ℕ → (ℕ → Found) → Found
digit_by None go = None
digit_by (Some a) go = if is_in byte.Hex a then go (hex_value a) else None

-- n hexadecimal digits, behind others of the value v
abbrev pub digits_from : ℕ → ℕ → Text → Found
digits_from zero v bs = Some (v, bs)
digits_from (suc n) v bs = digit_by (first bs) (λ d. digits_from n (16 * v + d) (next bs))

-- behind `\u{`
unfoldable pub braced : Text → Found
braced bs = if is_first 125 (past_run byte.Hex bs) && is_code (run byte.Hex bs) then Some (value 16 (run byte.Hex bs), next (past_run byte.Hex bs)) else None

-- behind `\u`
unfoldable pub unicode : Text → Found
unicode bs = if is_first 123 bs then braced (next bs) else digits_from 4 0 bs

-- behind a backslash, where a byte b stands that ends no line
abbrev pub escape_by : Option ℕ → Text → Found
escape_by None bs = None
escape_by (Some b) bs = if b == 120 then digits_from 2 0 bs else (if b == 117 then unicode bs else Some (escaped (character b bs).0, (character b bs).1))

-- behind a backslash: the character that the escape stands for
unfoldable pub escape : Text → Found
escape bs = escape_by (first bs) (next bs)

-- ---- strings

-- what an escape stands for, or the fault at its backslash
abbrev pub found_or : ℕ → Found → Outcome (Option ℕ)
found_or at None = Err (BadChar at)
found_or at (Some p) = Ok (Some p.0, p.1)

-- behind the backslash, which stands at the place `at`; the string's quote is at the place l
unfoldable pub escaped_one : ℕ → ℕ → Reader (Option ℕ)
escaped_one l at bs = if ends_line bs then Err (UnclosedString l) else found_or at (escape bs)

-- one character of a string, or None at the quote and at `$`
abbrev pub one_by : ℕ → ℕ → Option ℕ → Text → Outcome (Option ℕ)
one_by q l None bs = Err (UnclosedString l)
one_by q l (Some b) bs =
    if b == q || b == 36 then Ok (None, bs)
    else (if b == 92 then escaped_one l (length bs) (next bs)
    else (if is_in byte.LineEnd b then Err (UnclosedString l) else Ok (Some (character b (next bs)).0, (character b (next bs)).1)))

-- the next character of a string with quote q at the place l; None where a piece of it ends
unfoldable pub one : ℕ → ℕ → Reader (Option ℕ)
one q l bs = one_by q l (first bs) bs

-- goes on with the UTF-16 units of one more character, or ends where there is none
abbrev pub went_on : Option ℕ → Text → (Text → Reader Text) → Reader Text
went_on None found go = λ bs. Ok (found, bs)
went_on (Some c) found go = go (found ++ encode_utf16 c)

-- characters behind the units found, at most n of them
abbrev pub raw_from : ℕ → ℕ → ℕ → Text → Reader Text
raw_from q l zero found = λ bs. Err (UnclosedString l)
raw_from q l (suc n) found = λ bs. and_then (one q l bs) (λ o. went_on o found (raw_from q l n))

-- the UTF-16 units up to the quote or the next `$`, in a string with quote q at the place l
unfoldable pub raw : ℕ → ℕ → Reader Text
raw q l bs = raw_from q l (length bs) [] bs

-- a name behind a `$`, at the place `at`
abbrev pub simple_or : ℕ → Option TokenKind → Reader TokenKind
simple_or at None = λ bs. Err (BadChar at)
simple_or at (Some k) = λ bs. Ok (k, bs)

-- the token of a word that stands at the place `here`, behind a `$` at the place `at`
abbrev pub simple_word : ℕ → ℕ → Text → Reader TokenKind
simple_word at here word rest = if is_reserved word then Err (ReservedWord here) else simple_or at (simple_kind (keyword_of word) word) rest

-- the same, where the word's first byte is known
abbrev pub simple_by : ℕ → Option ℕ → Text → Outcome TokenKind
simple_by at None bs = Err (BadChar at)
simple_by at (Some b) bs = if is_in byte.Initial b then simple_word at (length bs) (b ∷ run byte.Simple (next bs)) (past_run byte.Simple (next bs)) else Err (BadChar at)

-- the name or `this` behind a `$`
unfoldable pub simple : ℕ → Reader TokenKind
simple at bs = simple_by at (first bs) bs

-- ---- pieces of strings, behind the tokens that were found

-- q and l are the string's quote and its place, `from` is where the piece begins, and f says that it is the first; m bounds the names behind `$`
abbrev pub segment_from : ℕ → ℕ → ℕ → ℕ → Bool → ℕ → List Token → Reader (List Token × Bool)
segment_from n q l zero f from found = λ bs. Err (UnclosedString l)
segment_from n q l (suc m) f from found = λ bs. and_then (raw q l bs) (λ u mid.
    if is_first q mid then Ok ((found ++ token (piece f true u) (span n from (length (next mid))) ∷ [], true), next mid)
    else (if is_first 123 (next mid) then Ok ((found ++ token (piece f false u) (span n from (length (next (next mid)))) ∷ [], false), next (next mid))
    else and_then (simple (length mid) (next mid)) (λ k after.
    segment_from n q l m false (length after) ((found ++ token (piece f false u) (span n from (length (next mid))) ∷ []) ++ token k (span n (length (next mid)) (length after)) ∷ []) after)))

-- tokens up to the end of the string, which the flag tells, or to its next `${`; n is the length of the whole text
unfoldable pub segment : ℕ → ℕ → ℕ → Bool → ℕ → List Token → Reader (List Token × Bool)
segment n q l f from found bs = segment_from n q l (length bs) f from found bs

-- ---- one piece

-- what is open, the innermost first, and the tokens found
abbrev pub State : Type 0
State = List Open × List Token

-- what is unclosed where a comment has no end: the comment, or the string at the place l, whose line ends in it
abbrev pub fault_of : Option ℕ → ℕ → Text → Fault
fault_of None at rest = UnclosedComment at
fault_of (Some l) at [] = UnclosedComment at
fault_of (Some l) at (b ∷ bs) = UnclosedString l

-- behind a comment, which gives no token
abbrev pub comment_by : List Open → List Token → ℕ → Result Text Text → Outcome State
comment_by o found at (Ok rest) = Ok ((o, found), rest)
comment_by o found at (Err rest) = Err (fault_of (inside o) at rest)

-- behind a slash
unfoldable pub slash : List Open → List Token → Reader State
slash o found bs =
    if is_first 47 bs then Ok ((o, found), past_run byte.InLine (next bs))
    else (if is_first 42 bs then comment_by o found (suc (length bs)) (past (fits_line (inside o)) 0 false (next bs)) else Err (BadChar (suc (length bs))))

-- a keyword or name, behind its first byte b
unfoldable pub word : ℕ → List Open → List Token → ℕ → Reader State
word n o found b bs =
    if is_reserved (b ∷ run byte.Part bs) then Err (ReservedWord (suc (length bs)))
    else Ok ((o, found ++ token (word_kind (keyword_of (b ∷ run byte.Part bs)) (b ∷ run byte.Part bs)) (span n (suc (length bs)) (length (past_run byte.Part bs))) ∷ []), past_run byte.Part bs)

-- behind a quote
unfoldable pub string : ℕ → List Open → List Token → ℕ → Reader State
string n o found q bs = and_then (segment n q (suc (length bs)) true (suc (length bs)) found bs)
    (λ p rest. Ok ((if p.1 then o else open_.Text q (suc (length bs)) ∷ o, p.0), rest))

-- behind a closing brace
unfoldable pub closing : ℕ → List Open → List Token → Reader State
closing n [] found bs = Ok (([], found ++ token (tk.Sign s.BraceClose) (span n (suc (length bs)) (length bs)) ∷ []), bs)
closing n (open_.Brace outer ∷ o) found bs = Ok ((o, found ++ token (tk.Sign s.BraceClose) (span n (suc (length bs)) (length bs)) ∷ []), bs)
closing n (open_.Text q l ∷ o) found bs = and_then (segment n q l false (suc (length bs)) found bs) (λ p rest. Ok ((if p.1 then o else open_.Text q l ∷ o, p.0), rest))

-- a line's end, which no interpolation may have
abbrev pub line_end_by : Option ℕ → List Open → List Token → Reader State
line_end_by None o found = λ bs. Ok ((o, found), bs)
line_end_by (Some l) o found = λ bs. Err (UnclosedString l)

-- the token of the sign that was found
abbrev pub sign_by : ℕ → List Open → List Token → Text → Option (Sign × Text) → Outcome State
sign_by n o found bs None = Err (BadChar (length bs))
sign_by n o found bs (Some p) = Ok ((o, found ++ token (tk.Sign p.0) (span n (length bs) (length p.1)) ∷ []), p.1)

-- the token of an integer that begins at the place `at`, or the fault of one that is too wide
abbrev pub number_by : ℕ → List Open → List Token → ℕ → Text → Option TokenKind → Outcome State
number_by n o found at rest None = Err (WideInteger at)
number_by n o found at rest (Some k) = Ok ((o, found ++ token k (span n at (length rest)) ∷ []), rest)

-- behind `0x`, which stands at the place `at`
unfoldable pub hex_number : ℕ → List Open → List Token → ℕ → Reader State
hex_number n o found at bs =
    if length (run byte.Hex bs) == 0 then Err (BadChar at) else number_by n o found at (past_run byte.Hex bs) (hex_kind (value 16 (run byte.Hex bs)))

-- behind the first digit
unfoldable pub number : ℕ → List Open → List Token → ℕ → Reader State
number n o found b bs =
    if is_hex b bs then hex_number n o found (suc (length bs)) (next bs)
    else number_by n o found (suc (length bs)) (past_run byte.Digit bs) (decimal_kind (value 10 (b ∷ run byte.Digit bs)))

-- behind a byte that begins a piece and no sign
abbrev pub piece_by : ℕ → List Open → List Token → ℕ → Reader State
piece_by n o found b bs =
    if is_in byte.Space b then Ok ((o, found), bs)
    else (if is_in byte.LineEnd b then line_end_by (inside o) o found bs
    else (if b == 47 then slash o found bs
    else (if is_in byte.Start b then word n o found b bs
    else (if is_quote b then string n o found b bs
    else (if is_in byte.Digit b then number n o found b bs
    else (if b == 123 then Ok ((open_.Brace (inside o) ∷ o, found ++ token (tk.Sign s.BraceOpen) (span n (suc (length bs)) (length bs)) ∷ []), bs)
    else closing n o found bs))))))

-- one piece, where the next byte is known; at the end nothing is taken
abbrev pub step_by : ℕ → List Open → List Token → Option ℕ → Text → Outcome State
step_by n o found None bs = Ok ((o, found), bs)
step_by n o found (Some b) bs = if begins b then piece_by n o found b (next bs) else sign_by n o found bs (sign_in signs bs)

-- one piece: a space, a comment, or the text of tokens; n is the length of the whole text
unfoldable pub step : ℕ → List Open → List Token → Reader State
step n o found bs = step_by n o found (first bs) bs

-- ---- the whole text

-- the list with its end token, unless a string is open
abbrev pub finish_by : Option ℕ → ℕ → List Token → Result (List Token) Fault
finish_by None n found = Ok (found ++ token tk.End (span n 0 0) ∷ [])
finish_by (Some l) n found = Err (UnclosedString l)

-- the same as `and_then`, where no text is left over
abbrev pub go_on : {A B : Type 0} → Outcome A → (A → Text → Result B Fault) → Result B Fault
go_on (Ok p) f = f p.0 p.1
go_on (Err e) f = Err e

-- pieces up to the end, at most m of them
abbrev pub lex_from : ℕ → ℕ → List Open → List Token → Text → Result (List Token) Fault
lex_from n zero o found bs = finish_by (inside o) n found
lex_from n (suc m) o found bs = if length bs == 0 then finish_by (inside o) n found else go_on (step n o found bs) (λ p rest. lex_from n m p.0 p.1 rest)

-- the tokens of a text, or its first fault
unfoldable pub lex : Text → Result (List Token) Fault
lex text = lex_from (length text) (length text) [] [] text

-- What expressions begin with.
use Rattle.std.specs.Prelude.{Bool, true, false, not, ◌&&◌, ◌||◌, Option, Some, None}
use Rattle.dart_syntax.specs.declared.token.TokenKind.{TokenKind}
use Rattle.dart_syntax.specs.declared.token.TokenKind.TheVariants as tk
use Rattle.dart_syntax.specs.declared.token.Sign.{Sign}
use Rattle.dart_syntax.specs.declared.token.Sign.TheVariants as s
use Rattle.dart_syntax.specs.declared.token.Keyword.{Keyword}
use Rattle.dart_syntax.specs.declared.token.Keyword.TheVariants as k

-- what an expression may begin with
abbrev pub keyword_starts : Keyword → Bool
keyword_starts k.Null = true
keyword_starts k.True = true
keyword_starts k.False = true
keyword_starts k.This = true
keyword_starts k.Super = true
keyword_starts k.Throw = true
keyword_starts _ = false

-- the word that begins a `throw`
abbrev pub is_throw : TokenKind → Bool
is_throw (tk.Keyword k.Throw) = true
is_throw _ = false

-- the signs that an expression may begin with
abbrev pub sign_starts : Sign → Bool
sign_starts s.ParenOpen = true
sign_starts s.BracketOpen = true
sign_starts s.Minus = true
sign_starts s.Not = true
sign_starts s.Tilde = true
sign_starts s.Increment = true
sign_starts s.Decrement = true
sign_starts _ = false

-- the tokens that an expression may begin with; the least integer needs a minus before it
abbrev pub kind_starts : TokenKind → Bool
kind_starts (tk.Name n) = true
kind_starts (tk.Int n) = true
kind_starts (tk.Str u) = true
kind_starts (tk.StrOpen u) = true
kind_starts (tk.Keyword w) = keyword_starts w
kind_starts (tk.Sign c) = sign_starts c
kind_starts _ = false

-- whether an expression may begin with the next token
abbrev pub begins : Option TokenKind → Bool
begins None = false
begins (Some c) = kind_starts c

-- whether the next token is the word `throw`
abbrev pub throws : Option TokenKind → Bool
throws (Some (tk.Keyword k.Throw)) = true
throws _ = false

-- whether the next token is 2 ^ 63, which stands only behind a minus
abbrev pub is_least : Option TokenKind → Bool
is_least (Some tk.MinInt) = true
is_least _ = false

-- what stands under a sign begins with
abbrev pub begins_under : Option TokenKind → Bool
begins_under c = is_least c || (begins c && not (throws c))

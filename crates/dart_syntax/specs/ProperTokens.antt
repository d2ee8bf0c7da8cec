-- What every token list has.
use Rattle.std.specs.Prelude.{◌≡◌, ℕ, ◌+◌, ◌≤◌, true, List, [], ◌∷◌, ◌++◌, length}
use Rattle.std.specs.List.{All}
use Rattle.dart_syntax.specs.declared.token.Span.{Span}
use Rattle.dart_syntax.specs.declared.token.Token.{Token}
use Rattle.dart_syntax.specs.declared.token.TokenKind.{TokenKind}
use Rattle.dart_syntax.specs.declared.token.TokenKind.TheVariants as tk
use Rattle.dart_syntax.specs.Names.{is_name}
use Rattle.dart_syntax.specs.Words.{token}

-- the text of a name is a name, and it is no end token
abbrev pub IsProperKind : TokenKind → Type 0
IsProperKind (tk.Name text) = is_name text ≡ true
IsProperKind tk.End = ⊥
IsProperKind _ = Unit {0}

-- a token of a text of n bytes, other than its end token
pub record IsProper (n : ℕ) (t : Token) : Type 0 where
  pub ordered : t.span.start ≤ t.span.end
  pub within : t.span.end ≤ n
  pub kind : IsProperKind t.kind

-- Such tokens and an end token behind them, not more than the text has bytes and one.
pub record ProperTokens (n : ℕ) (ts : List Token) : Type 0 where
  pub found : List Token
  pub at : Span
  pub is : ts ≡ found ++ token tk.End at ∷ []
  pub short : length ts ≤ n + 1
  pub all : All (IsProper n) found

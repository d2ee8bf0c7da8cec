-- Tokens by what they are.
use Rattle.std.specs.Prelude.{List}
use Rattle.dart_syntax.specs.declared.token.Span.{Span}
use Rattle.dart_syntax.specs.declared.token.Token.{Token}
use Rattle.dart_syntax.specs.declared.token.TokenKind.{TokenKind}
use Rattle.dart_syntax.specs.declared.token.TokenKind.TheVariants as kind
use Rattle.dart_syntax.specs.declared.token.Sign.{Sign}
use Rattle.dart_syntax.specs.declared.token.Keyword.{Keyword}

-- the tokens of a text, or those that are left of it
abbrev pub Tokens : Type 0
Tokens = List Token

-- a token of this kind at a place
abbrev pub token : TokenKind → Span → Token
token k at = record { kind = k; span = at }

abbrev pub sign : Sign → Span → Token
sign s at = token (kind.Sign s) at

abbrev pub keyword : Keyword → Span → Token
keyword k at = token (kind.Keyword k) at

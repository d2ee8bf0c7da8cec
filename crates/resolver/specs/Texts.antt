-- The tree of a text.
use Rattle.std.specs.Prelude.{List}
use Rattle.dart_syntax.specs.declared.token.Token.{Token}
use Rattle.dart_syntax.specs.Bytes.{Text}
use Rattle.dart_syntax.specs.Tokens.{TokenList}
use Rattle.dart_syntax.specs.Syntax.{Tree}
use Rattle.dart_syntax.specs.Derivation.{Derives}

-- The tokens of the text derive the tree.
abbrev pub IsTextOf : Text → Tree → Type 0
IsTextOf text tree = (list : List Token) × TokenList text list × Derives list tree

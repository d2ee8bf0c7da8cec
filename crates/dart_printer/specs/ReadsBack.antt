-- What it means that the text of a tree reads back.
use Rattle.std.specs.Prelude.{◌≡◌, ℕ, pos, negsuc, ◌<◌, ◌^◌, true, List}
use Rattle.std.specs.List.{AllByRecursion}
use Rattle.dart_syntax.specs.declared.token.TokenKind.{TokenKind}
use Rattle.dart_syntax.specs.declared.token.TokenKind.TheVariants as tk
use Rattle.dart_syntax.specs.Words.{Tokens}
use Rattle.dart_syntax.specs.Bytes.{Text}
use Rattle.dart_syntax.specs.Names.{is_name}
use Rattle.dart_syntax.specs.Tokens.{TokenList}
use Rattle.dart_syntax.specs.Syntax.{Tree}
use Rattle.dart_syntax.specs.Derivation.{Derives}
use Rattle.dart_printer.specs.Spans.{without_spans}

-- UTF-16 code units
abbrev pub AreUnits : List ℕ → Type 0
AreUnits = AllByRecursion (λ u. u < 2 ^ 16)

-- What every token has: the text of a name is a name, strings have units of 16 bits, and integers have 64 bits.
abbrev pub IsPossible : TokenKind → Type 0
IsPossible (tk.Name text) = is_name text ≡ true
IsPossible (tk.Int (pos n)) = n < 2 ^ 63
IsPossible (tk.Int (negsuc n)) = n < 2 ^ 63
IsPossible (tk.Str units) = AreUnits units
IsPossible (tk.StrOpen units) = AreUnits units
IsPossible (tk.StrMid units) = AreUnits units
IsPossible (tk.StrClose units) = AreUnits units
IsPossible _ = Unit {0}

-- all tokens of a list are such
abbrev pub ArePossible : Tokens → Type 0
ArePossible = AllByRecursion (λ t. IsPossible t.kind)

-- The text has a token list, and that list derives the tree again, spans aside.
pub record ReadsBack (text : Text) (t : Tree) : Type 0 where
  pub list : Tokens
  pub tokens : TokenList text list
  pub again : Tree
  pub derives : Derives list again
  pub same : without_spans again ≡ without_spans t

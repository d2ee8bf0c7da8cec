-- Keywords, reserved words and names.
use Rattle.std.specs.Prelude.{Bool, false, not, ◌&&◌, if◌then◌else◌, List, [], ◌∷◌, is_none, Option, Some, None, codes}
use Rattle.std.specs.List.{list_all, list_any}
use Rattle.std.specs.Str.{bytes_eq}
use Rattle.dart_syntax.specs.declared.token.TokenKind.{TokenKind}
use Rattle.dart_syntax.specs.declared.token.TokenKind.TheVariants as tk
use Rattle.dart_syntax.specs.declared.token.Keyword.{Keyword}
use Rattle.dart_syntax.specs.declared.token.Keyword.TheVariants as k
use Rattle.dart_syntax.specs.declared.byte_kind.ByteKind.TheVariants as byte
use Rattle.dart_syntax.specs.Bytes.{Text, is_in}

-- what a table has for a word
abbrev pub lookup : {A : Type 0} → List (Text × A) → Text → Option A
lookup [] word = None
lookup (k ∷ ks) word = if bytes_eq k.0 word then Some k.1 else lookup ks word

-- the keywords of the language
abbrev pub keywords : List (Text × Keyword)
keywords =
    (codes "abstract", k.Abstract) ∷
    (codes "break", k.Break) ∷
    (codes "class", k.Class) ∷
    (codes "continue", k.Continue) ∷
    (codes "do", k.Do) ∷
    (codes "dynamic", k.Dynamic) ∷
    (codes "else", k.Else) ∷
    (codes "extends", k.Extends) ∷
    (codes "false", k.False) ∷
    (codes "final", k.Final) ∷
    (codes "for", k.For) ∷
    (codes "get", k.Get) ∷
    (codes "if", k.If) ∷
    (codes "implements", k.Implements) ∷
    (codes "is", k.Is) ∷
    (codes "null", k.Null) ∷
    (codes "operator", k.Operator) ∷
    (codes "return", k.Return) ∷
    (codes "set", k.Set) ∷
    (codes "super", k.Super) ∷
    (codes "this", k.This) ∷
    (codes "throw", k.Throw) ∷
    (codes "true", k.True) ∷
    (codes "var", k.Var) ∷
    (codes "void", k.Void) ∷
    (codes "while", k.While) ∷ []

-- the words of Dart that are neither names nor keywords here: no source has them
abbrev pub reserved_words : List Text
reserved_words =
    codes "assert" ∷
    codes "case" ∷
    codes "catch" ∷
    codes "const" ∷
    codes "default" ∷
    codes "enum" ∷
    codes "finally" ∷
    codes "in" ∷
    codes "new" ∷
    codes "rethrow" ∷
    codes "switch" ∷
    codes "try" ∷
    codes "with" ∷ []

-- the keyword that a word is
unfoldable pub keyword_of : Text → Option Keyword
keyword_of = lookup keywords

-- a word that no source may have
unfoldable pub is_reserved : Text → Bool
is_reserved word = list_any (λ r. bytes_eq r word) reserved_words

-- the token of a word that is not reserved
abbrev pub word_kind : Option Keyword → Text → TokenKind
word_kind None word = tk.Name word
word_kind (Some k) word = tk.Keyword k

-- the same behind a `$` in a string, where `this` is the only keyword
abbrev pub simple_kind : Option Keyword → Text → Option TokenKind
simple_kind None word = Some (tk.Name word)
simple_kind (Some k.This) word = Some (tk.Keyword k.This)
simple_kind (Some _) word = None

-- a word that is neither a keyword nor reserved
abbrev pub is_name : Text → Bool
is_name [] = false
is_name (b ∷ bs) = is_in byte.Start b && list_all (is_in byte.Part) bs && is_none (keyword_of (b ∷ bs)) && not (is_reserved (b ∷ bs))

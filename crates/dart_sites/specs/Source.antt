-- Which bytes are a source, and with which line others are refused.
use Rattle.std.specs.Prelude.{◌≡◌, ℕ, Bool, true, false, List, ◌++◌, codes, Option, Some, None}
use Rattle.dart_syntax.specs.declared.token.Token.{Token}
use Rattle.dart_syntax.specs.Tokens.{TokenList}
use Rattle.dart_syntax.specs.Syntax.{Tree}
use Rattle.dart_syntax.specs.Derivation.{Derives}
use Rattle.dart_lexer.specs.declared.error.LexError.{LexError}
use Rattle.dart_lexer.specs.declared.error.LexError.TheVariants as error
use Rattle.dart_lexer.specs.FirstFault.{Refused}
use Rattle.dart_sites.specs.Places.{place_text}
use Rattle.dart_sites.specs.declared.source.Refusal.{Refusal}
use Rattle.dart_sites.specs.declared.source.RefusalKind.{RefusalKind}
use Rattle.dart_sites.specs.declared.source.RefusalKind.TheVariants as kind
use Rattle.dart_sites.specs.declared.source.Read.{Read}
use Rattle.dart_sites.specs.declared.source.Read.TheVariants as read
use Rattle.dart_syntax.specs.View.{unit}

-- the bytes have a token list, and that list has this tree
pub record IsSource (input : List ℕ) (t : Tree) : Type 0 where
  pub list : List Token
  pub tokens : TokenList input list
  pub derives : Derives list t

-- the bytes have no token list, or that list has no tree
abbrev pub NoTree : List ℕ → Type 0
NoTree input = (t : Tree) → IsSource input t → ⊥

-- ---- refusals

abbrev pub kind_name : RefusalKind → List ℕ
kind_name kind.NotUtf8 = codes "NotUtf8"
kind_name kind.BadChar = codes "BadChar"
kind_name kind.UnclosedString = codes "UnclosedString"
kind_name kind.UnclosedComment = codes "UnclosedComment"
kind_name kind.WideInteger = codes "WideInteger"
kind_name kind.ReservedWord = codes "ReservedWord"
kind_name kind.Syntax = codes "Syntax"
kind_name kind.TooDeep = codes "TooDeep"

abbrev pub refused_at : RefusalKind → ℕ → Option Refusal
refused_at k at = Some (record { kind = k; at = at })

-- the refusal of a text that has no token list
abbrev pub refusal_of : LexError → Option Refusal
refusal_of error.NoMemory = None
refusal_of (error.NotUtf8 at) = refused_at kind.NotUtf8 at
refusal_of (error.BadChar at) = refused_at kind.BadChar at
refusal_of (error.UnclosedString at) = refused_at kind.UnclosedString at
refusal_of (error.UnclosedComment at) = refused_at kind.UnclosedComment at
refusal_of (error.WideInteger at) = refused_at kind.WideInteger at
refusal_of (error.ReservedWord at) = refused_at kind.ReservedWord at

-- the kinds of refusal of a token list that has no tree
abbrev pub is_of_grammar : RefusalKind → Bool
is_of_grammar kind.Syntax = true
is_of_grammar kind.TooDeep = true
is_of_grammar _ = false

-- Why bytes are no source. Which token of a list is at fault is not said here.
pub data IsRefused (input : List ℕ) (r : Refusal) : Type 0 where
  no_list : {e : LexError} → Refused input e → refusal_of e ≡ Some r → IsRefused input r
  no_tree : {list : List Token} → TokenList input list → ((t : Tree) → Derives list t → ⊥) → is_of_grammar r.kind ≡ true → IsRefused input r

-- refused: KIND at LINE:COL
abbrev pub refusal_line : List ℕ → Refusal → List ℕ
refusal_line input r = codes "refused: " ++ kind_name r.kind ++ codes " at " ++ place_text input r.at ++ codes "\n"

-- ---- what reading the bytes says

-- the bytes have this tree and no other
pub record IsTreeOf (input : List ℕ) (t : Tree) : Type 0 where
  pub source : IsSource input t
  pub only : (u : Tree) → IsSource input u → t ≡ u

abbrev pub ReadSays : List ℕ → Read → Type 0
ReadSays input (read.Tree t) = IsTreeOf input (unit t)
ReadSays input (read.Refused r) = NoTree input × IsRefused input r
ReadSays input read.NoMemory = Unit {0}

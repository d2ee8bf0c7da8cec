-- The grammar of declarations.
use Rattle.std.specs.Prelude.{◌≡◌, ℕ, ℤ, Bool, true, false, not, ◌||◌, ◌&&◌, ◌==◌, List, [], ◌∷◌, length, Option, Some, None, codes}
use Rattle.dart_syntax.specs.declared.token.Span.{Span}
use Rattle.dart_syntax.specs.declared.token.Sign.{Sign}
use Rattle.dart_syntax.specs.declared.token.Sign.TheVariants as s
use Rattle.dart_syntax.specs.declared.token.Keyword.{Keyword}
use Rattle.dart_syntax.specs.declared.token.Keyword.TheVariants as k
use Rattle.dart_syntax.specs.declared.token.TokenKind.TheVariants as kind
use Rattle.dart_syntax.specs.declared.tree.Name.{Name}
use Rattle.dart_syntax.specs.declared.tree.Unary.TheVariants as u
use Rattle.dart_syntax.specs.Syntax as tree
use Rattle.dart_syntax.specs.Syntax.{Exp, Sta, Local, Stas, exps, stas, Passed, passing, a_local, Param, Body, Member, Top, a_param, function_of, class_of}
use Rattle.dart_syntax.specs.Words.{Tokens, token, sign, keyword}
use Rattle.dart_syntax.specs.Operators.{named}
use Rattle.dart_syntax.specs.Grammar.{Reading, Many, Args, is_var, ExprWithin, StmtWithin}
use Rattle.dart_syntax.specs.declared.tree.Operator.{Operator}
use Rattle.dart_syntax.specs.declared.tree.Operator.TheVariants as op

-- ---- texts

-- whether two texts are equal, byte for byte
abbrev pub same_text : List ℕ → List ℕ → Bool
same_text [] [] = true
same_text [] (y ∷ ys) = false
same_text (x ∷ xs) [] = false
same_text (x ∷ xs) (y ∷ ys) = x == y && same_text xs ys

-- whether this is what a `@pragma` of an entry point says
abbrev pub marks_entry : List ℕ → Bool
marks_entry u = same_text u (codes "vm:entry-point")

-- whether one of them holds
abbrev pub any : List Bool → Bool
any [] = false
any (x ∷ xs) = x || any xs

-- ---- parts

-- the values of fields and top-level variables
pub data Literal : Tokens → Exp → Tokens → Type 0 where
  null : {at : Span} {rest : Tokens} → Literal (keyword k.Null at ∷ rest) (tree.null at) rest
  yes : {at : Span} {rest : Tokens} → Literal (keyword k.True at ∷ rest) (tree.bool true at) rest
  no : {at : Span} {rest : Tokens} → Literal (keyword k.False at ∷ rest) (tree.bool false at) rest
  int : {n : ℤ} {at : Span} {rest : Tokens} → Literal (token (kind.Int n) at ∷ rest) (tree.int n at) rest
  str : {v : List ℕ} {at : Span} {rest : Tokens} → Literal (token (kind.Str v) at ∷ rest) (tree.str v at) rest
  minus : {n : ℤ} {a b : Span} {rest : Tokens} → Literal (sign s.Minus a ∷ token (kind.Int n) b ∷ rest) (tree.unary u.Minus a (tree.int n b)) rest
  least : {a b : Span} {rest : Tokens} → Literal (sign s.Minus a ∷ token kind.MinInt b ∷ rest) (tree.unary u.Minus a (tree.min_int b)) rest

-- what follows a variable's name, up to and with the `;`
pub data Value : Tokens → Option Exp → Tokens → Type 0 where
  none : {a : Span} {rest : Tokens} → Value (sign s.Semicolon a ∷ rest) None rest
  some : {a b : Span} {x : Exp} {ts rest : Tokens} → Literal ts x (sign s.Semicolon b ∷ rest) → Value (sign s.Assign a ∷ ts) (Some x) rest

-- An item of a list: a comma follows it, or the closing sign, which stays. So a last comma may stand or not.
pub data Listed {A : Type 0} (close : Sign) (R : Reading A) : Tokens → A → Tokens → Type 0 where
  comma : {a : Span} {x : A} {ts rest : Tokens} → R ts x (sign s.Comma a ∷ rest) → Listed close R ts x rest
  last : {a : Span} {x : A} {ts rest : Tokens} → R ts x (sign close a ∷ rest) → Listed close R ts x (sign close a ∷ rest)

-- a parameter, of a constructor where the flag says so
pub data ParamText : Bool → Tokens → Param → Tokens → Type 0 where
  plain : {c : Bool} {n : List ℕ} {a : Span} {rest : Tokens} → ParamText c (token (kind.Name n) a ∷ rest) (a_param false false (named n a)) rest
  typed : {c : Bool} {w : Keyword} {n : List ℕ} {a b : Span} {rest : Tokens} → is_var w ≡ true → ParamText c (keyword w a ∷ token (kind.Name n) b ∷ rest) (a_param false false (named n b)) rest
  final : {c : Bool} {n : List ℕ} {a b : Span} {rest : Tokens} → ParamText c (keyword k.Final a ∷ token (kind.Name n) b ∷ rest) (a_param true false (named n b)) rest
  -- of a constructor alone
  field : {n : List ℕ} {a b c : Span} {rest : Tokens} → ParamText true (keyword k.This a ∷ sign s.Dot b ∷ token (kind.Name n) c ∷ rest) (a_param false true (named n c)) rest

-- up to and with the `)`
pub data Params (c : Bool) : Tokens → List Param → Tokens → Type 0 where
  params : {a : Span} {xs : List Param} {ts rest : Tokens} → Many (Listed s.ParenClose (ParamText c)) ts xs (sign s.ParenClose a ∷ rest) → Params c ts xs rest

-- `void` or `dynamic`
abbrev pub is_ret : Keyword → Bool
is_ret k.Void = true
is_ret k.Dynamic = true
is_ret _ = false

-- whether a word stands before a declaration
pub data Ret : Tokens → Bool → Tokens → Type 0 where
  none : {ts : Tokens} → Ret ts false ts
  some : {w : Keyword} {a : Span} {rest : Tokens} → is_ret w ≡ true → Ret (keyword w a ∷ rest) true rest

-- an `@` word before a declaration, and whether it marks an entry
pub data Meta : Tokens → Bool → Tokens → Type 0 where
  override : {a b : Span} {rest : Tokens} → Meta (sign s.At a ∷ token (kind.Name (codes "override")) b ∷ rest) false rest
  pragma : {v : List ℕ} {a b c d m : Span} {rest : Tokens}
      → Meta (sign s.At a ∷ token (kind.Name (codes "pragma")) b ∷ sign s.ParenOpen c ∷ token (kind.Str v) d ∷ sign s.ParenClose m ∷ rest) (marks_entry v) rest

-- ---- operators

-- the operator that a class may declare by a sign; `[]` and `[]=` have more signs
abbrev pub operator_of : Sign → Option Operator
operator_of s.Plus = Some op.Add
operator_of s.Minus = Some op.Subtract
operator_of s.Star = Some op.Multiply
operator_of s.Divide = Some op.Divide
operator_of s.Percent = Some op.Remainder
operator_of s.Ampersand = Some op.BitAnd
operator_of s.Bar = Some op.BitOr
operator_of s.Caret = Some op.BitXor
operator_of s.ShiftLeft = Some op.ShiftLeft
operator_of s.ShiftRight = Some op.ShiftRight
operator_of s.ShiftUnsigned = Some op.ShiftUnsigned
operator_of s.Less = Some op.Less
operator_of s.LessEqual = Some op.LessEqual
operator_of s.Greater = Some op.Greater
operator_of s.GreaterEqual = Some op.GreaterEqual
operator_of s.Equal = Some op.Equal
operator_of s.Tilde = Some op.Complement
operator_of _ = None

-- the name of an operator behind the word `operator`, at the place of its first sign
pub data OperatorText : Tokens → Operator → Span → Tokens → Type 0 where
  one : {c : Sign} {o : Operator} {a : Span} {rest : Tokens} → operator_of c ≡ Some o → OperatorText (sign c a ∷ rest) o a rest
  get : {a b c : Span} {rest : Tokens} → OperatorText (sign s.BracketOpen a ∷ sign s.BracketClose b ∷ sign s.ParenOpen c ∷ rest) op.Get a (sign s.ParenOpen c ∷ rest)
  set : {a b c : Span} {rest : Tokens} → OperatorText (sign s.BracketOpen a ∷ sign s.BracketClose b ∷ sign s.Assign c ∷ rest) op.Set a rest

-- how many parameters an operator may have
abbrev pub takes : Operator → ℕ → Bool
takes op.Set n = n == 2
takes op.Complement n = n == 0
takes op.Subtract n = n == 0 || n == 1
takes _ n = n == 1

-- what begins a field: whether it is final, or None for another word
abbrev pub final_or_var : Keyword → Option Bool
final_or_var k.Final = Some true
final_or_var k.Var = Some false
final_or_var k.Dynamic = Some false
final_or_var _ = None

-- `extends` and a name, or nothing
pub data Parent : Tokens → Option Name → Tokens → Type 0 where
  none : {ts : Tokens} → Parent ts None ts
  some : {n : List ℕ} {a b : Span} {rest : Tokens} → Parent (keyword k.Extends a ∷ token (kind.Name n) b ∷ rest) (Some (named n b)) rest

-- a name behind a comma
pub data CommaName : Tokens → Name → Tokens → Type 0 where
  name : {n : List ℕ} {a b : Span} {rest : Tokens} → CommaName (sign s.Comma a ∷ token (kind.Name n) b ∷ rest) (named n b) rest

-- `implements` and names, or nothing
pub data Interfaces : Tokens → List Name → Tokens → Type 0 where
  none : {ts : Tokens} → Interfaces ts [] ts
  some : {n : List ℕ} {a b : Span} {xs : List Name} {ts rest : Tokens} → Many CommaName ts xs rest → Interfaces (keyword k.Implements a ∷ token (kind.Name n) b ∷ ts) (named n b ∷ xs) rest

-- behind any number of metas, whose marks don't matter here
pub data Marked {A : Type 0} (R : Reading A) : Tokens → A → Tokens → Type 0 where
  marked : {bs : List Bool} {x : A} {ts us rest : Tokens} → Many Meta ts bs us → R us x rest → Marked R ts x rest

-- ---- bodies

module _ (Inner : Reading Sta) (Whole : Reading Exp) where
  -- statements in braces
  pub data Block : Tokens → Stas → Tokens → Type 0 where
    block : {a b : Span} {xs : List Sta} {ts rest : Tokens} → Many Inner ts xs (sign s.BraceClose b ∷ rest) → Block (sign s.BraceOpen a ∷ ts) (stas xs) rest

  -- an arrow with its `;`, or a block
  pub data BodyText : Tokens → Body → Tokens → Type 0 where
    arrow : {a b : Span} {x : Exp} {ts rest : Tokens} → Whole ts x (sign s.Semicolon b ∷ rest) → BodyText (sign s.Arrow a ∷ ts) (tree.arrow x) rest
    code : {b : Stas} {ts rest : Tokens} → Block ts b rest → BodyText ts (tree.code b) rest

  -- or a `;`
  pub data SomeBody : Tokens → Option Body → Tokens → Type 0 where
    none : {a : Span} {rest : Tokens} → SomeBody (sign s.Semicolon a ∷ rest) None rest
    some : {b : Body} {ts rest : Tokens} → BodyText ts b rest → SomeBody ts (Some b) rest

  -- a block or a `;`
  pub data SomeBlock : Tokens → Option Stas → Tokens → Type 0 where
    none : {a : Span} {rest : Tokens} → SomeBlock (sign s.Semicolon a ∷ rest) None rest
    some : {b : Stas} {ts rest : Tokens} → Block ts b rest → SomeBlock ts (Some b) rest

  -- what follows a constructor's parameters: what it passes to its superclass, and its body
  pub data Rest : Tokens → Option Passed → Option Stas → Tokens → Type 0 where
    plain : {b : Option Stas} {ts rest : Tokens} → SomeBlock ts b rest → Rest ts None b rest
    passes : {a b c : Span} {xs : List Exp} {y : Option Stas} {ts us rest : Tokens} → Args Whole s.ParenClose ts xs us → SomeBlock us y rest
        → Rest (sign s.Colon a ∷ keyword k.Super b ∷ sign s.ParenOpen c ∷ ts) (Some (passing b (exps xs))) y rest

  -- A member of the class of this name. Its name before a `(`, with no word before it, is its constructor.
  pub data MemberText (class : List ℕ) : Tokens → Member → Tokens → Type 0 where
    field : {w : Keyword} {f : Bool} {n : List ℕ} {a b : Span} {v : Option Exp} {ts rest : Tokens} → final_or_var w ≡ Some f → Value ts v rest
        → MemberText class (keyword w a ∷ token (kind.Name n) b ∷ ts) (tree.field (a_local f (named n b) v)) rest
    method : {r : Bool} {n : List ℕ} {a b : Span} {ps : List Param} {y : Option Body} {ts us vs rest : Tokens}
        → Ret ts r (token (kind.Name n) a ∷ sign s.ParenOpen b ∷ us) → (r || not (same_text n class)) ≡ true → Params false us ps vs → SomeBody vs y rest
        → MemberText class ts (tree.method (named n a) ps y) rest
    getter : {r : Bool} {n : List ℕ} {a b : Span} {y : Option Body} {ts us rest : Tokens} → Ret ts r (keyword k.Get a ∷ token (kind.Name n) b ∷ us) → SomeBody us y rest
        → MemberText class ts (tree.getter (named n b) y) rest
    setter : {r : Bool} {n : List ℕ} {a b c d : Span} {p : Param} {y : Option Body} {ts us vs rest : Tokens} → Ret ts r (keyword k.Set a ∷ token (kind.Name n) b ∷ sign s.ParenOpen c ∷ us)
        → ParamText false us p (sign s.ParenClose d ∷ vs) → SomeBody vs y rest → MemberText class ts (tree.setter (named n b) p y) rest
    operator : {r : Bool} {o : Operator} {a b c : Span} {ps : List Param} {y : Option Body} {ts us vs ws rest : Tokens} → Ret ts r (keyword k.Operator a ∷ us)
        → OperatorText us o b (sign s.ParenOpen c ∷ vs) → Params false vs ps ws → takes o (length ps) ≡ true → SomeBody ws y rest → MemberText class ts (tree.operator o b ps y) rest
    constructor : {n : List ℕ} {a b : Span} {ps : List Param} {xs : Option Passed} {y : Option Stas} {ts us rest : Tokens} → same_text n class ≡ true → Params true ts ps us → Rest us xs y rest
        → MemberText class (token (kind.Name n) a ∷ sign s.ParenOpen b ∷ ts) (tree.constructor (named n a) ps xs y) rest

  -- behind `class`
  pub data ClassText (is_abstract : Bool) : Tokens → tree.ClassDecl → Tokens → Type 0 where
    class : {n : List ℕ} {a b c : Span} {p : Option Name} {is : List Name} {ms : List Member} {ts us vs rest : Tokens} → Parent ts p us → Interfaces us is (sign s.BraceOpen b ∷ vs)
        → Many (Marked (MemberText n)) vs ms (sign s.BraceClose c ∷ rest) → ClassText is_abstract (token (kind.Name n) a ∷ ts) (class_of is_abstract (named n a) p is ms) rest

  -- a declaration, and whether its metas mark an entry
  pub data Declared : Bool → Tokens → Top → Tokens → Type 0 where
    class : {e : Bool} {a : Span} {c : tree.ClassDecl} {ts rest : Tokens} → ClassText false ts c rest → Declared e (keyword k.Class a ∷ ts) (tree.a_class c) rest
    abstract : {e : Bool} {a b : Span} {c : tree.ClassDecl} {ts rest : Tokens} → ClassText true ts c rest → Declared e (keyword k.Abstract a ∷ keyword k.Class b ∷ ts) (tree.a_class c) rest
    variable : {e : Bool} {w : Keyword} {n : List ℕ} {a b : Span} {v : Option Exp} {ts rest : Tokens} → is_var w ≡ true → Value ts v rest
        → Declared e (keyword w a ∷ token (kind.Name n) b ∷ ts) (tree.a_variable (a_local false (named n b) v)) rest
    final : {e : Bool} {n : List ℕ} {a b c d : Span} {x : Exp} {ts rest : Tokens} → Literal ts x (sign s.Semicolon d ∷ rest)
        → Declared e (keyword k.Final a ∷ token (kind.Name n) b ∷ sign s.Assign c ∷ ts) (tree.a_variable (a_local true (named n b) (Some x))) rest
    function : {e r : Bool} {n : List ℕ} {a b : Span} {ps : List Param} {y : Body} {ts us vs rest : Tokens} → Ret ts r (token (kind.Name n) a ∷ sign s.ParenOpen b ∷ us)
        → Params false us ps vs → BodyText vs y rest → Declared e ts (tree.a_function (function_of e (named n a) ps y)) rest

  -- a declaration behind any number of metas
  pub data TopText : Tokens → Top → Tokens → Type 0 where
    top : {bs : List Bool} {x : Top} {ts us rest : Tokens} → Many Meta ts bs us → Declared (any bs) us x rest → TopText ts x rest

-- how many levels statements and expressions may nest
abbrev pub LEVELS : ℕ
LEVELS = 200

-- the list is the text of the tree, and an end token
unfoldable pub Derives : Tokens → tree.Tree → Type 0
Derives ts t = (at : Span) × Many (TopText (StmtWithin LEVELS) (ExprWithin LEVELS)) ts t.tops (token kind.End at ∷ [])

-- The grammar. R ts x rest says that a text of x stands at the front of ts, and that rest follows it.
use Rattle.std.specs.Prelude.{◌≡◌, ◌≢◌, ℕ, ℤ, zero, suc, Bool, true, false, not, ◌||◌, ◌==◌, ◌⊎◌, List, [], ◌∷◌, Option, Some, None}
use Rattle.dart_syntax.specs.declared.token.Span.{Span}
use Rattle.dart_syntax.specs.declared.token.Sign.{Sign}
use Rattle.dart_syntax.specs.declared.token.Sign.TheVariants as s
use Rattle.dart_syntax.specs.declared.token.Keyword.{Keyword}
use Rattle.dart_syntax.specs.declared.token.Keyword.TheVariants as k
use Rattle.dart_syntax.specs.declared.token.TokenKind.TheVariants as kind
use Rattle.dart_syntax.specs.declared.tree.Unary.{Unary as UnaryOp}
use Rattle.dart_syntax.specs.declared.tree.Binary.{Binary}
use Rattle.dart_syntax.specs.declared.tree.Step.{Step}
use Rattle.dart_syntax.specs.declared.tree.Assignment.{Assignment}
use Rattle.dart_syntax.specs.declared.tree.Link.{Link}
use Rattle.dart_syntax.specs.declared.tree.Piece.{Piece}
use Rattle.dart_syntax.specs.Syntax as tree
use Rattle.dart_syntax.specs.Syntax.{Exp, Selector, Sta, exps, pieces, links, selectors, stas, a_piece, a_link, a_local}
use Rattle.dart_syntax.specs.Words.{Tokens, token, sign, keyword}
use Rattle.dart_syntax.specs.Operators.{named, unary_of, step_of, assignment_of, binary_of, level, first_kind, may_precede}

-- a rule: which trees of a kind stand at the front of a list of tokens, and what follows
abbrev pub Reading : Type 0 → Type 1
Reading A = Tokens → A → Tokens → Type 0

-- a selector that may be assigned to: a call may not
abbrev pub written : Selector → Bool
written (tree.send n xs) = false
written _ = true

-- whether the last of some selectors may be assigned to
abbrev pub last_is_written : tree.Selectors → Bool
last_is_written tree.no_selector = false
last_is_written (tree.select x tree.no_selector) = written x
last_is_written (tree.select x (tree.select y more)) = last_is_written (tree.select y more)

-- a name, or selectors whose last is a member or an index
abbrev pub is_target : Exp → Bool
is_target (tree.bare n) = true
is_target (tree.super_get at n) = true
is_target (tree.postfix x more) = last_is_written more
is_target _ = false

-- R any number of times
pub data Many {A : Type 0} (R : Reading A) : Tokens → List A → Tokens → Type 0 where
  none : {ts : Tokens} → Many R ts [] ts
  more : {x : A} {xs : List A} {ts mid rest : Tokens} → R ts x mid → Many R mid xs rest → Many R ts (x ∷ xs) rest

-- Whole are the expressions one level deeper.
module _ (Whole : Reading Exp) where
  -- what follows the first expression of a list, up to and with the closing sign
  pub data More (close : Sign) : Tokens → List Exp → Tokens → Type 0 where
    last : {at : Span} {rest : Tokens} → More close (sign close at ∷ rest) [] rest
    comma : {a b : Span} {rest : Tokens} → More close (sign s.Comma a ∷ sign close b ∷ rest) [] rest
    more : {at : Span} {x : Exp} {xs : List Exp} {ts mid rest : Tokens} → Whole ts x mid → More close mid xs rest → More close (sign s.Comma at ∷ ts) (x ∷ xs) rest

  -- arguments or elements, up to and with the closing sign
  pub data Args (close : Sign) : Tokens → List Exp → Tokens → Type 0 where
    empty : {at : Span} {rest : Tokens} → Args close (sign close at ∷ rest) [] rest
    some : {x : Exp} {xs : List Exp} {ts mid rest : Tokens} → Whole ts x mid → More close mid xs rest → Args close ts (x ∷ xs) rest

  -- the expressions of a string, each with the piece behind it
  pub data Pieces : Tokens → List (Piece Exp) → Tokens → Type 0 where
    close : {u : List ℕ} {at : Span} {x : Exp} {ts rest : Tokens} → Whole ts x (token (kind.StrClose u) at ∷ rest) → Pieces ts (a_piece x u at ∷ []) rest
    mid : {u : List ℕ} {at : Span} {x : Exp} {xs : List (Piece Exp)} {ts us rest : Tokens} → Whole ts x (token (kind.StrMid u) at ∷ us) → Pieces us xs rest → Pieces ts (a_piece x u at ∷ xs) rest

  -- an expression that selectors may follow
  pub data Primary : Tokens → Exp → Tokens → Type 0 where
    null : {at : Span} {rest : Tokens} → Primary (keyword k.Null at ∷ rest) (tree.null at) rest
    yes : {at : Span} {rest : Tokens} → Primary (keyword k.True at ∷ rest) (tree.bool true at) rest
    no : {at : Span} {rest : Tokens} → Primary (keyword k.False at ∷ rest) (tree.bool false at) rest
    this : {at : Span} {rest : Tokens} → Primary (keyword k.This at ∷ rest) (tree.this at) rest
    int : {n : ℤ} {at : Span} {rest : Tokens} → Primary (token (kind.Int n) at ∷ rest) (tree.int n at) rest
    str : {u : List ℕ} {at : Span} {rest : Tokens} → Primary (token (kind.Str u) at ∷ rest) (tree.str u at) rest
    joined : {u : List ℕ} {at : Span} {xs : List (Piece Exp)} {ts rest : Tokens} → Pieces ts xs rest → Primary (token (kind.StrOpen u) at ∷ ts) (tree.joined u at (pieces xs)) rest
    name : {n : List ℕ} {at : Span} {rest : Tokens} → Primary (token (kind.Name n) at ∷ rest) (tree.bare (named n at)) rest
    call : {n : List ℕ} {a b : Span} {xs : List Exp} {ts rest : Tokens} → Args s.ParenClose ts xs rest → Primary (token (kind.Name n) a ∷ sign s.ParenOpen b ∷ ts) (tree.call (named n a) (exps xs)) rest
    super_get : {n : List ℕ} {a b c : Span} {rest : Tokens} → Primary (keyword k.Super a ∷ sign s.Dot b ∷ token (kind.Name n) c ∷ rest) (tree.super_get a (named n c)) rest
    super_call : {n : List ℕ} {a b c d : Span} {xs : List Exp} {ts rest : Tokens} → Args s.ParenClose ts xs rest → Primary (keyword k.Super a ∷ sign s.Dot b ∷ token (kind.Name n) c ∷ sign s.ParenOpen d ∷ ts) (tree.super_call a (named n c) (exps xs)) rest
    paren : {a b : Span} {x : Exp} {ts rest : Tokens} → Whole ts x (sign s.ParenClose b ∷ rest) → Primary (sign s.ParenOpen a ∷ ts) (tree.paren x) rest
    list : {at : Span} {xs : List Exp} {ts rest : Tokens} → Args s.BracketClose ts xs rest → Primary (sign s.BracketOpen at ∷ ts) (tree.list at (exps xs)) rest

  -- one selector
  pub data Selects : Tokens → Selector → Tokens → Type 0 where
    member : {n : List ℕ} {a b : Span} {rest : Tokens} → Selects (sign s.Dot a ∷ token (kind.Name n) b ∷ rest) (tree.get (named n b)) rest
    invoke : {n : List ℕ} {a b c : Span} {xs : List Exp} {ts rest : Tokens} → Args s.ParenClose ts xs rest → Selects (sign s.Dot a ∷ token (kind.Name n) b ∷ sign s.ParenOpen c ∷ ts) (tree.send (named n b) (exps xs)) rest
    index : {a b : Span} {x : Exp} {ts rest : Tokens} → Whole ts x (sign s.BracketClose b ∷ rest) → Selects (sign s.BracketOpen a ∷ ts) (tree.index a x) rest

  -- a primary expression, alone or with selectors
  pub data Postfix : Tokens → Exp → Tokens → Type 0 where
    primary : {x : Exp} {ts rest : Tokens} → Primary ts x rest → Postfix ts x rest
    selected : {x : Exp} {y : Selector} {ys : List Selector} {ts mid rest : Tokens} → Primary ts x mid → Many Selects mid (y ∷ ys) rest → Postfix ts (tree.postfix x (selectors (y ∷ ys))) rest

-- Operand is what stands under a sign, one level deeper.
module _ (Whole Operand : Reading Exp) where
  pub data Unary : Tokens → Exp → Tokens → Type 0 where
    signed : {c : Sign} {op : UnaryOp} {at : Span} {x : Exp} {ts rest : Tokens} → unary_of c ≡ Some op → may_precede op (first_kind ts) ≡ true → Operand ts x rest → Unary (sign c at ∷ ts) (tree.unary op at x) rest
    before : {c : Sign} {op : Step} {at : Span} {x : Exp} {ts rest : Tokens} → step_of c ≡ Some op → Postfix Whole ts x rest → is_target x ≡ true → Unary (sign c at ∷ ts) (tree.step true op at x) rest
    after : {c : Sign} {op : Step} {at : Span} {x : Exp} {ts rest : Tokens} → step_of c ≡ Some op → Postfix Whole ts x (sign c at ∷ rest) → is_target x ≡ true → Unary ts (tree.step false op at x) rest
    postfix : {x : Exp} {ts rest : Tokens} → Postfix Whole ts x rest → Unary ts x rest

  -- what stands under a sign
  pub data Under : Tokens → Exp → Tokens → Type 0 where
    least : {at : Span} {rest : Tokens} → Under (token kind.MinInt at ∷ rest) (tree.min_int at) rest
    plain : {x : Exp} {ts rest : Tokens} → Unary ts x rest → Under ts x rest

-- an operator of level p, and an operand R on its right
pub data Links (p : ℕ) (R : Reading Exp) : Tokens → Link Exp → Tokens → Type 0 where
  linked : {c : Sign} {op : Binary} {at : Span} {x : Exp} {ts rest : Tokens} → binary_of c ≡ Some op → level op ≡ p → R ts x rest → Links p R (sign c at ∷ ts) (a_link op at x) rest

-- Tests don't repeat: `a < b < c` is no expression.
abbrev pub repeats : ℕ → Bool
repeats p = not (p == 7 || p == 8)

-- A level over the operands R of the next tighter one. `is` stands at the level of the comparisons.
pub data Level (p : ℕ) (R : Reading Exp) : Tokens → Exp → Tokens → Type 0 where
  one : {x : Exp} {ts rest : Tokens} → R ts x rest → Level p R ts x rest
  chain : {x : Exp} {y : Link Exp} {ys : List (Link Exp)} {ts mid rest : Tokens} → R ts x mid → Many (Links p R) mid (y ∷ ys) rest → (repeats p ≡ true) ⊎ (ys ≡ []) → Level p R ts (tree.chain x (links (y ∷ ys))) rest
  is : {n : List ℕ} {x : Exp} {a b : Span} {ts rest : Tokens} → p ≡ 7 → R ts x (keyword k.Is a ∷ token (kind.Name n) b ∷ rest) → Level p R ts (tree.is x false a (named n b)) rest
  is_not : {n : List ℕ} {x : Exp} {a b c : Span} {ts rest : Tokens} → p ≡ 7 → R ts x (keyword k.Is a ∷ sign s.Not b ∷ token (kind.Name n) c ∷ rest) → Level p R ts (tree.is x true a (named n c)) rest

module _ (Whole Operand : Reading Exp) where
  -- the binary operators of the levels up to p
  abbrev pub Chain : ℕ → Reading Exp
  Chain zero = Unary Whole Operand
  Chain (suc p) = Level (suc p) (Chain p)

  -- a chain of all levels, alone or as the condition of `? :`
  pub data Cond : Tokens → Exp → Tokens → Type 0 where
    one : {x : Exp} {ts rest : Tokens} → Chain 10 ts x rest → Cond ts x rest
    cond : {a b : Span} {x y z : Exp} {ts us vs rest : Tokens} → Chain 10 ts x (sign s.Question a ∷ us) → Whole us y (sign s.Colon b ∷ vs) → Whole vs z rest → Cond ts (tree.choice x y z) rest

  pub data Expression : Tokens → Exp → Tokens → Type 0 where
    throw : {at : Span} {x : Exp} {ts rest : Tokens} → Whole ts x rest → Expression (keyword k.Throw at ∷ ts) (tree.throw at x) rest
    cond : {x : Exp} {ts rest : Tokens} → Cond ts x rest → Expression ts x rest
    assign : {c : Sign} {op : Assignment} {at : Span} {x y : Exp} {ts mid rest : Tokens} → Postfix Whole ts x (sign c at ∷ mid) → is_target x ≡ true → assignment_of c ≡ Some op → Whole mid y rest → Expression ts (tree.assign x op at y) rest

-- At level 0 no expression stands.
pub data Nothing : Tokens → Exp → Tokens → Type 0 where

-- expressions of at most so many levels, and what stands under a sign within them
abbrev mutual
  pub ExprWithin : ℕ → Reading Exp
  ExprWithin zero = Nothing
  ExprWithin (suc n) = Expression (ExprWithin n) (UnderWithin n)

  pub UnderWithin : ℕ → Reading Exp
  UnderWithin zero = Nothing
  UnderWithin (suc n) = Under (ExprWithin n) (UnderWithin n)

-- ---- statements

-- a `;` at once, or an expression and a `;`
pub data Valued (Whole : Reading Exp) : Tokens → Option Exp → Tokens → Type 0 where
  none : {at : Span} {rest : Tokens} → Valued Whole (sign s.Semicolon at ∷ rest) None rest
  some : {a : Span} {x : Exp} {ts rest : Tokens} → Whole ts x (sign s.Semicolon a ∷ rest) → Valued Whole ts (Some x) rest

-- what follows the name of a variable
pub data Initial (Whole : Reading Exp) : Tokens → Option Exp → Tokens → Type 0 where
  none : {at : Span} {rest : Tokens} → Initial Whole (sign s.Semicolon at ∷ rest) None rest
  some : {a b : Span} {x : Exp} {ts rest : Tokens} → Whole ts x (sign s.Semicolon b ∷ rest) → Initial Whole (sign s.Assign a ∷ ts) (Some x) rest

-- an expression behind a comma
pub data Comma (Whole : Reading Exp) : Tokens → Exp → Tokens → Type 0 where
  comma : {a : Span} {x : Exp} {ts rest : Tokens} → Whole ts x rest → Comma Whole (sign s.Comma a ∷ ts) x rest

-- the last part of a `for`, up to and with the `)`
pub data Last (Whole : Reading Exp) : Tokens → List Exp → Tokens → Type 0 where
  none : {a : Span} {rest : Tokens} → Last Whole (sign s.ParenClose a ∷ rest) [] rest
  some : {a : Span} {x : Exp} {xs : List Exp} {ts mid rest : Tokens} → Whole ts x mid → Many (Comma Whole) mid xs (sign s.ParenClose a ∷ rest) → Last Whole ts (x ∷ xs) rest

-- `var` or `dynamic`
abbrev pub is_var : Keyword → Bool
is_var k.Var = true
is_var k.Dynamic = true
is_var _ = false

-- An `else` belongs to the nearest `if`: none follows an `if` without one.
abbrev pub NoElse : Tokens → Type 0
NoElse ts = (at : Span) (us : Tokens) → ts ≢ keyword k.Else at ∷ us

-- a local and its `;`
pub data Locals (Whole : Reading Exp) : Tokens → tree.Local → Tokens → Type 0 where
  variable : {w : Keyword} {n : List ℕ} {a b : Span} {v : Option Exp} {ts rest : Tokens} → is_var w ≡ true → Initial Whole ts v rest → Locals Whole (keyword w a ∷ token (kind.Name n) b ∷ ts) (a_local false (named n b) v) rest
  final : {n : List ℕ} {a b c d : Span} {x : Exp} {ts rest : Tokens} → Whole ts x (sign s.Semicolon d ∷ rest) → Locals Whole (keyword k.Final a ∷ token (kind.Name n) b ∷ sign s.Assign c ∷ ts) (a_local true (named n b) (Some x)) rest

-- the first part of a `for`, up to and with its `;`
pub data First (Whole : Reading Exp) : Tokens → tree.First → Tokens → Type 0 where
  nothing : {at : Span} {rest : Tokens} → First Whole (sign s.Semicolon at ∷ rest) tree.nothing rest
  local : {l : tree.Local} {ts rest : Tokens} → Locals Whole ts l rest → First Whole ts (tree.local_first l) rest
  run : {a : Span} {x : Exp} {ts rest : Tokens} → Whole ts x (sign s.Semicolon a ∷ rest) → First Whole ts (tree.run_first x) rest

-- Inner are the statements and Whole the expressions one level deeper.
module _ (Inner : Reading Sta) (Whole : Reading Exp) where
  pub data Statement : Tokens → Sta → Tokens → Type 0 where
    block : {a b : Span} {xs : List Sta} {ts rest : Tokens} → Many Inner ts xs (sign s.BraceClose b ∷ rest) → Statement (sign s.BraceOpen a ∷ ts) (tree.block (stas xs)) rest
    local : {l : tree.Local} {ts rest : Tokens} → Locals Whole ts l rest → Statement ts (tree.local l) rest
    run : {a : Span} {x : Exp} {ts rest : Tokens} → Whole ts x (sign s.Semicolon a ∷ rest) → Statement ts (tree.run x) rest
    empty : {at : Span} {rest : Tokens} → Statement (sign s.Semicolon at ∷ rest) tree.empty rest
    if : {a b c : Span} {x : Exp} {y : Sta} {ts us rest : Tokens} → Whole ts x (sign s.ParenClose c ∷ us) → Inner us y rest → NoElse rest → Statement (keyword k.If a ∷ sign s.ParenOpen b ∷ ts) (tree.when x y) rest
    if_else : {a b c d : Span} {x : Exp} {y z : Sta} {ts us vs rest : Tokens} → Whole ts x (sign s.ParenClose c ∷ us) → Inner us y (keyword k.Else d ∷ vs) → Inner vs z rest → Statement (keyword k.If a ∷ sign s.ParenOpen b ∷ ts) (tree.when_else x y z) rest
    while : {a b c : Span} {x : Exp} {y : Sta} {ts us rest : Tokens} → Whole ts x (sign s.ParenClose c ∷ us) → Inner us y rest → Statement (keyword k.While a ∷ sign s.ParenOpen b ∷ ts) (tree.while x y) rest
    do_while : {a b c d m : Span} {x : Exp} {y : Sta} {ts us rest : Tokens} → Inner ts y (keyword k.While b ∷ sign s.ParenOpen c ∷ us) → Whole us x (sign s.ParenClose d ∷ sign s.Semicolon m ∷ rest) → Statement (keyword k.Do a ∷ ts) (tree.do_while y x) rest
    for : {a b : Span} {f : tree.First} {c : Option Exp} {xs : List Exp} {y : Sta} {ts us vs ws rest : Tokens} → First Whole ts f us → Valued Whole us c vs → Last Whole vs xs ws → Inner ws y rest
        → Statement (keyword k.For a ∷ sign s.ParenOpen b ∷ ts) (tree.for f c (exps xs) y) rest
    break : {a b : Span} {rest : Tokens} → Statement (keyword k.Break a ∷ sign s.Semicolon b ∷ rest) (tree.break a) rest
    continue : {a b : Span} {rest : Tokens} → Statement (keyword k.Continue a ∷ sign s.Semicolon b ∷ rest) (tree.continue a) rest
    return : {at : Span} {v : Option Exp} {ts rest : Tokens} → Valued Whole ts v rest → Statement (keyword k.Return at ∷ ts) (tree.return at v) rest

-- At level 0 no statement stands.
pub data NoStmt : Tokens → Sta → Tokens → Type 0 where

-- statements of at most so many levels
abbrev pub StmtWithin : ℕ → Reading Sta
StmtWithin zero = NoStmt
StmtWithin (suc n) = Statement (StmtWithin n) (ExprWithin n)

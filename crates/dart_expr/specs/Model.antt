-- Reading expressions, one level at a time: whole and operand read those one level deeper.
use Rattle.std.specs.Prelude.{ℕ, zero, suc, Bool, true, false, if◌then◌else◌, ◌==◌, List, [], ◌∷◌, ◌++◌, length, Option, Some, None, Err}
use Rattle.dart_syntax.specs.declared.token.Span.{Span}
use Rattle.dart_syntax.specs.declared.token.TokenKind.{TokenKind}
use Rattle.dart_syntax.specs.declared.token.TokenKind.TheVariants as tk
use Rattle.dart_syntax.specs.declared.token.Sign.{Sign}
use Rattle.dart_syntax.specs.declared.token.Sign.TheVariants as s
use Rattle.dart_syntax.specs.declared.token.Keyword.TheVariants as k
use Rattle.dart_syntax.specs.declared.tree.Name.{Name}
use Rattle.dart_syntax.specs.declared.tree.Unary.{Unary}
use Rattle.dart_syntax.specs.declared.tree.Binary.{Binary}
use Rattle.dart_syntax.specs.declared.tree.Step.{Step}
use Rattle.dart_syntax.specs.declared.tree.Assignment.{Assignment}
use Rattle.dart_syntax.specs.declared.tree.Link.{Link}
use Rattle.dart_syntax.specs.declared.tree.Piece.{Piece}
use Rattle.dart_syntax.specs.Syntax as tree
use Rattle.dart_syntax.specs.Syntax.{Exp, Selector}
use Rattle.dart_syntax.specs.Words.{Tokens}
use Rattle.dart_syntax.specs.Operators.{named, unary_of, step_of, assignment_of, binary_of, level, may_precede}
use Rattle.dart_syntax.specs.Grammar.{is_target, repeats}
use Rattle.dart_expr.specs.Firsts.{begins, begins_under}
use Rattle.dart_expr.specs.Input.{kind, Parser, ◌>>=◌, ◌>>◌, ◌<$>◌, pure, refuse, deep, here, take, eat, eat_keyword, expect, many_from}

-- the name that the next token is, or a syntax error
abbrev pub name_by : Option TokenKind → Parser Name
name_by (Some (tk.Name n)) = (λ at. named n at) <$> take
name_by _ = refuse

-- takes a name
unfoldable pub name : Parser Name
name = λ ts. name_by (kind ts) ts

-- an expression of a string with the text behind it, and whether that ends the string
abbrev pub piece_of : Exp → List ℕ → Bool → Parser (Piece Exp × Bool)
piece_of x u is_last = (λ at. (tree.a_piece x u at, is_last)) <$> take

module _ (whole : Parser Exp) where
  -- what follows the first expression of a list, up to and with the closing sign
  unfoldable pub more_from : Sign → ℕ → List Exp → Parser (List Exp)
  more_from close zero found = refuse
  more_from close (suc n) found = do
    is_closed ← eat close
    if is_closed then pure found else (do
      expect s.Comma
      is_over ← eat close
      if is_over then pure found else (do
        x ← whole
        more_from close n (found ++ x ∷ [])))

  -- arguments or elements, up to and with the closing sign
  unfoldable pub args : Sign → Parser (List Exp)
  args close = do
    is_empty ← eat close
    if is_empty then pure [] else (do x ← whole; (λ ts. more_from close (length ts) (x ∷ []) ts))

  -- the same, by what the text behind the expression is
  abbrev pub piece_by : Exp → Option TokenKind → Parser (Piece Exp × Bool)
  piece_by x (Some (tk.StrMid u)) = piece_of x u false
  piece_by x (Some (tk.StrClose u)) = piece_of x u true
  piece_by x _ = refuse

  unfoldable pub piece : Parser (Piece Exp × Bool)
  piece = do
    x ← whole
    (λ ts. piece_by x (kind ts) ts)

  unfoldable pub pieces_from : ℕ → List (Piece Exp) → Parser (List (Piece Exp))
  pieces_from zero found = refuse
  pieces_from (suc n) found = do
    x ← piece
    if x.1 then pure (found ++ x.0 ∷ []) else pieces_from n (found ++ x.0 ∷ [])

  -- the interpolations of a string, up to its end
  unfoldable pub pieces : Parser (List (Piece Exp))
  pieces = λ ts. pieces_from (length ts) [] ts

  -- a name, or a call of it
  unfoldable pub named_term : List ℕ → Parser Exp
  named_term n = do
    at ← take
    is_call ← eat s.ParenOpen
    if is_call then (λ xs. tree.call (named n at) (tree.exps xs)) <$> args s.ParenClose else pure (tree.bare (named n at))

  -- a string with interpolations, at its first piece
  unfoldable pub joined : List ℕ → Parser Exp
  joined u = do at ← take; (λ xs. tree.joined u at (tree.pieces xs)) <$> pieces

  -- a member of `super`, read or called
  unfoldable pub super_term : Parser Exp
  super_term = do
    at ← take
    expect s.Dot
    n ← name
    is_call ← eat s.ParenOpen
    if is_call then (λ xs. tree.super_call at n (tree.exps xs)) <$> args s.ParenClose else pure (tree.super_get at n)

  unfoldable pub parenthesized : Parser Exp
  parenthesized = do
    take
    x ← whole
    expect s.ParenClose
    pure (tree.paren x)

  unfoldable pub list : Parser Exp
  list = do at ← take; (λ xs. tree.list at (tree.exps xs)) <$> args s.BracketClose

  abbrev pub primary_by : Option TokenKind → Parser Exp
  primary_by (Some (tk.Keyword k.Null)) = tree.null <$> take
  primary_by (Some (tk.Keyword k.True)) = tree.bool true <$> take
  primary_by (Some (tk.Keyword k.False)) = tree.bool false <$> take
  primary_by (Some (tk.Keyword k.This)) = tree.this <$> take
  primary_by (Some (tk.Keyword k.Super)) = super_term
  primary_by (Some (tk.Int n)) = tree.int n <$> take
  primary_by (Some (tk.Str v)) = tree.str v <$> take
  primary_by (Some (tk.StrOpen v)) = joined v
  primary_by (Some (tk.Name n)) = named_term n
  primary_by (Some (tk.Sign s.ParenOpen)) = parenthesized
  primary_by (Some (tk.Sign s.BracketOpen)) = list
  primary_by _ = refuse

  -- an expression that selectors may follow
  unfoldable pub primary : Parser Exp
  primary = λ ts. primary_by (kind ts) ts

  -- after the dot
  unfoldable pub member : Parser Selector
  member = do
    n ← name
    is_call ← eat s.ParenOpen
    if is_call then (λ xs. tree.send n (tree.exps xs)) <$> args s.ParenClose else pure (tree.get n)

  -- after the bracket
  unfoldable pub index : Span → Parser Selector
  index at = do
    x ← whole
    expect s.BracketClose
    pure (tree.index at x)

  abbrev pub selector_by : Option TokenKind → Parser (Option Selector)
  selector_by (Some (tk.Sign s.Dot)) = take >> Some <$> member
  selector_by (Some (tk.Sign s.BracketOpen)) = take >>= λ at. Some <$> index at
  selector_by _ = pure None

  unfoldable pub selector : Parser (Option Selector)
  selector = λ ts. selector_by (kind ts) ts

  -- all selectors that follow
  unfoldable pub selectors : Parser (List Selector)
  selectors = λ ts. many_from selector (length ts) [] ts

  abbrev pub with_selectors : Exp → List Selector → Exp
  with_selectors x [] = x
  with_selectors x (y ∷ ys) = tree.postfix x (tree.selectors (y ∷ ys))

  -- a primary expression, alone or with selectors
  unfoldable pub postfix : Parser Exp
  postfix = do
    x ← primary
    with_selectors x <$> selectors

-- the operator that the next token is
abbrev pub unary_at : Option TokenKind → Option Unary
unary_at (Some (tk.Sign c)) = unary_of c
unary_at _ = None

-- `++` or `--`, if the next token is one of them
abbrev pub step_at : Option TokenKind → Option Step
step_at (Some (tk.Sign c)) = step_of c
step_at _ = None

-- the assignment that the next token is the sign of
abbrev pub assignment_at : Option TokenKind → Option Assignment
assignment_at (Some (tk.Sign c)) = assignment_of c
assignment_at _ = None

-- an operator, if it is one of level n
abbrev pub of_level : ℕ → Option Binary → Option Binary
of_level n None = None
of_level n (Some op) = if level op == n then Some op else None

-- the operator of level n that the next token is the sign of
abbrev pub binary_at : ℕ → Option TokenKind → Option Binary
binary_at n (Some (tk.Sign c)) = of_level n (binary_of c)
binary_at n _ = None

-- only what may be written to
unfoldable pub target : Exp → Parser Exp
target x = if is_target x then pure x else refuse

module _ (whole operand : Parser Exp) where
  -- a sign and its operand
  unfoldable pub signed : Unary → Parser Exp
  signed op = do
    at ← take
    (λ ts. if may_precede op (kind ts) then (tree.unary op at <$> operand) ts else refuse ts)

  -- `++` or `--` and its target
  unfoldable pub before : Step → Parser Exp
  before st = do
    at ← take
    x ← postfix whole
    y ← target x
    pure (tree.step true st at y)

  abbrev pub after_by : Exp → Option Step → Parser Exp
  after_by x None = pure x
  after_by x (Some st) = do
    y ← target x
    (λ at. tree.step false st at y) <$> take

  -- a postfix expression, alone or as the target of a `++` or `--`
  unfoldable pub stepped : Parser Exp
  stepped = do
    x ← postfix whole
    (λ ts. after_by x (step_at (kind ts)) ts)

  abbrev pub unary_by : Option Unary → Option Step → Parser Exp
  unary_by (Some op) st = signed op
  unary_by None (Some st) = before st
  unary_by None None = stepped

  unfoldable pub unary : Parser Exp
  unary = λ ts. unary_by (unary_at (kind ts)) (step_at (kind ts)) ts

  abbrev pub under_by : Option TokenKind → Parser Exp
  under_by (Some tk.MinInt) = tree.min_int <$> take
  under_by _ = unary

  -- behind a sign
  unfoldable pub under : Parser Exp
  under = λ ts. under_by (kind ts) ts

-- how many operators a level may have
abbrev pub turns : ℕ → Tokens → ℕ
turns n ts = if repeats n then length ts else 1

-- an operand, alone or as the first of a chain
abbrev pub with_links : Exp → List (Link Exp) → Exp
with_links x [] = x
with_links x (y ∷ ys) = tree.chain x (tree.links (y ∷ ys))

-- after `is`
unfoldable pub tested : Exp → Span → Parser Exp
tested x at = do
  negated ← eat s.Not
  tree.is x negated at <$> name

-- takes `is`, which stands at the level of the comparisons alone
abbrev pub is_at : ℕ → Parser Bool
is_at n = if n == 7 then eat_keyword k.Is else pure false

module _ (n : ℕ) (operand : Parser Exp) where
  abbrev pub link_by : Option Binary → Parser (Option (Link Exp))
  link_by None = pure None
  link_by (Some op) = do
    at ← take
    x ← operand
    pure (Some (tree.a_link op at x))

  unfoldable pub link : Parser (Option (Link Exp))
  link = λ ts. link_by (binary_at n (kind ts)) ts

  unfoldable pub links : Parser (List (Link Exp))
  links = λ ts. many_from link (turns n ts) [] ts

  -- behind the first operand
  unfoldable pub followed : Exp → Parser Exp
  followed x = do
    at ← here
    is_test ← is_at n
    if is_test then tested x at else with_links x <$> links

  unfoldable pub chained : Parser Exp
  chained = do
    x ← operand
    followed x

module _ (whole operand : Parser Exp) where
  unfoldable pub chain : ℕ → Parser Exp
  chain zero = unary whole operand
  chain (suc n) = chained (suc n) (chain n)

  -- behind an operand of level n: the operators of the next k levels
  abbrev pub climb : ℕ → ℕ → Exp → Parser Exp
  climb n zero x = pure x
  climb n (suc k) x = followed (suc n) (chain n) x >>= climb (suc n) k

  -- behind the `?`
  unfoldable pub branches : Exp → Parser Exp
  branches x = do
    y ← whole
    expect s.Colon
    z ← whole
    pure (tree.choice x y z)

  -- a chain of all levels, alone or as the condition of `? :`
  unfoldable pub cond : Parser Exp
  cond = do
    x ← chain 10
    is_cond ← eat s.Question
    if is_cond then branches x else pure x

  abbrev pub assigned_by : Exp → Option Assignment → Parser Exp
  assigned_by x None = pure x
  assigned_by x (Some op) = do
    y ← target x
    at ← take
    tree.assign y op at <$> whole

  -- a condition, alone or as the target of an assignment
  unfoldable pub assigned : Parser Exp
  assigned = do
    x ← cond
    (λ ts. assigned_by x (assignment_at (kind ts)) ts)

  unfoldable pub expression : Parser Exp
  expression = do
    at ← here
    is_throw ← eat_keyword k.Throw
    if is_throw then tree.throw at <$> whole else assigned

-- expressions of at most so many levels, and what stands under a sign within them
unfoldable mutual
  pub expr : ℕ → Parser Exp
  expr zero = λ ts. Err (deep (begins (kind ts)) ts)
  expr (suc n) = expression (expr n) (operand n)

  pub operand : ℕ → Parser Exp
  operand zero = λ ts. Err (deep (begins_under (kind ts)) ts)
  operand (suc n) = under (expr n) (operand n)

-- Reading statements, one level at a time: inner and whole read the statements and expressions one level deeper.
use Rattle.std.specs.Prelude.{ℕ, zero, suc, Bool, true, false, ◌&&◌, ◌||◌, ◌==◌, if◌then◌else◌, List, [], ◌∷◌, length, Option, Some, None, Ok, Err}
use Rattle.dart_syntax.specs.declared.token.TokenKind.{TokenKind}
use Rattle.dart_syntax.specs.declared.token.TokenKind.TheVariants as tk
use Rattle.dart_syntax.specs.declared.token.Sign.{Sign}
use Rattle.dart_syntax.specs.declared.token.Sign.TheVariants as s
use Rattle.dart_syntax.specs.declared.token.Keyword.{Keyword}
use Rattle.dart_syntax.specs.declared.token.Keyword.TheVariants as k
use Rattle.dart_syntax.specs.Syntax as tree
use Rattle.dart_syntax.specs.Syntax.{Exp, Sta}
use Rattle.dart_syntax.specs.Words.{Tokens}
use Rattle.dart_expr.specs.Input.{kind, is_end, Parser, ◌>>=◌, ◌>>◌, ◌<$>◌, pure, refuse, deep, take, sees, sees_keyword, eat, eat_keyword, expect, many_from}
use Rattle.dart_expr.specs.Firsts.{begins}
use Rattle.dart_expr.specs.Model.{name, expr}

-- the words and signs that begin a statement that is no expression
abbrev pub keyword_opens : Keyword → Bool
keyword_opens k.Var = true
keyword_opens k.Dynamic = true
keyword_opens k.Final = true
keyword_opens k.If = true
keyword_opens k.While = true
keyword_opens k.Do = true
keyword_opens k.For = true
keyword_opens k.Break = true
keyword_opens k.Continue = true
keyword_opens k.Return = true
keyword_opens _ = false

-- the same of signs
abbrev pub sign_opens : Sign → Bool
sign_opens s.BraceOpen = true
sign_opens s.Semicolon = true
sign_opens _ = false

-- whether the next token is one of these
abbrev pub opens_stmt : Option TokenKind → Bool
opens_stmt (Some (tk.Keyword w)) = keyword_opens w
opens_stmt (Some (tk.Sign c)) = sign_opens c
opens_stmt _ = false

-- what statements begin with
abbrev pub begins_stmt : Option TokenKind → Bool
begins_stmt c = opens_stmt c || begins c

-- a statement, unless what ends a list of them comes
unfoldable pub item : (Tokens → Bool) → Parser Sta → Parser (Option Sta)
item ends inner = λ ts. if ends ts then Ok (None, ts) else (Some <$> inner) ts

module _ (inner : Parser Sta) (whole : Parser Exp) where
  -- an expression and its `;`
  unfoldable pub ended : Parser Exp
  ended = do
    x ← whole
    expect s.Semicolon
    pure x

  -- an expression and its `;`, or a `;` at once
  unfoldable pub valued : Parser (Option Exp)
  valued = do
    is_empty ← eat s.Semicolon
    if is_empty then pure None else Some <$> ended

  -- what follows the name of a local, up to and with the `;`
  unfoldable pub initial : Parser (Option Exp)
  initial = do
    is_empty ← eat s.Semicolon
    if is_empty then pure None else (expect s.Assign >> Some <$> ended)

  unfoldable pub block : Parser Sta
  block = do
    take
    xs ← (λ ts. many_from (item (sees s.BraceClose) inner) (length ts) [] ts)
    expect s.BraceClose
    pure (tree.block (tree.stas xs))

  unfoldable pub variable : Parser tree.Local
  variable = do
    take
    n ← name
    tree.a_local false n <$> initial

  unfoldable pub constant : Parser tree.Local
  constant = do
    take
    n ← name
    expect s.Assign
    x ← ended
    pure (tree.a_local true n (Some x))

  abbrev pub local_by : Option TokenKind → Parser tree.Local
  local_by (Some (tk.Keyword k.Final)) = constant
  local_by _ = variable

  -- behind `var`, `dynamic` or `final`, which comes next
  unfoldable pub local : Parser tree.Local
  local = λ ts. local_by (kind ts) ts

  abbrev pub first_by : Option TokenKind → Parser tree.First
  first_by (Some (tk.Sign s.Semicolon)) = (λ at. tree.nothing) <$> take
  first_by (Some (tk.Keyword k.Var)) = tree.local_first <$> local
  first_by (Some (tk.Keyword k.Dynamic)) = tree.local_first <$> local
  first_by (Some (tk.Keyword k.Final)) = tree.local_first <$> local
  first_by _ = tree.run_first <$> ended

  unfoldable pub first : Parser tree.First
  first = λ ts. first_by (kind ts) ts

  -- an expression behind a comma, if one comes next
  unfoldable pub comma_item : Parser (Option Exp)
  comma_item = do
    is_more ← eat s.Comma
    if is_more then Some <$> whole else pure None

  unfoldable pub comma_items : List Exp → Parser (List Exp)
  comma_items found = λ ts. many_from comma_item (length ts) found ts

  -- the last part of a `for`, up to and with the `)`
  unfoldable pub last : Parser (List Exp)
  last = do
    is_empty ← eat s.ParenClose
    if is_empty then pure [] else (do
      x ← whole
      xs ← comma_items (x ∷ [])
      expect s.ParenClose
      pure xs)

  -- in parentheses, behind a keyword
  unfoldable pub condition : Parser Exp
  condition = do
    take
    expect s.ParenOpen
    x ← whole
    expect s.ParenClose
    pure x

  -- at the word `if`
  unfoldable pub branches : Parser Sta
  branches = do
    x ← condition
    y ← inner
    is_else ← eat_keyword k.Else
    if is_else then (λ z. tree.when_else x y z) <$> inner else pure (tree.when x y)

  -- at the word `while`
  unfoldable pub repeated : Parser Sta
  repeated = do
    x ← condition
    tree.while x <$> inner

  -- at the word `do`
  unfoldable pub do_repeated : Parser Sta
  do_repeated = do
    take
    y ← inner
    is_while ← (λ ts. Ok (sees_keyword k.While ts, ts))
    if is_while then (do
      x ← condition
      expect s.Semicolon
      pure (tree.do_while y x)) else refuse

  unfoldable pub counted_by : tree.First → Option Exp → List Exp → Parser Sta
  counted_by f c xs = tree.for f c (tree.exps xs) <$> inner

  -- at the word `for`
  unfoldable pub counted : Parser Sta
  counted = do
    take
    expect s.ParenOpen
    f ← first
    c ← valued
    xs ← last
    counted_by f c xs

  unfoldable pub broken : Parser Sta
  broken = do
    at ← take
    expect s.Semicolon
    pure (tree.break at)

  unfoldable pub continued : Parser Sta
  continued = do
    at ← take
    expect s.Semicolon
    pure (tree.continue at)

  unfoldable pub returned : Parser Sta
  returned = do
    at ← take
    tree.return at <$> valued

  abbrev pub statement_by : Option TokenKind → Parser Sta
  statement_by (Some (tk.Sign s.BraceOpen)) = block
  statement_by (Some (tk.Sign s.Semicolon)) = (λ at. tree.empty) <$> take
  statement_by (Some (tk.Keyword k.Var)) = tree.local <$> local
  statement_by (Some (tk.Keyword k.Dynamic)) = tree.local <$> local
  statement_by (Some (tk.Keyword k.Final)) = tree.local <$> local
  statement_by (Some (tk.Keyword k.If)) = branches
  statement_by (Some (tk.Keyword k.While)) = repeated
  statement_by (Some (tk.Keyword k.Do)) = do_repeated
  statement_by (Some (tk.Keyword k.For)) = counted
  statement_by (Some (tk.Keyword k.Break)) = broken
  statement_by (Some (tk.Keyword k.Continue)) = continued
  statement_by (Some (tk.Keyword k.Return)) = returned
  statement_by _ = tree.run <$> ended

  unfoldable pub statement : Parser Sta
  statement = λ ts. statement_by (kind ts) ts

-- statements of at most so many levels
unfoldable pub stmt : ℕ → Parser Sta
stmt zero = λ ts. Err (deep (begins_stmt (kind ts)) ts)
stmt (suc n) = statement (stmt n) (expr n)

-- the end token, and nothing behind it
unfoldable pub is_last : Tokens → Bool
is_last ts = is_end ts && length ts == 1

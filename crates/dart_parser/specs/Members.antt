-- Reading declarations: inner and whole read the statements and expressions of level 1.
use Rattle.std.specs.Prelude.{ℕ, Bool, true, false, not, ◌&&◌, if◌then◌else◌, List, [], length, Option, Some, None, Ok}
use Rattle.dart_syntax.specs.declared.token.Span.{Span}
use Rattle.dart_syntax.specs.declared.token.TokenKind.{TokenKind}
use Rattle.dart_syntax.specs.declared.token.TokenKind.TheVariants as tk
use Rattle.dart_syntax.specs.declared.token.Sign.{Sign}
use Rattle.dart_syntax.specs.declared.token.Sign.TheVariants as s
use Rattle.dart_syntax.specs.declared.token.Keyword.TheVariants as k
use Rattle.dart_syntax.specs.declared.tree.Name.{Name}
use Rattle.dart_syntax.specs.declared.tree.Unary.TheVariants as u
use Rattle.dart_syntax.specs.Syntax as tree
use Rattle.dart_syntax.specs.Syntax.{Param, Exp, Sta, Stas, Passed, Body, Member, a_param}
use Rattle.dart_expr.specs.Input.{kind, next, Parser, ◌>>=◌, ◌>>◌, ◌<$>◌, pure, refuse, here, take, sees, eat, eat_keyword, expect, many_from}
use Rattle.dart_expr.specs.Model.{name, args}
use Rattle.dart_parser.specs.Statements.{item}
use Rattle.dart_syntax.specs.declared.tree.Operator.{Operator}
use Rattle.dart_syntax.specs.declared.tree.Operator.TheVariants as op
use Rattle.dart_syntax.specs.Derivation.{same_text, operator_of, takes}

-- the integer behind a minus at this place; 2 ^ 63 may stand here
abbrev pub minus_by : Span → Option TokenKind → Parser Exp
minus_by a (Some (tk.Int n)) = (λ b. tree.unary u.Minus a (tree.int n b)) <$> take
minus_by a (Some tk.MinInt) = (λ b. tree.unary u.Minus a (tree.min_int b)) <$> take
minus_by a _ = refuse

-- a minus and an integer
unfoldable pub minus : Parser Exp
minus = do
  a ← take
  (λ ts. minus_by a (kind ts) ts)

-- a literal, by the next token
abbrev pub literal_by : Option TokenKind → Parser Exp
literal_by (Some (tk.Keyword k.Null)) = tree.null <$> take
literal_by (Some (tk.Keyword k.True)) = tree.bool true <$> take
literal_by (Some (tk.Keyword k.False)) = tree.bool false <$> take
literal_by (Some (tk.Int n)) = tree.int n <$> take
literal_by (Some (tk.Str v)) = tree.str v <$> take
literal_by (Some (tk.Sign s.Minus)) = minus
literal_by _ = refuse

-- the first value of a field or a variable of the text
unfoldable pub literal : Parser Exp
literal = λ ts. literal_by (kind ts) ts

-- behind the `=`
unfoldable pub given : Parser Exp
given = do
  x ← literal
  expect s.Semicolon
  pure x

-- what follows a variable's name, up to and with the `;`
unfoldable pub value : Parser (Option Exp)
value = do
  is_empty ← eat s.Semicolon
  if is_empty then pure None else (expect s.Assign >> Some <$> given)

-- a parameter's name, behind what stands before it
unfoldable pub param_name : Bool → Bool → Parser Param
param_name f g = a_param f g <$> name

-- a parameter, by the next token
abbrev pub param_by : Bool → Option TokenKind → Parser Param
param_by c (Some (tk.Keyword k.Var)) = take >> param_name false false
param_by c (Some (tk.Keyword k.Dynamic)) = take >> param_name false false
param_by c (Some (tk.Keyword k.Final)) = take >> param_name true false
param_by true (Some (tk.Keyword k.This)) = take >> expect s.Dot >> param_name false true
param_by c _ = param_name false false

-- c says whether `this.x` may stand
unfoldable pub param : Bool → Parser Param
param c = λ ts. param_by c (kind ts) ts

-- behind an item: a comma, or the closing sign, which stays
unfoldable pub listed : {A : Type 0} → Sign → A → Parser (Option A)
listed close x = λ ts. if sees s.Comma ts then Ok (Some x, next ts) else (if sees close ts then Ok (Some x, ts) else refuse ts)

-- a parameter and the comma behind it, unless the parenthesis closes
unfoldable pub param_item : Bool → Parser (Option Param)
param_item c = λ ts. if sees s.ParenClose ts then Ok (None, ts) else (param c >>= listed s.ParenClose) ts

-- so many at most
unfoldable pub param_items : Bool → ℕ → Parser (List Param)
param_items c most = λ ts. many_from (param_item c) most [] ts

-- up to and with the `)`
unfoldable pub params : Bool → Parser (List Param)
params c = do
  xs ← (λ ts. param_items c (length ts) ts)
  expect s.ParenClose
  pure xs

-- ---- operators

-- an operator of one sign
abbrev pub single : Option Operator → Parser (Operator × Span)
single None = refuse
single (Some o) = (λ a. (o, a)) <$> take

-- `[]` or `[]=`, which stands at its first bracket
unfoldable pub bracketed : Parser (Operator × Span)
bracketed = do
  a ← take
  expect s.BracketClose
  is_set ← eat s.Assign
  if is_set then pure (op.Set, a) else (λ ts. if sees s.ParenOpen ts then Ok ((op.Get, a), ts) else refuse ts)

-- the name of an operator, by the next token
abbrev pub operator_by : Option TokenKind → Parser (Operator × Span)
operator_by (Some (tk.Sign s.BracketOpen)) = bracketed
operator_by (Some (tk.Sign c)) = single (operator_of c)
operator_by _ = refuse

-- behind the word `operator`
unfoldable pub operator : Parser (Operator × Span)
operator = λ ts. operator_by (kind ts) ts

-- no operator has more parameters
abbrev pub most : Operator → ℕ
most op.Set = 2
most op.Complement = 0
most _ = 1

-- an operator has so many parameters
unfoldable pub counted : Operator → List Param → Parser Bool
counted o ps = if takes o (length ps) then pure true else refuse

-- What is one too many is refused, and the parenthesis where one is wanting.
unfoldable pub operator_params : Operator → Parser (List Param)
operator_params o = do
  ps ← param_items false (most o)
  counted o ps
  expect s.ParenClose
  pure ps

module _ (inner : Parser Sta) (whole : Parser Exp) where
  unfoldable pub statements : Parser (List Sta)
  statements = λ ts. many_from (item (sees s.BraceClose) inner) (length ts) [] ts

  -- the brace comes next
  unfoldable pub block : Parser (List Sta)
  block = do
    expect s.BraceOpen
    xs ← statements
    expect s.BraceClose
    pure xs

  -- an arrow with its `;`, or a block
  unfoldable pub body : Parser Body
  body = do
    is_arrow ← eat s.Arrow
    if is_arrow then (do
      x ← whole
      expect s.Semicolon
      pure (tree.arrow x)) else (λ xs. tree.code (tree.stas xs)) <$> block

  -- a body or a `;`
  unfoldable pub some_body : Parser (Option Body)
  some_body = do
    is_empty ← eat s.Semicolon
    if is_empty then pure None else Some <$> body

  -- a block or a `;`
  unfoldable pub some_block : Parser (Option Stas)
  some_block = do
    is_empty ← eat s.Semicolon
    if is_empty then pure None else (λ xs. Some (tree.stas xs)) <$> block

  -- ---- members

  -- behind its name and the `(`
  unfoldable pub method : Name → Parser Member
  method n = do
    ps ← params false
    tree.method n ps <$> some_body

  -- what a constructor passes to its superclass
  unfoldable pub passed : Parser (Option Passed)
  passed = do
    is_passed ← eat s.Colon
    if is_passed then (do
      at ← here
      is_super ← eat_keyword k.Super
      if is_super then (do
        expect s.ParenOpen
        (λ xs. Some (tree.passing at (tree.exps xs))) <$> args whole s.ParenClose) else refuse) else pure None

  -- behind its name and the `(`
  unfoldable pub constructor : Name → Parser Member
  constructor n = do
    ps ← params true
    xs ← passed
    tree.constructor n ps xs <$> some_block

  -- at the word `get`
  unfoldable pub getter : Parser Member
  getter = do
    take
    n ← name
    tree.getter n <$> some_body

  -- at the word `set`
  unfoldable pub setter : Parser Member
  setter = do
    take
    n ← name
    expect s.ParenOpen
    p ← param false
    expect s.ParenClose
    tree.setter n p <$> some_body

  -- at the word `operator`
  unfoldable pub operator_member : Parser Member
  operator_member = do
    take
    o ← operator
    expect s.ParenOpen
    ps ← operator_params o.0
    tree.operator o.0 o.1 ps <$> some_body

  -- behind its name
  unfoldable pub field : Bool → Name → Parser Member
  field f n = (λ v. tree.field (tree.a_local f n v)) <$> value

  -- a method, or the constructor, which has the class's name and no word before it
  unfoldable pub function_member : List ℕ → Bool → Parser Member
  function_member class typed = do
    n ← name
    expect s.ParenOpen
    if not typed && same_text n.text class then constructor n else method n

  abbrev pub plain_by : List ℕ → Bool → Option TokenKind → Parser Member
  plain_by class typed (Some (tk.Keyword k.Get)) = getter
  plain_by class typed (Some (tk.Keyword k.Set)) = setter
  plain_by class typed (Some (tk.Keyword k.Operator)) = operator_member
  plain_by class typed _ = function_member class typed

  -- typed says whether a word stood before it
  unfoldable pub plain : List ℕ → Bool → Parser Member
  plain class typed = λ ts. plain_by class typed (kind ts) ts

  -- behind `dynamic` and a name
  unfoldable pub named_member : Name → Parser Member
  named_member n = do
    is_method ← eat s.ParenOpen
    if is_method then method n else field false n

  abbrev pub dynamic_by : List ℕ → Option TokenKind → Parser Member
  dynamic_by class (Some (tk.Name n)) = name >>= named_member
  dynamic_by class _ = plain class true

  -- behind `dynamic`
  unfoldable pub dynamic : List ℕ → Parser Member
  dynamic class = λ ts. dynamic_by class (kind ts) ts

  abbrev pub member_by : List ℕ → Option TokenKind → Parser Member
  member_by class (Some (tk.Keyword k.Var)) = take >> name >>= field false
  member_by class (Some (tk.Keyword k.Final)) = take >> name >>= field true
  member_by class (Some (tk.Keyword k.Dynamic)) = take >> dynamic class
  member_by class (Some (tk.Keyword k.Void)) = take >> plain class true
  member_by class _ = plain class false

  unfoldable pub member : List ℕ → Parser Member
  member class = λ ts. member_by class (kind ts) ts

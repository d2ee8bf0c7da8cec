-- Reading classes and units.
use Rattle.std.specs.Prelude.{ℕ, Bool, true, false, if◌then◌else◌, List, [], ◌∷◌, length, Option, Some, None, Ok, codes}
use Rattle.dart_syntax.specs.declared.token.TokenKind.{TokenKind}
use Rattle.dart_syntax.specs.declared.token.TokenKind.TheVariants as tk
use Rattle.dart_syntax.specs.declared.token.Sign.TheVariants as s
use Rattle.dart_syntax.specs.declared.token.Keyword.TheVariants as k
use Rattle.dart_syntax.specs.declared.tree.Name.{Name}
use Rattle.dart_syntax.specs.Syntax as tree
use Rattle.dart_syntax.specs.Syntax.{Exp, Sta, Body, Member, Top, ClassDecl}
use Rattle.dart_expr.specs.Input.{kind, next, Parser, ◌>>=◌, ◌>>◌, ◌<$>◌, pure, refuse, take, sees, eat, eat_keyword, expect, many_from, is_end}
use Rattle.dart_expr.specs.Model.{name}
use Rattle.dart_parser.specs.Statements.{is_last}
use Rattle.dart_syntax.specs.Derivation.{same_text, marks_entry, any}
use Rattle.dart_parser.specs.Members.{given, value, params, body, member}

-- the string of a `pragma`, and whether it marks an entry
abbrev pub mark_by : Option TokenKind → Parser Bool
mark_by (Some (tk.Str v)) = (λ at. marks_entry v) <$> take
mark_by _ = refuse

-- behind the word `pragma`
unfoldable pub pragma : Parser (Option Bool)
pragma = do
  expect s.ParenOpen
  b ← (λ ts. mark_by (kind ts) ts)
  expect s.ParenClose
  pure (Some b)

-- at the word of a meta
abbrev pub meta_by : Option TokenKind → Parser (Option Bool)
meta_by (Some (tk.Name n)) = if same_text n (codes "override") then (λ at. Some false) <$> take else (if same_text n (codes "pragma") then take >> pragma else refuse)
meta_by _ = refuse

-- an `@` word, if one comes, and whether it marks an entry
unfoldable pub meta : Parser (Option Bool)
meta = do
  is_meta ← eat s.At
  if is_meta then (λ ts. meta_by (kind ts) ts) else pure None

-- all `@` words before a declaration
unfoldable pub metas : Parser (List Bool)
metas = λ ts. many_from meta (length ts) [] ts

-- behind `extends`, if it comes
unfoldable pub parent : Parser (Option Name)
parent = do
  is_some ← eat_keyword k.Extends
  if is_some then Some <$> name else pure None

-- a name behind a comma, if one comes
unfoldable pub comma_name : Parser (Option Name)
comma_name = do
  is_some ← eat s.Comma
  if is_some then Some <$> name else pure None

-- the names behind commas, after those found
unfoldable pub more_names : List Name → Parser (List Name)
more_names found = λ ts. many_from comma_name (length ts) found ts

-- behind `implements`, if it comes
unfoldable pub interfaces : Parser (List Name)
interfaces = do
  is_some ← eat_keyword k.Implements
  if is_some then (do
    n ← name
    more_names (n ∷ [])) else pure []

module _ (inner : Parser Sta) (whole : Parser Exp) where
  -- a member behind its metas
  unfoldable pub marked_member : List ℕ → Parser Member
  marked_member class = metas >> member inner whole class

  unfoldable pub member_item : List ℕ → Parser (Option Member)
  member_item class = λ ts. if sees s.BraceClose ts then Ok (None, ts) else (Some <$> marked_member class) ts

  -- up to the closing brace, which stays
  unfoldable pub members : List ℕ → Parser (List Member)
  members class = λ ts. many_from (member_item class) (length ts) [] ts

  -- behind the word `class`
  unfoldable pub class : Bool → Parser ClassDecl
  class is_abstract = do
    n ← name
    p ← parent
    is ← interfaces
    expect s.BraceOpen
    ms ← members n.text
    expect s.BraceClose
    pure (tree.class_of is_abstract n p is ms)

  -- behind its name and the `(`
  unfoldable pub function : Bool → Name → Parser Top
  function e n = do
    ps ← params false
    (λ y. tree.a_function (tree.function_of e n ps y)) <$> body inner whole

  -- behind its name
  unfoldable pub variable : Bool → Name → Parser Top
  variable f n = (λ v. tree.a_variable (tree.a_local f n v)) <$> value

  -- a name, and a function of it
  unfoldable pub named_function : Bool → Parser Top
  named_function e = do
    n ← name
    expect s.ParenOpen
    function e n

  -- behind `dynamic`
  unfoldable pub dynamic_top : Bool → Parser Top
  dynamic_top e = do
    n ← name
    is_function ← eat s.ParenOpen
    if is_function then function e n else variable false n

  -- behind `final`
  unfoldable pub constant : Parser Top
  constant = do
    n ← name
    expect s.Assign
    x ← given
    pure (tree.a_variable (tree.a_local true n (Some x)))

  -- behind `abstract`
  unfoldable pub abstract_class : Parser Top
  abstract_class = do
    is_class ← eat_keyword k.Class
    if is_class then tree.a_class <$> class true else refuse

  abbrev pub declared_by : Bool → Option TokenKind → Parser Top
  declared_by e (Some (tk.Keyword k.Class)) = take >> tree.a_class <$> class false
  declared_by e (Some (tk.Keyword k.Abstract)) = take >> abstract_class
  declared_by e (Some (tk.Keyword k.Var)) = take >> name >>= variable false
  declared_by e (Some (tk.Keyword k.Dynamic)) = take >> dynamic_top e
  declared_by e (Some (tk.Keyword k.Final)) = take >> constant
  declared_by e (Some (tk.Keyword k.Void)) = take >> named_function e
  declared_by e _ = named_function e

  unfoldable pub declared : Bool → Parser Top
  declared e = λ ts. declared_by e (kind ts) ts

  -- a declaration behind its metas
  unfoldable pub top : Parser Top
  top = do
    bs ← metas
    declared (any bs)

  unfoldable pub top_item : Parser (Option Top)
  top_item = λ ts. if is_end ts then Ok (None, ts) else (Some <$> top) ts

  unfoldable pub tops : Parser (List Top)
  tops = λ ts. many_from top_item (length ts) [] ts

  -- all declarations, and the end token
  unfoldable pub whole_unit : Parser (List Top)
  whole_unit = do
    xs ← tops
    (λ ts. if is_last ts then Ok (xs, next ts) else refuse ts)

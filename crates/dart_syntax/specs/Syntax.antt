-- Trees as mathematics: what the types of src/ hold, with no memory in it.
use Rattle.std.specs.Prelude.{ℕ, ℤ, Bool, false, List, [], ◌∷◌, Option, None}
use Rattle.dart_syntax.specs.declared.token.Span.{Span}
use Rattle.dart_syntax.specs.declared.tree.Name.{Name}
use Rattle.dart_syntax.specs.declared.tree.Unary.{Unary}
use Rattle.dart_syntax.specs.declared.tree.Binary.{Binary}
use Rattle.dart_syntax.specs.declared.tree.Step.{Step}
use Rattle.dart_syntax.specs.declared.tree.Assignment.{Assignment}
use Rattle.dart_syntax.specs.declared.tree.Link.{Link}
use Rattle.dart_syntax.specs.declared.tree.Piece.{Piece}
use Rattle.dart_syntax.specs.declared.tree.Operator.{Operator}

mutual
  -- an expression, with the place of its own token where it has one
  pub data Exp : Type 0 where
    null : Span → Exp
    bool : Bool → Span → Exp
    int : ℤ → Span → Exp
    min_int : Span → Exp
    this : Span → Exp
    str : List ℕ → Span → Exp
    joined : List ℕ → Span → Pieces → Exp
    bare : Name → Exp
    call : Name → Exps → Exp
    super_get : Span → Name → Exp
    super_call : Span → Name → Exps → Exp
    paren : Exp → Exp
    list : Span → Exps → Exp
    postfix : Exp → Selectors → Exp
    step : Bool → Step → Span → Exp → Exp
    unary : Unary → Span → Exp → Exp
    chain : Exp → Links → Exp
    is : Exp → Bool → Span → Name → Exp
    choice : Exp → Exp → Exp → Exp
    assign : Exp → Assignment → Span → Exp → Exp
    throw : Span → Exp → Exp

  -- expressions from left to right
  pub data Exps : Type 0 where
    no_more : Exps
    also : Exp → Exps → Exps

  -- the interpolations of a string, each with the text behind it and that text's place
  pub data Pieces : Type 0 where
    no_piece : Pieces
    piece : Exp → List ℕ → Span → Pieces → Pieces

  -- operators at their places, each with the operand on its right
  pub data Links : Type 0 where
    no_link : Links
    link : Binary → Span → Exp → Links → Links

  -- selectors from left to right
  pub data Selectors : Type 0 where
    no_selector : Selectors
    select : Selector → Selectors → Selectors

  -- a member that is read or called, or an index
  pub data Selector : Type 0 where
    get : Name → Selector
    send : Name → Exps → Selector
    index : Span → Exp → Selector

-- a local, a field or a top-level variable, with what stands behind its `=`
pub record Local : Type 0 where
  pub is_final : Bool
  pub name : Name
  pub value : Option Exp

-- the first part of a `for`
pub data First : Type 0 where
  nothing : First
  local_first : Local → First
  run_first : Exp → First

mutual
  -- a statement
  pub data Sta : Type 0 where
    block : Stas → Sta
    local : Local → Sta
    run : Exp → Sta
    empty : Sta
    when : Exp → Sta → Sta
    when_else : Exp → Sta → Sta → Sta
    while : Exp → Sta → Sta
    do_while : Sta → Exp → Sta
    for : First → Option Exp → Exps → Sta → Sta
    break : Span → Sta
    continue : Span → Sta
    return : Span → Option Exp → Sta

  -- statements one after the other
  pub data Stas : Type 0 where
    done : Stas
    next : Sta → Stas → Stas

-- ---- declarations

-- a parameter of a function or member; `is_field` says that it is written `this.x`
pub record Param : Type 0 where
  pub name : Name
  pub is_final : Bool
  pub is_field : Bool
  pub optional : Bool
  pub default : Option Exp

-- what a function or member does: `=> x;` or a block
pub data Body : Type 0 where
  arrow : Exp → Body
  code : Stas → Body

-- a top-level function; `is_entry` says that `@pragma('vm:entry-point')` marks it
pub record Function : Type 0 where
  pub name : Name
  pub is_entry : Bool
  pub params : List Param
  pub body : Body

-- what a constructor passes to its superclass, at the word `super`
pub record Passed : Type 0 where
  pub at : Span
  pub args : Exps

-- the arguments behind the word `super` at this place
abbrev pub passing : Span → Exps → Passed
passing at args = record { at = at; args = args }

-- what a class declares; a body or block that is None is a `;`
pub data Member : Type 0 where
  field : Local → Member
  method : Name → List Param → Option Body → Member
  getter : Name → Option Body → Member
  setter : Name → Param → Option Body → Member
  operator : Operator → Span → List Param → Option Body → Member
  constructor : Name → List Param → Option Passed → Option Stas → Member

-- a class, with the name behind `extends` and those behind `implements`
pub record ClassDecl : Type 0 where
  pub name : Name
  pub is_abstract : Bool
  pub parent : Option Name
  pub interfaces : List Name
  pub members : List Member

-- a declaration of the text
pub data Top : Type 0 where
  a_class : ClassDecl → Top
  a_function : Function → Top
  a_variable : Local → Top

-- a whole text: its declarations in order
pub record Tree : Type 0 where
  pub tops : List Top

-- ---- lists of the parts, as a tree holds them

-- arguments, elements, or the last part of a `for`
abbrev pub exps : List Exp → Exps
exps [] = no_more
exps (x ∷ xs) = also x (exps xs)

-- the interpolations of a string, each with the text behind it
abbrev pub pieces : List (Piece Exp) → Pieces
pieces [] = no_piece
pieces (x ∷ xs) = piece x.value x.then x.span (pieces xs)

-- the operators of a chain, each with the operand on its right
abbrev pub links : List (Link Exp) → Links
links [] = no_link
links (x ∷ xs) = link x.operator x.span x.operand (links xs)

-- what stands behind a primary expression, in order
abbrev pub selectors : List Selector → Selectors
selectors [] = no_selector
selectors (x ∷ xs) = select x (selectors xs)

-- the statements of a block
abbrev pub stas : List Sta → Stas
stas [] = done
stas (x ∷ xs) = next x (stas xs)

-- an expression in a string, and the units and place of the text behind it
abbrev pub a_piece : Exp → List ℕ → Span → Piece Exp
a_piece x u at = record { value = x; then = u; span = at }

-- a variable, final or not, with what stands behind its `=`
abbrev pub a_local : Bool → Name → Option Exp → Local
a_local is_final name value = record { is_final = is_final; name = name; value = value }

-- an operator at its place, and the operand on its right
abbrev pub a_link : Binary → Span → Exp → Link Exp
a_link op at x = record { operator = op; span = at; operand = x }

-- a parameter that each call has to give
abbrev pub a_param : Bool → Bool → Name → Param
a_param is_final is_field name = record { name = name; is_final = is_final; is_field = is_field; optional = false; default = None }

abbrev pub function_of : Bool → Name → List Param → Body → Function
function_of is_entry name params body = record { name = name; is_entry = is_entry; params = params; body = body }

abbrev pub class_of : Bool → Name → Option Name → List Name → List Member → ClassDecl
class_of is_abstract name parent interfaces members = record { name = name; is_abstract = is_abstract; parent = parent; interfaces = interfaces; members = members }

abbrev pub tree_of : List Top → Tree
tree_of tops = record { tops = tops }

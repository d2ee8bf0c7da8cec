-- Bodies as mathematics: what the types of src/ hold, with no memory in it.
use Rattle.std.specs.Prelude.{ℕ, suc, Bool, List, [], ◌∷◌, Option, Some, None, map}
use Rattle.program.specs.declared.literal.Literal.{Literal}
use Rattle.program.specs.declared.body.Joint.{Joint}
use Rattle.program.specs.declared.body.OperatorCall.{OperatorCall}
use Rattle.program.specs.declared.body.Expression.{Expression}
use Rattle.program.specs.declared.body.Expression.TheOpen.{Expression-F}
use Rattle.program.specs.declared.body.Expression.TheFolds.{fold-Expression}
use Rattle.program.specs.declared.body.Piece.{Piece}
use Rattle.program.specs.declared.body.SiteCall.{SiteCall}
use Rattle.program.specs.declared.body.Link.{Link}
use Rattle.program.specs.declared.body.AssignmentTarget.TheVariants as to
use Rattle.program.specs.declared.body.AssignmentTarget as declared_target
use Rattle.program.specs.declared.body.UpdateTarget.TheVariants as up
use Rattle.program.specs.declared.body.UpdateTarget as declared_update
use Rattle.program.specs.declared.body.First.TheVariants as f
use Rattle.program.specs.declared.body.First as declared_first
use Rattle.program.specs.declared.body.Statement.{Statement}
use Rattle.program.specs.declared.body.Statement.TheOpen.{Statement-F}
use Rattle.program.specs.declared.body.Statement.TheFolds.{fold-Statement}

mutual
  -- an expression
  pub data Exp : Type 0 where
    constant : Literal → Exp
    this : Exp
    local global : ℕ → Exp
    interpolation : List ℕ → Pieces → Exp
    call_function : ℕ → Exps → Exp
    print : Exp → Exp
    new super : ℕ → Exps → Exp
    list_of : Exps → Exp
    postfix : Exp → Calls → Exp
    chain : Exp → Links → Exp
    not : Exp → Exp
    is : Exp → Bool → ℕ → Exp
    conditional : Exp → Exp → Exp → Exp
    assign : Target → Exp → Exp
    compound_assign : Update → OperatorCall → Exp → Exp
    increment : Bool → OperatorCall → Update → Exp
    throw : Exp → Exp

  -- expressions from left to right
  pub data Exps : Type 0 where
    no_more : Exps
    also : Exp → Exps → Exps

  -- the interpolations of a string: site, value, and the text behind it
  pub data Pieces : Type 0 where
    no_piece : Pieces
    piece : ℕ → Exp → List ℕ → Pieces → Pieces

  -- calls and reads through sites, each with its arguments, on what the one before it answered
  pub data Calls : Type 0 where
    no_call : Calls
    call : ℕ → Exps → Calls → Calls

  -- operators with their right sides
  pub data Links : Type 0 where
    no_link : Links
    link : Joint → Exp → Links → Links

  -- what is assigned to, with the member of `super` or the site that writes it
  pub data Target : Type 0 where
    to_local to_global to_super : ℕ → Target
    to_member : Exp → ℕ → Target
    to_element : Exp → Exp → ℕ → Target

  -- what is read and then written, with what reads it and what writes it
  pub data Update : Type 0 where
    of_local of_global : ℕ → Update
    of_super : ℕ → ℕ → Update
    of_member : Exp → ℕ → ℕ → Update
    of_element : Exp → Exp → ℕ → ℕ → Update

-- the first part of a `for`
pub data First : Type 0 where
  no_first : First
  first_declares first_runs : Exp → First

mutual
  -- a statement
  pub data Sta : Type 0 where
    block : Stas → Sta
    declare run : Exp → Sta
    empty : Sta
    when : Exp → Sta → Sta
    when_else : Exp → Sta → Sta → Sta
    while : Exp → Sta → Sta
    for : First → Exp → Exps → Sta → Sta
    do_while : Sta → Exp → Sta
    break continue : Sta
    return : Exp → Sta

  -- statements one after the other
  pub data Stas : Type 0 where
    end_of : Stas
    next : Sta → Stas → Stas

-- how many arguments there are
abbrev pub count : Exps → ℕ
count no_more = 0
count (also e more) = suc (count more)

-- What the types of src/ stand for.

-- arguments, elements, or the last part of a `for`
abbrev pub exps : List Exp → Exps
exps [] = no_more
exps (e ∷ more) = also e (exps more)

abbrev pub pieces : List (Piece Exp) → Pieces
pieces [] = no_piece
pieces (p ∷ more) = piece p.site.0 p.value p.then (pieces more)

abbrev pub calls : List (SiteCall Exp) → Calls
calls [] = no_call
calls (k ∷ more) = call k.site.0 (exps k.arguments) (calls more)

abbrev pub links : List (Link Exp) → Links
links [] = no_link
links (l ∷ more) = link l.joint l.operand (links more)

abbrev pub target : declared_target.AssignmentTarget Exp → Target
target (to.Local k) = to_local k
target (to.Global k) = to_global k
target (to.Super m) = to_super m.0
target (to.Member e s) = to_member e s.0
target (to.Element e i s) = to_element e i s.0

abbrev pub update : declared_update.UpdateTarget Exp → Update
update (up.Local k) = of_local k
update (up.Global k) = of_global k
update (up.Super g m) = of_super g.0 m.0
update (up.Member e g s) = of_member e g.0 s.0
update (up.Element e i g s) = of_element e i g.0 s.0

-- one expression, where those inside it are read already
abbrev pub exp_step : Expression-F Exp → Exp
exp_step (Expression-F.Constant k) = constant k
exp_step Expression-F.This = this
exp_step (Expression-F.Local k) = local k
exp_step (Expression-F.Global k) = global k
exp_step (Expression-F.Interpolation units more) = interpolation units (pieces more)
exp_step (Expression-F.CallFunction f args) = call_function f (exps args)
exp_step (Expression-F.Print e) = print e
exp_step (Expression-F.New c args) = new c.0 (exps args)
exp_step (Expression-F.Super m args) = super m.0 (exps args)
exp_step (Expression-F.List items) = list_of (exps items)
exp_step (Expression-F.Postfix e more) = postfix e (calls more)
exp_step (Expression-F.Chain e more) = chain e (links more)
exp_step (Expression-F.Not e) = not e
exp_step (Expression-F.Is e denied c) = is e denied c.0
exp_step (Expression-F.Conditional c x y) = conditional c x y
exp_step (Expression-F.Assign to e) = assign (target to) e
exp_step (Expression-F.CompoundAssign to op e) = compound_assign (update to) op e
exp_step (Expression-F.Increment before op to) = increment before op (update to)
exp_step (Expression-F.Throw e) = throw e

-- the expression that a value of src/ holds
abbrev pub exp : Expression → Exp
exp = fold-Expression Exp exp_step

-- the first part of a `for`
abbrev pub first : declared_first.First → First
first f.Nothing = no_first
first (f.Declares e) = first_declares (exp e)
first (f.Runs e) = first_runs (exp e)

abbrev pub stas : List Sta → Stas
stas [] = end_of
stas (x ∷ more) = next x (stas more)

-- an `if`, with an `else` or without
abbrev pub if_else : Exp → Sta → Option Sta → Sta
if_else c x None = when c x
if_else c x (Some y) = when_else c x y

-- one statement, where those inside it are read already
abbrev pub sta_step : Statement-F Sta → Sta
sta_step (Statement-F.Block all) = block (stas all)
sta_step (Statement-F.Declare e) = declare (exp e)
sta_step (Statement-F.Run e) = run (exp e)
sta_step Statement-F.Empty = empty
sta_step (Statement-F.If c x y) = if_else (exp c) x y
sta_step (Statement-F.While c x) = while (exp c) x
sta_step (Statement-F.For start c last x) = for (first start) (exp c) (exps (map exp last)) x
sta_step (Statement-F.Do x c) = do_while x (exp c)
sta_step Statement-F.Break = break
sta_step Statement-F.Continue = continue
sta_step (Statement-F.Return e) = return (exp e)

-- the statement that a value of src/ holds
abbrev pub sta : Statement → Sta
sta = fold-Statement Sta sta_step

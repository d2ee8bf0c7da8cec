-- How many instructions each part of a body takes: the places of the code are sums of these.
use Rattle.std.specs.Prelude.{ℕ, suc, ◌+◌, Bool, List, [], ◌∷◌, Option, None, Some, nat_eq}
use Rattle.program.specs.declared.body.BinaryOperator.{BinaryOperator}
use Rattle.program.specs.declared.body.BinaryOperator.TheVariants as b
use Rattle.program.specs.declared.body.Joint.{Joint}
use Rattle.program.specs.declared.body.Joint.TheVariants as joint
use Rattle.program.specs.Bodies as c
use Rattle.program.specs.Bodies.{Exp, Exps, Pieces, Calls, Links, Target, Update, First, Sta, Stas, count}
use Rattle.dart_meaning.specs.Run.{choose}

-- ---- beside the parts

-- how many interpolations there are
abbrev pub pieces_count : Pieces → ℕ
pieces_count c.no_piece = 0
pieces_count (c.piece s e after more) = suc (pieces_count more)

-- an operator, beside its operands
abbrev pub operator_size : BinaryOperator → ℕ
operator_size b.Equal = 2
operator_size b.NotEqual = 3
operator_size _ = 1

-- what joins two operands, beside them
abbrev pub joint_size : Joint → ℕ
joint_size joint.And = 4
joint_size joint.Or = 5
joint_size (joint.Operator k) = operator_size k.operator

-- the read of what is updated, whose operands are there
abbrev pub read_size : Update → ℕ
read_size (c.of_local k) = 1
read_size (c.of_global k) = 1
read_size _ = 2

-- what keeps the value that is written
abbrev pub keep_size : Target → ℕ
keep_size (c.to_local k) = 1
keep_size (c.to_global k) = 1
keep_size _ = 2

-- what writes it
abbrev pub set_size : Target → ℕ
set_size (c.to_local k) = 1
set_size (c.to_global k) = 1
set_size _ = 3

-- what is written of what is updated
abbrev pub written : Update → Target
written (c.of_local k) = c.to_local k
written (c.of_global k) = c.to_global k
written (c.of_super g m) = c.to_super m
written (c.of_member e g s) = c.to_member e s
written (c.of_element e i g s) = c.to_element e i s

-- a construction with so many arguments, beside them
abbrev pub make_size : ℕ → ℕ → ℕ
make_size class n = choose (nat_eq class 0) 1 (n + n + 2)

-- `is`, or `is!` where the flag is set
abbrev pub is_size : Bool → ℕ
is_size denied = choose denied 2 1

-- ---- expressions

abbrev mutual
  -- an expression
  pub size : Exp → ℕ
  size (c.constant k) = 1
  size c.this = 1
  size (c.local k) = 1
  size (c.global k) = 1
  size (c.interpolation units more) = 1 + (pieces_size more + 1)
  size (c.call_function f args) = sizes args + 1
  size (c.print e) = size e + 4
  size (c.new class args) = sizes args + make_size class (count args)
  size (c.super m args) = 1 + (sizes args + 1)
  size (c.list_of items) = sizes items + 1
  size (c.postfix e more) = size e + calls_size more
  size (c.chain e more) = size e + links_size more
  size (c.not e) = size e + 1
  size (c.is e denied class) = size e + is_size denied
  size (c.conditional x y z) = size x + (1 + (size y + (1 + size z)))
  size (c.assign to e) = place_size to + (size e + (keep_size to + set_size to))
  size (c.compound_assign to op e) =
      update_size to + (read_size to + (size e + (1 + (keep_size (written to) + set_size (written to)))))
  size (c.increment before op to) = update_size to + (read_size to + (2 + (keep_size (written to) + set_size (written to))))
  size (c.throw e) = size e + 1

  -- arguments, or the items of a list
  pub sizes : Exps → ℕ
  sizes c.no_more = 0
  sizes (c.also e more) = size e + sizes more

  -- interpolations, each with the text behind it
  pub pieces_size : Pieces → ℕ
  pieces_size c.no_piece = 0
  pieces_size (c.piece s e after more) = size e + (3 + pieces_size more)

  -- calls of a chain
  pub calls_size : Calls → ℕ
  calls_size c.no_call = 0
  calls_size (c.call s args more) = sizes args + (1 + calls_size more)

  -- operators with their right sides
  pub links_size : Links → ℕ
  links_size c.no_link = 0
  links_size (c.link op e more) = size e + (joint_size op + links_size more)

  -- the operands of what is assigned to
  pub place_size : Target → ℕ
  place_size (c.to_local k) = 0
  place_size (c.to_global k) = 0
  place_size (c.to_super m) = 1
  place_size (c.to_member e s) = size e
  place_size (c.to_element e i s) = size e + size i

  -- the operands of what is updated
  pub update_size : Update → ℕ
  update_size (c.of_local k) = 0
  update_size (c.of_global k) = 0
  update_size (c.of_super g m) = 1
  update_size (c.of_member e g s) = size e
  update_size (c.of_element e i g s) = size e + size i

-- ---- statements

-- the first part of a `for`
abbrev pub first_size : First → ℕ
first_size c.no_first = 0
first_size (c.first_declares e) = size e + 1
first_size (c.first_runs e) = size e + 1

-- the last part of a `for`, whose values are dropped
abbrev pub drops_size : Exps → ℕ
drops_size c.no_more = 0
drops_size (c.also e more) = size e + (1 + drops_size more)

-- `leave` is how many instructions `return` takes behind its value.
module _ (leave : ℕ) where
  abbrev mutual
    -- a statement
    pub sta_size : Sta → ℕ
    sta_size (c.block all) = stas_size all
    sta_size (c.declare e) = size e + 1
    sta_size (c.run e) = size e + 1
    sta_size c.empty = 0
    sta_size (c.when e x) = size e + (1 + sta_size x)
    sta_size (c.when_else e x y) = size e + (1 + (sta_size x + (1 + sta_size y)))
    sta_size (c.while e x) = size e + (2 + (sta_size x + 1))
    sta_size (c.for start e last x) = first_size start + (size e + (2 + (sta_size x + (drops_size last + 1))))
    sta_size (c.do_while x e) = 1 + (sta_size x + (size e + 2))
    sta_size c.break = 1
    sta_size c.continue = 1
    sta_size (c.return e) = size e + leave

    -- statements one after the other
    pub stas_size : Stas → ℕ
    stas_size c.end_of = 0
    stas_size (c.next x more) = sta_size x + stas_size more

-- ---- constructors

-- the parameters `this.x`
abbrev pub sets_size : List (Option ℕ) → ℕ
sets_size [] = 0
sets_size (None ∷ more) = sets_size more
sets_size (Some field ∷ more) = 3 + sets_size more

-- the call of the superclass's constructor with what it is passed
abbrev pub above_size : ℕ → Exps → ℕ
above_size above passes = choose (nat_eq above 0) 0 (1 + (sizes passes + 2))

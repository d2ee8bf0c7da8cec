-- What a body needs of its pool and its unit: `K` holds of its literals, and beside the variables there is room for the arguments of its constructions.
use Rattle.std.specs.Prelude.{ℕ, suc, pos, ◌≤◌, map}
use Rattle.program.specs.declared.literal.Literal.{Literal}
use Rattle.program.specs.declared.literal.Literal.TheVariants as literals
use Rattle.program.specs.declared.body.Body.{Body}
use Rattle.program.specs.declared.body.Body.TheVariants as body
use Rattle.program.specs.Bodies as c
use Rattle.program.specs.Bodies.{Exp, Exps, Pieces, Calls, Links, Target, Update, First, Sta, Stas, count}
use Rattle.program.specs.Sound.{after as sound_after, after_first as sound_after_first}

-- ---- literals, and room for the arguments of constructions

abbrev mutual
  -- an expression
  pub Covers : (Literal → Type 0) → ℕ → Exp → Type 0
  Covers K room (c.constant k) = K k
  Covers K room c.this = Unit {0}
  Covers K room (c.local k) = Unit {0}
  Covers K room (c.global k) = Unit {0}
  Covers K room (c.interpolation units more) = K (literals.Str units) × CoversPieces K room more
  Covers K room (c.call_function g args) = CoversAll K room args
  Covers K room (c.print e) = Covers K room e
  Covers K room (c.new class args) = (count args ≤ room) × CoversAll K room args
  Covers K room (c.super m args) = CoversAll K room args
  Covers K room (c.list_of items) = CoversAll K room items
  Covers K room (c.postfix e more) = Covers K room e × CoversCalls K room more
  Covers K room (c.chain e more) = Covers K room e × CoversLinks K room more
  Covers K room (c.not e) = Covers K room e
  Covers K room (c.is e denied class) = Covers K room e
  Covers K room (c.conditional x y z) = Covers K room x × Covers K room y × Covers K room z
  Covers K room (c.assign to e) = CoversTarget K room to × Covers K room e
  Covers K room (c.compound_assign to op e) = CoversUpdate K room to × Covers K room e
  Covers K room (c.increment before op to) = K (literals.Int (pos 1)) × CoversUpdate K room to
  Covers K room (c.throw e) = Covers K room e

  -- expressions from left to right
  pub CoversAll : (Literal → Type 0) → ℕ → Exps → Type 0
  CoversAll K room c.no_more = Unit {0}
  CoversAll K room (c.also e more) = Covers K room e × CoversAll K room more

  -- interpolations
  pub CoversPieces : (Literal → Type 0) → ℕ → Pieces → Type 0
  CoversPieces K room c.no_piece = Unit {0}
  CoversPieces K room (c.piece s e behind more) = K (literals.Str behind) × Covers K room e × CoversPieces K room more

  -- calls of a chain
  pub CoversCalls : (Literal → Type 0) → ℕ → Calls → Type 0
  CoversCalls K room c.no_call = Unit {0}
  CoversCalls K room (c.call s args more) = CoversAll K room args × CoversCalls K room more

  -- operators with their right sides
  pub CoversLinks : (Literal → Type 0) → ℕ → Links → Type 0
  CoversLinks K room c.no_link = Unit {0}
  CoversLinks K room (c.link op e more) = Covers K room e × CoversLinks K room more

  -- what is assigned to
  pub CoversTarget : (Literal → Type 0) → ℕ → Target → Type 0
  CoversTarget K room (c.to_local k) = Unit {0}
  CoversTarget K room (c.to_global k) = Unit {0}
  CoversTarget K room (c.to_super m) = Unit {0}
  CoversTarget K room (c.to_member e s) = Covers K room e
  CoversTarget K room (c.to_element e i s) = Covers K room e × Covers K room i

  -- what is updated
  pub CoversUpdate : (Literal → Type 0) → ℕ → Update → Type 0
  CoversUpdate K room (c.of_local k) = Unit {0}
  CoversUpdate K room (c.of_global k) = Unit {0}
  CoversUpdate K room (c.of_super g m) = Unit {0}
  CoversUpdate K room (c.of_member e g s) = Covers K room e
  CoversUpdate K room (c.of_element e i g s) = Covers K room e × Covers K room i

-- the first part of a `for`
abbrev pub CoversFirst : (Literal → Type 0) → ℕ → First → Type 0
CoversFirst K room c.no_first = Unit {0}
CoversFirst K room (c.first_declares e) = Covers K room e
CoversFirst K room (c.first_runs e) = Covers K room e

abbrev mutual
  -- a statement
  pub CoversSta : (Literal → Type 0) → ℕ → Sta → Type 0
  CoversSta K room (c.block all) = CoversStas K room all
  CoversSta K room (c.declare e) = Covers K room e
  CoversSta K room (c.run e) = Covers K room e
  CoversSta K room c.empty = Unit {0}
  CoversSta K room (c.when e x) = Covers K room e × CoversSta K room x
  CoversSta K room (c.when_else e x y) = Covers K room e × CoversSta K room x × CoversSta K room y
  CoversSta K room (c.while e x) = Covers K room e × CoversSta K room x
  CoversSta K room (c.for start e last x) =
      CoversFirst K room start × Covers K room e × CoversAll K room last × CoversSta K room x
  CoversSta K room (c.do_while x e) = CoversSta K room x × Covers K room e
  CoversSta K room c.break = Unit {0}
  CoversSta K room c.continue = Unit {0}
  CoversSta K room (c.return e) = Covers K room e

  -- statements one after the other
  pub CoversStas : (Literal → Type 0) → ℕ → Stas → Type 0
  CoversStas K room c.end_of = Unit {0}
  CoversStas K room (c.next x more) = CoversSta K room x × CoversStas K room more

-- a body
abbrev pub CoversBody : (Literal → Type 0) → ℕ → Body → Type 0
CoversBody K room (body.Arrow e) = Covers K room (c.exp e)
CoversBody K room (body.Block all) = CoversStas K room (c.stas (map c.sta all))

-- ---- variables

-- how many variables are open behind statements
abbrev pub all_after : ℕ → Stas → ℕ
all_after m c.end_of = m
all_after m (c.next x more) = all_after (sound_after m x) more

-- No more than so many variables are ever open, where m are open before.
abbrev mutual
  -- within a statement
  pub Roomy : ℕ → ℕ → Sta → Type 0
  Roomy most m (c.block all) = RoomyAll most m all
  Roomy most m (c.declare e) = suc m ≤ most
  Roomy most m (c.when e x) = Roomy most m x
  Roomy most m (c.when_else e x y) = Roomy most m x × Roomy most m y
  Roomy most m (c.while e x) = Roomy most m x
  Roomy most m (c.for start e last x) = (sound_after_first m start ≤ most) × Roomy most (sound_after_first m start) x
  Roomy most m (c.do_while x e) = Roomy most m x
  Roomy most m _ = Unit {0}

  -- within statements, and between them
  pub RoomyAll : ℕ → ℕ → Stas → Type 0
  RoomyAll most m c.end_of = Unit {0}
  RoomyAll most m (c.next x more) = Roomy most m x × (sound_after m x ≤ most) × RoomyAll most (sound_after m x) more

-- a body, which begins with its parameters
abbrev pub RoomyBody : ℕ → ℕ → Body → Type 0
RoomyBody most m (body.Arrow e) = Unit {0}
RoomyBody most m (body.Block all) = RoomyAll most m (c.stas (map c.sta all))

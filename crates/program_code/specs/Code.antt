-- The code of bodies. A jump names its place in the unit, so the code of a part takes the place `t` where it stands.
use Rattle.std.specs.Prelude.{ℕ, zero, suc, ◌+◌, ◌-◌, ◌*◌, pos, Bool, true, false, nat_eq, List, [], ◌∷◌, ◌++◌, length, map, Option, Some, None, codes}
use Rattle.code_unit.specs.declared.instr.Instr.{Instr}
use Rattle.code_unit.specs.declared.instr.Instr.TheVariants.{Const, Local, SetLocal, Global, SetGlobal, Pop, Dup, Dup2, Jump, JumpIfFalse, ExpectBool, Not, LoopTurn, Call, Equal, CallStatic, CallMethod, New, SetField, MakeList, Concat, ExpectString, IsClass, Emit, ElementOr, Throw, Return}
use Rattle.program.specs.declared.ids.ClassId.{ClassId}
use Rattle.program.specs.declared.ids.MethodId.{MethodId}
use Rattle.program.specs.declared.ids.SiteId.{SiteId}
use Rattle.program.specs.declared.literal.Literal.{Literal}
use Rattle.program.specs.declared.literal.Literal.TheVariants as l
use Rattle.program.specs.declared.body.BinaryOperator.{BinaryOperator}
use Rattle.program.specs.declared.body.BinaryOperator.TheVariants as b
use Rattle.program.specs.declared.body.Joint.{Joint}
use Rattle.program.specs.declared.body.Joint.TheVariants as joint
use Rattle.program.specs.declared.body.OperatorCall.{OperatorCall}
use Rattle.program.specs.declared.body.Body.{Body}
use Rattle.program.specs.declared.body.Body.TheVariants as body
use Rattle.program.specs.Bodies as c
use Rattle.program.specs.Bodies.{Exp, Exps, Pieces, Calls, Links, Target, Update, First, Sta, Stas, count}
use Rattle.program.specs.Sound.{after, after_first}
use Rattle.program.specs.Parts.{Parts}
use Rattle.dart_meaning.specs.Run.{choose}
use Rattle.program_code.specs.Sizes.{pieces_count, joint_size, read_size, written, size, sizes, place_size, update_size, first_size, drops_size, sta_size, stas_size, sets_size, above_size}

-- the site of a number
abbrev pub site : ℕ → SiteId
site s = record { 0 = s }

-- the method of a number
abbrev pub method : ℕ → MethodId
method m = record { 0 = m }

-- the class of a number
abbrev pub class_id : ℕ → ClassId
class_id k = record { 0 = k }

-- `constant` gives the number of a literal. A body's variables stand from slot `first` on; the slots from `scratch` on are for a value that is used twice.
module _ (p : Parts) (constant : Literal → ℕ) (first scratch : ℕ) where
  -- the site of `print`: the last two are those of `print` and of a list's text
  abbrev pub print_site : ℕ
  print_site = length p.sites - 2

  -- The static number of a class's constructor: those of the user's classes follow the functions.
  abbrev pub constructor : ℕ → ℕ
  constructor class = length p.functions + (class - 7)

  -- ---- constructions

  -- the last n operands, the last one first, into slots from number k on
  abbrev pub stash : ℕ → ℕ → List Instr
  stash k zero = []
  stash k (suc n) = SetLocal (scratch + k) ∷ stash (suc k) n

  -- and back
  abbrev pub fetch : ℕ → List Instr
  fetch zero = []
  fetch (suc n) = Local (scratch + n) ∷ fetch n

  -- The object is made behind its arguments, and goes below them. Object's constructor is not entered.
  abbrev pub make : ℕ → ℕ → List Instr
  make class n =
      choose (nat_eq class 0) (New (class_id class) ∷ [])
      (stash 0 n ++ (New (class_id class) ∷ (fetch n ++ CallStatic (constructor class) (suc n) ∷ [])))

  -- ---- what is read and written, with its receiver and index as operands, or `this` for a member of the superclass

  -- It is read, and the operands stay.
  abbrev pub read : Update → List Instr
  read (c.of_local k) = Local (first + k) ∷ []
  read (c.of_global k) = Global k ∷ []
  read (c.of_super g m) = Dup ∷ CallMethod (method g) 1 ∷ []
  read (c.of_member e g s) = Dup ∷ Call (site g) 0 ∷ []
  read (c.of_element e i g s) = Dup2 ∷ Call (site g) 1 ∷ []

  -- The value on top is what the expression answers. A call takes it, so it goes into a slot.
  abbrev pub keep : Target → List Instr
  keep (c.to_local k) = Dup ∷ []
  keep (c.to_global k) = Dup ∷ []
  keep _ = Dup ∷ SetLocal scratch ∷ []

  -- The value on top is written, and what was kept is on top. What the call answers is dropped.
  abbrev pub set : Target → List Instr
  set (c.to_local k) = SetLocal (first + k) ∷ []
  set (c.to_global k) = SetGlobal k ∷ []
  set (c.to_super m) = CallMethod (method m) 2 ∷ Pop ∷ Local scratch ∷ []
  set (c.to_member e s) = Call (site s) 1 ∷ Pop ∷ Local scratch ∷ []
  set (c.to_element e i s) = Call (site s) 2 ∷ Pop ∷ Local scratch ∷ []

  -- the operator of a compound assignment, with the old value and the right side as operands
  abbrev pub operate : OperatorCall → Instr
  operate op = Call op.site 1

  -- `++` and `--`, with the operands there: what is kept is the new value where they stand before, or the old one
  abbrev pub stepped : Bool → OperatorCall → Update → List Instr
  stepped true op to =
      read to ++ (Const (constant (l.Int (pos 1))) ∷ operate op ∷ (keep (written to) ++ set (written to)))
  stepped false op to =
      read to ++ (keep (written to) ++ (Const (constant (l.Int (pos 1))) ∷ operate op ∷ set (written to)))

  -- ---- operators

  -- the negation of `is!`
  abbrev pub denied_if : Bool → List Instr
  denied_if true = Not ∷ []
  denied_if false = []

  -- where the right side of an operator stands: behind the test of a lazy one
  abbrev pub right_at : Joint → ℕ → ℕ
  right_at joint.And t = t + 3
  right_at joint.Or t = t + 4
  right_at (joint.Operator k) t = t

  -- an operator's call, with both values as operands
  abbrev pub combined : BinaryOperator → SiteId → List Instr
  combined b.Equal s = Equal s ∷ ExpectBool ∷ []
  combined b.NotEqual s = Equal s ∷ ExpectBool ∷ Not ∷ []
  combined _ s = Call s 1 ∷ []

  -- An operator, with the value on its left on top; `right` is the code of the other side, so many instructions.
  abbrev pub linked : Joint → ℕ → List Instr → ℕ → List Instr
  linked joint.And t right n = Dup ∷ JumpIfFalse (t + 3 + n + 1) ∷ Pop ∷ (right ++ ExpectBool ∷ [])
  linked joint.Or t right n = Dup ∷ Not ∷ JumpIfFalse (t + 4 + n + 1) ∷ Pop ∷ (right ++ ExpectBool ∷ [])
  linked (joint.Operator k) t right n = right ++ combined k.operator k.site

  -- ---- expressions

  abbrev mutual
    -- an expression leaves its value on top
    pub code : Exp → ℕ → List Instr
    code (c.constant k) t = Const (constant k) ∷ []
    code c.this t = Local 0 ∷ []
    code (c.local k) t = Local (first + k) ∷ []
    code (c.global k) t = Global k ∷ []
    code (c.interpolation units more) t =
        Const (constant (l.Str units)) ∷ (pieces more (t + 1) ++ Concat (1 + 2 * pieces_count more) ∷ [])
    code (c.call_function f args) t = codes_of args t ++ CallStatic f (count args) ∷ []
    code (c.print e) t = code e t ++ Call (site print_site) 0 ∷ ExpectString ∷ Emit ∷ Const (constant l.Null) ∷ []
    code (c.new class args) t = codes_of args t ++ make class (count args)
    code (c.super m args) t = Local 0 ∷ (codes_of args (t + 1) ++ CallMethod (method m) (suc (count args)) ∷ [])
    code (c.list_of items) t = codes_of items t ++ MakeList (count items) ∷ []
    code (c.postfix e more) t = code e t ++ calls more (t + size e)
    code (c.chain e more) t = code e t ++ links more (t + size e)
    code (c.not e) t = code e t ++ Not ∷ []
    code (c.is e denied class) t = code e t ++ (IsClass (class_id class) ∷ denied_if denied)
    code (c.conditional x y z) t =
        let then_at : ℕ = t + size x + 1 in
        let else_at : ℕ = then_at + size y + 1 in
        code x t ++ (JumpIfFalse else_at ∷ (code y then_at ++ (Jump (else_at + size z) ∷ code z else_at)))
    code (c.assign to e) t = place to t ++ (code e (t + place_size to) ++ (keep to ++ set to))
    code (c.compound_assign to op e) t =
        update_place to t
        ++ (read to ++ (code e (t + update_size to + read_size to) ++ (operate op ∷ (keep (written to) ++ set (written to)))))
    code (c.increment before op to) t = update_place to t ++ stepped before op to
    code (c.throw e) t = code e t ++ Throw ∷ []

    -- arguments, or the items of a list, from left to right
    pub codes_of : Exps → ℕ → List Instr
    codes_of c.no_more t = []
    codes_of (c.also e more) t = code e t ++ codes_of more (t + size e)

    -- interpolations, and the texts behind them
    pub pieces : Pieces → ℕ → List Instr
    pieces c.no_piece t = []
    pieces (c.piece s e after more) t =
        code e t ++ (Call (site s) 0 ∷ ExpectString ∷ Const (constant (l.Str after)) ∷ pieces more (t + size e + 3))

    -- calls, each on the value that the one before it left
    pub calls : Calls → ℕ → List Instr
    calls c.no_call t = []
    calls (c.call s args more) t = codes_of args t ++ (Call (site s) (count args) ∷ calls more (t + sizes args + 1))

    -- operators, each on the value that the one before it left
    pub links : Links → ℕ → List Instr
    links c.no_link t = []
    links (c.link op e more) t = linked op t (code e (right_at op t)) (size e) ++ links more (t + (size e + joint_size op))

    -- the operands of what is assigned to
    pub place : Target → ℕ → List Instr
    place (c.to_local k) t = []
    place (c.to_global k) t = []
    place (c.to_super m) t = Local 0 ∷ []
    place (c.to_member e s) t = code e t
    place (c.to_element e i s) t = code e t ++ code i (t + size e)

    -- the operands of what is updated
    pub update_place : Update → ℕ → List Instr
    update_place (c.of_local k) t = []
    update_place (c.of_global k) t = []
    update_place (c.of_super g m) t = Local 0 ∷ []
    update_place (c.of_member e g s) t = code e t
    update_place (c.of_element e i g s) t = code e t ++ code i (t + size e)

  -- ---- statements

  -- the last part of a `for`: values that are dropped
  abbrev pub drops : Exps → ℕ → List Instr
  drops c.no_more t = []
  drops (c.also e more) t = code e t ++ (Pop ∷ drops more (t + size e + 1))

  -- the first part of a `for`, where n variables are open
  abbrev pub first_code : First → ℕ → ℕ → List Instr
  first_code c.no_first n t = []
  first_code (c.first_declares e) n t = code e t ++ SetLocal (first + n) ∷ []
  first_code (c.first_runs e) n t = code e t ++ Pop ∷ []

  -- It tests, spends a turn, does its body and its last part, and jumps back. Its parts stand at the places behind its test.
  abbrev pub loop_code : ℕ → ℕ → List Instr → List Instr → List Instr → List Instr
  loop_code top end test body last = test ++ (JumpIfFalse end ∷ LoopTurn ∷ (body ++ (last ++ Jump top ∷ [])))

  -- `leave` is what `return` does with the value on top.
  module _ (leave : List Instr) where
    abbrev mutual
      -- A statement, where n variables are open; `brk` and `cont` are where `break` and `continue` go.
      pub sta : Sta → ℕ → ℕ → ℕ → ℕ → List Instr
      sta (c.block all) n brk cont t = stas all n brk cont t
      sta (c.declare e) n brk cont t = code e t ++ SetLocal (first + n) ∷ []
      sta (c.run e) n brk cont t = code e t ++ Pop ∷ []
      sta c.empty n brk cont t = []
      sta (c.when e x) n brk cont t =
          let then_at : ℕ = t + size e + 1 in
          code e t ++ (JumpIfFalse (then_at + sta_size (length leave) x) ∷ sta x n brk cont then_at)
      sta (c.when_else e x y) n brk cont t =
          let then_at : ℕ = t + size e + 1 in
          let else_at : ℕ = then_at + sta_size (length leave) x + 1 in
          code e t
          ++ (JumpIfFalse else_at ∷ (sta x n brk cont then_at ++ (Jump (else_at + sta_size (length leave) y) ∷ sta y n brk cont else_at)))
      sta (c.while e x) n brk cont t =
          let body_at : ℕ = t + size e + 2 in
          let last_at : ℕ = body_at + sta_size (length leave) x in
          let end : ℕ = last_at + 1 in
          loop_code t end (code e t) (sta x n end last_at body_at) []
      sta (c.for start e last x) n brk cont t =
          let m : ℕ = after_first n start in
          let top : ℕ = t + first_size start in
          let body_at : ℕ = top + size e + 2 in
          let last_at : ℕ = body_at + sta_size (length leave) x in
          let end : ℕ = last_at + drops_size last + 1 in
          first_code start n t ++ loop_code top end (code e top) (sta x m end last_at body_at) (drops last last_at)
      sta (c.do_while x e) n brk cont t =
          let body_at : ℕ = t + 1 in
          let test_at : ℕ = body_at + sta_size (length leave) x in
          let end : ℕ = test_at + size e + 2 in
          LoopTurn ∷ (sta x n end test_at body_at ++ (code e test_at ++ JumpIfFalse end ∷ Jump t ∷ []))
      sta c.break n brk cont t = Jump brk ∷ []
      sta c.continue n brk cont t = Jump cont ∷ []
      sta (c.return e) n brk cont t = code e t ++ leave

      -- Statements one after the other; what one of them declares is open behind it.
      pub stas : Stas → ℕ → ℕ → ℕ → ℕ → List Instr
      stas c.end_of n brk cont t = []
      stas (c.next x more) n brk cont t =
          sta x n brk cont t ++ stas more (after n x) brk cont (t + sta_size (length leave) x)

  -- ---- bodies

  -- `return` in a body
  abbrev pub with_value : List Instr
  with_value = Return ∷ []

  -- A body with so many parameters. One that ends without `return` answers null.
  abbrev pub body_code : Body → ℕ → List Instr
  body_code (body.Arrow e) n = code (c.exp e) 0 ++ Return ∷ []
  body_code (body.Block all) n =
      let end : ℕ = stas_size 1 (c.stas (map c.sta all)) in
      stas with_value (c.stas (map c.sta all)) n end end 0 ++ Const (constant l.Null) ∷ Return ∷ []

  -- ---- constructors, whose object is in slot 0 and whose parameters stand behind it

  -- each `this.x`: the object's field is the parameter in slot i
  abbrev pub sets_code : List (Option ℕ) → ℕ → List Instr
  sets_code [] i = []
  sets_code (None ∷ more) i = sets_code more (suc i)
  sets_code (Some field ∷ more) i = Local 0 ∷ Local i ∷ SetField field ∷ sets_code more (suc i)

  -- The superclass's constructor is called with what it is passed. Object's is not.
  abbrev pub above_code : ℕ → Exps → ℕ → List Instr
  above_code above passes t =
      choose (nat_eq above 0) []
      (Local 0 ∷ (codes_of passes (t + 1) ++ CallStatic (constructor above) (suc (count passes)) ∷ Pop ∷ []))

  -- `return` in a constructor
  abbrev pub with_object : List Instr
  with_object = Pop ∷ Local 0 ∷ Return ∷ []

  -- A constructor with so many parameters answers its object.
  abbrev pub constructor_code : ℕ → List (Option ℕ) → Exps → Stas → ℕ → List Instr
  constructor_code above sets passes all n =
      let body_at : ℕ = sets_size sets + above_size above passes in
      let end : ℕ = body_at + stas_size 3 all in
      sets_code sets first
      ++ (above_code above passes (sets_size sets) ++ (stas with_object all n end end body_at ++ Local 0 ∷ Return ∷ []))

  -- The text of a list, which is in slot 0: slot 1 is the number of the next element, slot 2 what stands before it, and the text so far is on top.
  abbrev pub list_text_code : List Instr
  list_text_code =
      Const (constant (l.Str (codes "["))) ∷ Const (constant (l.Int (pos 0))) ∷ SetLocal 1 ∷ Const (constant (l.Str [])) ∷ SetLocal 2
      -- 5: the next element, or on to the end
      ∷ Local 2 ∷ Local 0 ∷ Local 1 ∷ ElementOr 17 ∷ SetLocal 1
      ∷ LoopTurn ∷ Call (site (length p.sites - 1)) 0 ∷ ExpectString ∷ Concat 3
      ∷ Const (constant (l.Str (codes ", "))) ∷ SetLocal 2 ∷ Jump 5
      -- 17: the end
      ∷ Pop ∷ Const (constant (l.Str (codes "]"))) ∷ Concat 2 ∷ Return ∷ []

-- What is written for each part of a body, in the order in which it is written.
use Rattle.std.specs.Prelude.{ℕ, zero, suc, ◌+◌, ◌-◌, ◌*◌, pos, Bool, true, false, nat_eq, List, [], ◌∷◌, length}
use Rattle.program.specs.declared.ids.SiteId.{SiteId}
use Rattle.program.specs.declared.literal.Literal.{Literal}
use Rattle.program.specs.declared.literal.Literal.TheVariants as l
use Rattle.program.specs.declared.body.BinaryOperator.{BinaryOperator}
use Rattle.program.specs.declared.body.BinaryOperator.TheVariants as b
use Rattle.program.specs.declared.body.Joint.{Joint}
use Rattle.program.specs.declared.body.Joint.TheVariants as joint
use Rattle.program.specs.declared.body.OperatorCall.{OperatorCall}
use Rattle.program.specs.Bodies as c
use Rattle.program.specs.Bodies.{Exp, Exps, Pieces, Calls, Links, Target, Update, First, Sta, Stas, count}
use Rattle.dart_meaning.specs.Run.{choose}
use Rattle.code_unit.specs.declared.instr.Instr.{Instr}
use Rattle.code_unit.specs.declared.instr.Instr.TheVariants.{Const, Local, SetLocal, Global, SetGlobal, Pop, Dup, Dup2, Jump, JumpIfFalse, ExpectBool, Not, LoopTurn, Call, Equal, CallStatic, CallMethod, New, MakeList, Concat, ExpectString, IsClass, Emit, Throw, Return}
use Rattle.program_code.specs.Code.{site, method, class_id}
use Rattle.program_code.specs.Sizes.{pieces_count, written}
use Rattle.code_writer.specs.declared.layout.Layout.{Layout}
use Rattle.code_writer.specs.declared.places.Destination.{Destination}
use Rattle.code_writer.specs.declared.places.Destination.TheVariants as at
use Rattle.code_writer.specs.Out.{Out, put, put_constant, with_room, patched, behind}

-- where a value is written
abbrev pub destination : Target → Destination
destination (c.to_local k) = at.Local k
destination (c.to_global k) = at.Global k
destination (c.to_super m) = at.Super (method m)
destination (c.to_member e x) = at.Member (site x)
destination (c.to_element e i x) = at.Element (site x)

module _ (layout : Layout) where
  -- ---- constructions

  -- the pops of n operands into slots from number k on
  abbrev pub put_stash : ℕ → ℕ → Out → Out
  put_stash k zero s = s
  put_stash k (suc n) s = put (SetLocal (layout.scratch + k)) (put_stash (suc k) n s)

  -- the pushes of n slots, the last one first
  abbrev pub put_fetch : ℕ → Out → Out
  put_fetch zero s = s
  put_fetch (suc n) s = put (Local (layout.scratch + n)) (put_fetch n s)

  -- the static number of a class's constructor
  abbrev pub constructor : ℕ → ℕ
  constructor class = layout.functions + (class - 7)

  -- a construction behind its arguments
  abbrev pub put_make : ℕ → ℕ → Out → Out
  put_make class n s =
      choose (nat_eq class 0) (put (New (class_id class)) (with_room n s))
      (put_stash 0 n (put (New (class_id class)) (put_fetch n (put (CallStatic (constructor class) (suc n)) (with_room n s)))))

  -- ---- what is read and written

  -- the read of what is updated
  abbrev pub put_read : Update → Out → Out
  put_read (c.of_local k) s = put (Local (layout.first + k)) s
  put_read (c.of_global k) s = put (Global k) s
  put_read (c.of_super g m) s = put Dup (put (CallMethod (method g) 1) s)
  put_read (c.of_member e g x) s = put Dup (put (Call (site g) 0) s)
  put_read (c.of_element e i g x) s = put Dup2 (put (Call (site g) 1) s)

  -- what keeps the value that is written
  abbrev pub put_keep : Destination → Out → Out
  put_keep (at.Local k) s = put Dup s
  put_keep (at.Global k) s = put Dup s
  put_keep _ s = put Dup (put (SetLocal layout.scratch) s)

  -- the call of what writes, and what was kept
  abbrev pub put_call : Instr → Out → Out
  put_call i s = put i (put Pop (put (Local layout.scratch) s))

  -- what writes
  abbrev pub put_set : Destination → Out → Out
  put_set (at.Local k) s = put (SetLocal (layout.first + k)) s
  put_set (at.Global k) s = put (SetGlobal k) s
  put_set (at.Super m) s = put_call (CallMethod m 2) s
  put_set (at.Member x) s = put_call (Call x 1) s
  put_set (at.Element x) s = put_call (Call x 2) s

  -- an operator's call
  abbrev pub put_operator : OperatorCall → Out → Out
  put_operator k s = put (Call k.site 1) s

  -- `++` and `--` behind the operands
  abbrev pub put_step : Bool → OperatorCall → Update → Out → Out
  put_step true op to s =
      put_read to (put_constant (l.Int (pos 1)) (put_operator op (put_keep (destination (written to)) (put_set (destination (written to)) s))))
  put_step false op to s =
      put_read to (put_keep (destination (written to)) (put_constant (l.Int (pos 1)) (put_operator op (put_set (destination (written to)) s))))

  -- ---- operators

  -- a call behind both operands
  abbrev pub put_combined : BinaryOperator → SiteId → Out → Out
  put_combined b.Equal x s = put (Equal x) (put ExpectBool s)
  put_combined b.NotEqual x s = put (Equal x) (put ExpectBool (put Not s))
  put_combined _ x s = put (Call x 1) s

  -- what stands behind the right side
  abbrev pub put_joint : Joint → Out → Out
  put_joint joint.And s = put ExpectBool s
  put_joint joint.Or s = put ExpectBool s
  put_joint (joint.Operator k) s = put_combined k.operator k.site s

  -- the test before the right side of a lazy operator, where so many instructions are behind it all
  abbrev pub put_test : Joint → ℕ → Out → Out
  put_test joint.And end s = put Dup (put (JumpIfFalse end) (put Pop s))
  put_test joint.Or end s = put Dup (put Not (put (JumpIfFalse end) (put Pop s)))
  put_test (joint.Operator k) end s = s

  -- the negation of `is!`
  abbrev pub put_if : Bool → Instr → Out → Out
  put_if true i s = put i s
  put_if false i s = s

  -- ---- expressions

  abbrev mutual
    -- an expression
    pub emit : Exp → Out → Out
    emit (c.constant k) s = put_constant k s
    emit c.this s = put (Local 0) s
    emit (c.local k) s = put (Local (layout.first + k)) s
    emit (c.global k) s = put (Global k) s
    emit (c.interpolation units more) s =
        put_constant (l.Str units) (emit_pieces more (put (Concat (1 + 2 * pieces_count more)) s))
    emit (c.call_function f args) s = emit_all args (put (CallStatic f (count args)) s)
    emit (c.print e) s =
        emit e (put (Call (site layout.print_site) 0) (put ExpectString (put Emit (put_constant l.Null s))))
    emit (c.new class args) s = emit_all args (put_make class (count args) s)
    emit (c.super m args) s = put (Local 0) (emit_all args (put (CallMethod (method m) (suc (count args))) s))
    emit (c.list_of items) s = emit_all items (put (MakeList (count items)) s)
    emit (c.postfix e more) s = emit e (emit_calls more s)
    emit (c.chain e more) s = emit e (emit_links more s)
    emit (c.not e) s = emit e (put Not s)
    emit (c.is e denied class) s = emit e (put (IsClass (class_id class)) (put_if denied Not s))
    emit (c.conditional x y z) s =
        emit x (put (JumpIfFalse (behind (emit z s))) (emit y (put (Jump (behind s)) (emit z s))))
    emit (c.assign to e) s = emit_place to (emit e (put_keep (destination to) (put_set (destination to) s)))
    emit (c.compound_assign to op e) s =
        emit_update to (put_read to (emit e (put_operator op (put_keep (destination (written to)) (put_set (destination (written to)) s)))))
    emit (c.increment before op to) s = emit_update to (put_step before op to s)
    emit (c.throw e) s = emit e (put Throw s)

    -- expressions, the last one first
    pub emit_all : Exps → Out → Out
    emit_all c.no_more s = s
    emit_all (c.also e more) s = emit e (emit_all more s)

    -- interpolations
    pub emit_pieces : Pieces → Out → Out
    emit_pieces c.no_piece s = s
    emit_pieces (c.piece x e after more) s =
        emit e (put (Call (site x) 0) (put ExpectString (put_constant (l.Str after) (emit_pieces more s))))

    -- calls of a chain
    pub emit_calls : Calls → Out → Out
    emit_calls c.no_call s = s
    emit_calls (c.call x args more) s = emit_all args (put (Call (site x) (count args)) (emit_calls more s))

    -- operators with their right sides
    pub emit_links : Links → Out → Out
    emit_links c.no_link s = s
    emit_links (c.link op e more) s =
        put_test op (behind (emit_links more s)) (emit e (put_joint op (emit_links more s)))

    -- the operands of what is assigned to
    pub emit_place : Target → Out → Out
    emit_place (c.to_local k) s = s
    emit_place (c.to_global k) s = s
    emit_place (c.to_super m) s = put (Local 0) s
    emit_place (c.to_member e x) s = emit e s
    emit_place (c.to_element e i x) s = emit e (emit i s)

    -- the operands of what is updated
    pub emit_update : Update → Out → Out
    emit_update (c.of_local k) s = s
    emit_update (c.of_global k) s = s
    emit_update (c.of_super g m) s = put (Local 0) s
    emit_update (c.of_member e g x) s = emit e s
    emit_update (c.of_element e i g x) s = emit e (emit i s)

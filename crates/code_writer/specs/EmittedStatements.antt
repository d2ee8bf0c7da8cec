-- What is written for statements, bodies and constructors, in the order in which it is written.
use Rattle.std.specs.Prelude.{ℕ, suc, ◌+◌, Bool, true, false, nat_eq, List, [], ◌∷◌, map, Option, None, Some, max, codes, pos}
use Rattle.program.specs.declared.literal.Literal.TheVariants as l
use Rattle.program.specs.declared.body.Body.{Body}
use Rattle.program.specs.declared.body.Body.TheVariants as body
use Rattle.program.specs.Bodies as c
use Rattle.program.specs.Bodies.{Exps, First, Sta, Stas, count}
use Rattle.program.specs.Sound.{after, after_first}
use Rattle.dart_meaning.specs.Run.{choose}
use Rattle.code_unit.specs.declared.instr.Instr.{Instr}
use Rattle.code_unit.specs.declared.instr.Instr.TheVariants.{Local, SetLocal, SetField, Pop, Jump, JumpIfFalse, LoopTurn, Call, CallStatic, Concat, ExpectString, ElementOr, Return}
use Rattle.program_code.specs.Code.{site}
use Rattle.code_writer.specs.declared.layout.Layout.{Layout}
use Rattle.code_writer.specs.Out.{Out, put, put_constant, patched, behind}
use Rattle.code_writer.specs.Emitted.{emit, emit_all, constructor}

module _ (layout : Layout) where
  -- `return` behind its value
  abbrev pub put_leave : Out → Out
  put_leave s = choose layout.of_constructor (put Pop (put (Local 0) (put Return s))) (put Return s)

  -- expressions whose values are dropped
  abbrev pub emit_drops : Exps → Out → Out
  emit_drops c.no_more s = s
  emit_drops (c.also e more) s = emit layout e (put Pop (emit_drops more s))

  -- the first part of a `for`, where n variables are open
  abbrev pub emit_first : First → ℕ → Out → Out
  emit_first c.no_first n s = s
  emit_first (c.first_declares e) n s = emit layout e (put (SetLocal (layout.first + n)) s)
  emit_first (c.first_runs e) n s = emit layout e (put Pop s)

  abbrev mutual
    -- A statement, where n variables are open; behind the targets of `break` and `continue` so many instructions stand.
    pub emit_sta : Sta → ℕ → ℕ → ℕ → Out → Out
    emit_sta (c.block all) n brk cont s = emit_stas all n brk cont s
    emit_sta (c.declare e) n brk cont s = emit layout e (put (SetLocal (layout.first + n)) s)
    emit_sta (c.run e) n brk cont s = emit layout e (put Pop s)
    emit_sta c.empty n brk cont s = s
    emit_sta (c.when e x) n brk cont s = emit layout e (put (JumpIfFalse (behind s)) (emit_sta x n brk cont s))
    emit_sta (c.when_else e x y) n brk cont s =
        let other : Out = emit_sta y n brk cont s in
        emit layout e (put (JumpIfFalse (behind other)) (emit_sta x n brk cont (put (Jump (behind s)) other)))
    emit_sta (c.while e x) n brk cont s =
        let last : Out = put (Jump 0) s in
        let whole : Out = emit layout e (put (JumpIfFalse (behind s)) (put LoopTurn (emit_sta x n (behind s) (behind last) last))) in
        patched (behind s) (behind whole) whole
    emit_sta (c.for start e more x) n brk cont s =
        let last : Out = emit_drops more (put (Jump 0) s) in
        let whole : Out = emit layout e (put (JumpIfFalse (behind s)) (put LoopTurn (emit_sta x (after_first n start) (behind s) (behind last) last))) in
        emit_first start n (patched (behind s) (behind whole) whole)
    emit_sta (c.do_while x e) n brk cont s =
        let test : Out = emit layout e (put (JumpIfFalse (behind s)) (put (Jump 0) s)) in
        let whole : Out = put LoopTurn (emit_sta x n (behind s) (behind test) test) in
        patched (behind s) (behind whole) whole
    emit_sta c.break n brk cont s = put (Jump brk) s
    emit_sta c.continue n brk cont s = put (Jump cont) s
    emit_sta (c.return e) n brk cont s = emit layout e (put_leave s)

    -- statements, the last one first
    pub emit_stas : Stas → ℕ → ℕ → ℕ → Out → Out
    emit_stas c.end_of n brk cont s = s
    emit_stas (c.next x more) n brk cont s = emit_sta x n brk cont (emit_stas more (after n x) brk cont s)

  -- a body with so many parameters
  abbrev pub emit_body : Body → ℕ → Out → Out
  emit_body (body.Arrow e) n s = emit layout (c.exp e) (put Return s)
  emit_body (body.Block all) n s =
      let end : Out = put_constant l.Null (put Return s) in
      emit_stas (c.stas (map c.sta all)) n (behind end) (behind end) end

  -- the parameters `this.x`, from slot i on
  abbrev pub emit_sets : List (Option ℕ) → ℕ → Out → Out
  emit_sets [] i s = s
  emit_sets (None ∷ more) i s = emit_sets more (suc i) s
  emit_sets (Some field ∷ more) i s = put (Local 0) (put (Local i) (put (SetField field) (emit_sets more (suc i) s)))

  -- the call of the superclass's constructor
  abbrev pub emit_above : ℕ → Exps → Out → Out
  emit_above above passes s =
      choose (nat_eq above 0) s
      (put (Local 0) (emit_all layout passes (put (CallStatic (constructor layout above) (suc (count passes))) (put Pop s))))

  -- a constructor with so many parameters
  abbrev pub emit_constructor : ℕ → List (Option ℕ) → Exps → Stas → ℕ → Out → Out
  emit_constructor above sets passes all n s =
      let last : Out = put (Local 0) (put Return s) in
      emit_sets sets layout.first (emit_above above passes (emit_stas all n (behind last) (behind last) last))

-- ---- variables

abbrev mutual
  -- the most variables that are open within a statement, where n are open before
  pub most_open : ℕ → Sta → ℕ
  most_open n (c.block all) = most_open_all n all
  most_open n (c.declare e) = suc n
  most_open n (c.when e x) = most_open n x
  most_open n (c.when_else e x y) = max (most_open n x) (most_open n y)
  most_open n (c.while e x) = most_open n x
  most_open n (c.for start e last x) = max (after_first n start) (most_open (after_first n start) x)
  most_open n (c.do_while x e) = most_open n x
  most_open n _ = n

  -- the most that are open within and between statements
  pub most_open_all : ℕ → Stas → ℕ
  most_open_all n c.end_of = n
  most_open_all n (c.next x more) = max (most_open n x) (most_open_all (after n x) more)

-- the most variables of a body with so many parameters
abbrev pub most_of : ℕ → Body → ℕ
most_of n (body.Arrow e) = n
most_of n (body.Block all) = most_open_all n (c.stas (map c.sta all))

-- the text of a list, whose elements' texts are asked for through a site
abbrev pub emit_list_text : ℕ → Out → Out
emit_list_text list_site s =
    put_constant (l.Str (codes "[")) (put_constant (l.Int (pos 0)) (put (SetLocal 1) (put_constant (l.Str []) (put (SetLocal 2)
    (put (Local 2) (put (Local 0) (put (Local 1) (put (ElementOr 17) (put (SetLocal 1)
    (put LoopTurn (put (Call (site list_site) 0) (put ExpectString (put (Concat 3)
    (put_constant (l.Str (codes ", ")) (put (SetLocal 2) (put (Jump 16)
    (put Pop (put_constant (l.Str (codes "]")) (put (Concat 2) (put Return s))))))))))))))))))))

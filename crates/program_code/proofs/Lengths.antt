-- The code of a part is as long as `size` tells.
use Rattle.std.proofs.Common.{◌≡◌, ℕ, zero, suc, ◌+◌, ◌-◌, List, [], ◌∷◌, ◌++◌, length, refl, ap, arith, length-append}
use Rattle.std.specs.Prelude.{Bool, true, false, nat_eq, Option, Some, None}
use Rattle.program.specs.declared.ids.SiteId.{SiteId}
use Rattle.program.specs.declared.literal.Literal.{Literal}
use Rattle.program.specs.declared.body.BinaryOperator.{BinaryOperator}
use Rattle.program.specs.declared.body.BinaryOperator.TheVariants as b
use Rattle.program.specs.declared.body.Joint.{Joint}
use Rattle.program.specs.declared.body.Joint.TheVariants as joint
use Rattle.program.specs.declared.body.OperatorCall.{OperatorCall}
use Rattle.program.specs.Bodies as c
use Rattle.program.specs.Bodies.{Exp, Exps, Pieces, Calls, Links, Target, Update, First, Sta, Stas, count}
use Rattle.program.specs.Parts.{Parts}
use Rattle.program.specs.Sound.{after, after_first}
use Rattle.dart_meaning.specs.Run.{choose}
use Rattle.code_unit.specs.declared.instr.Instr.{Instr}
use Rattle.code_unit.specs.declared.instr.Instr.TheVariants.{New, CallStatic, Local, Pop}
use Rattle.program_code.specs.Code as d
use Rattle.program_code.specs.Sizes.{operator_size, joint_size, read_size, keep_size, set_size, written, size, sizes, pieces_size, calls_size, links_size, place_size, update_size, first_size, drops_size, sta_size, stas_size, sets_size}

module _ (p : Parts) (constant : Literal → ℕ) (first scratch : ℕ) where
  pub stash_length : (k n : ℕ) → length (d.stash p constant first scratch k n) ≡ n
  stash_length k zero = refl
  stash_length k (suc n) = ap suc (stash_length (suc k) n)

  pub fetch_length : (n : ℕ) → length (d.fetch p constant first scratch n) ≡ n
  fetch_length zero = refl
  fetch_length (suc n) = ap suc (fetch_length n)

  pub make_length : (is_object : Bool) (class n : ℕ)
      → length (choose is_object (New (d.class_id class) ∷ []) (d.stash p constant first scratch 0 n ++ (New (d.class_id class) ∷ (d.fetch p constant first scratch n ++ CallStatic (d.constructor p constant first scratch class) (suc n) ∷ []))))
      ≡ choose is_object 1 (n + n + 2)
  make_length true class n = refl
  make_length false class n = grind (arith, length-append, stash_length 0 n, fetch_length n)

  pub read_length : (to : Update) → length (d.read p constant first scratch to) ≡ read_size to
  read_length (c.of_local k) = refl
  read_length (c.of_global k) = refl
  read_length (c.of_super g m) = refl
  read_length (c.of_member e g s) = refl
  read_length (c.of_element e i g s) = refl

  pub keep_length : (to : Target) → length (d.keep p constant first scratch to) ≡ keep_size to
  keep_length (c.to_local k) = refl
  keep_length (c.to_global k) = refl
  keep_length (c.to_super m) = refl
  keep_length (c.to_member e s) = refl
  keep_length (c.to_element e i s) = refl

  pub set_length : (to : Target) → length (d.set p constant first scratch to) ≡ set_size to
  set_length (c.to_local k) = refl
  set_length (c.to_global k) = refl
  set_length (c.to_super m) = refl
  set_length (c.to_member e s) = refl
  set_length (c.to_element e i s) = refl

  pub stepped_length : (before : Bool) (op : OperatorCall) (to : Update)
      → length (d.stepped p constant first scratch before op to) ≡ read_size to + (2 + (keep_size (written to) + set_size (written to)))
  stepped_length true op to = grind (arith, length-append, read_length to, keep_length (written to), set_length (written to))
  stepped_length false op to = grind (arith, length-append, read_length to, keep_length (written to), set_length (written to))

  pub sets_length : (sets : List (Option ℕ)) (i : ℕ) → length (d.sets_code p constant first scratch sets i) ≡ sets_size sets
  sets_length [] i = refl
  sets_length (None ∷ more) i = sets_length more (suc i)
  sets_length (Some field ∷ more) i = omega (arith, sets_length more (suc i))

  pub combined_length : (op : BinaryOperator) (s : SiteId) → length (d.combined p constant first scratch op s) ≡ operator_size op
  combined_length b.Equal s = refl
  combined_length b.NotEqual s = refl
  combined_length b.Less s = refl
  combined_length b.LessEqual s = refl
  combined_length b.Greater s = refl
  combined_length b.GreaterEqual s = refl
  combined_length b.BitOr s = refl
  combined_length b.BitXor s = refl
  combined_length b.BitAnd s = refl
  combined_length b.ShiftLeft s = refl
  combined_length b.ShiftRight s = refl
  combined_length b.ShiftUnsigned s = refl
  combined_length b.Add s = refl
  combined_length b.Subtract s = refl
  combined_length b.Multiply s = refl
  combined_length b.Divide s = refl
  combined_length b.Remainder s = refl

  pub linked_length : (op : Joint) (t : ℕ) (right : List Instr) (n : ℕ) → length right ≡ n → length (d.linked p constant first scratch op t right n) ≡ n + joint_size op
  linked_length joint.And t right n h = grind (arith, length-append)
  linked_length joint.Or t right n h = grind (arith, length-append)
  linked_length (joint.Operator k) t right n h = grind (arith, length-append, combined_length k.operator k.site)

  mutual
    pub code_length : (e : Exp) (t : ℕ) → length (d.code p constant first scratch e t) ≡ size e
    code_length (c.constant k) t = refl
    code_length c.this t = refl
    code_length (c.local k) t = refl
    code_length (c.global k) t = refl
    code_length (c.interpolation units more) t = grind (arith, length-append, pieces_length more (t + 1))
    code_length (c.call_function f args) t = grind (arith, length-append, codes_length args t)
    code_length (c.print e) t = grind (arith, length-append, code_length e t)
    code_length (c.new class args) t = grind (arith, length-append, codes_length args t, make_length (nat_eq class 0) class (count args))
    code_length (c.super m args) t = grind (arith, length-append, codes_length args (t + 1))
    code_length (c.list_of items) t = grind (arith, length-append, codes_length items t)
    code_length (c.postfix e more) t = grind (arith, length-append, code_length e t, calls_length more (t + size e))
    code_length (c.chain e more) t = grind (arith, length-append, code_length e t, links_length more (t + size e))
    code_length (c.not e) t = grind (arith, length-append, code_length e t)
    code_length (c.is e true class) t = grind (arith, length-append, code_length e t)
    code_length (c.is e false class) t = grind (arith, length-append, code_length e t)
    code_length (c.conditional x y z) t =
        grind (arith, length-append, code_length x t, code_length y (t + size x + 1), code_length z (t + size x + 1 + size y + 1))
    code_length (c.assign to e) t =
        grind (arith, length-append, place_length to t, code_length e (t + place_size to), keep_length to, set_length to)
    code_length (c.compound_assign to op e) t =
        grind (arith, length-append, update_length to t, read_length to, code_length e (t + update_size to + read_size to), keep_length (written to), set_length (written to))
    code_length (c.increment before op to) t = grind (arith, length-append, update_length to t, stepped_length before op to)
    code_length (c.throw e) t = grind (arith, length-append, code_length e t)

    pub codes_length : (es : Exps) (t : ℕ) → length (d.codes_of p constant first scratch es t) ≡ sizes es
    codes_length c.no_more t = refl
    codes_length (c.also e more) t = grind (arith, length-append, code_length e t, codes_length more (t + size e))

    pub pieces_length : (ps : Pieces) (t : ℕ) → length (d.pieces p constant first scratch ps t) ≡ pieces_size ps
    pieces_length c.no_piece t = refl
    pieces_length (c.piece s e after more) t = grind (arith, length-append, code_length e t, pieces_length more (t + size e + 3))

    pub calls_length : (ks : Calls) (t : ℕ) → length (d.calls p constant first scratch ks t) ≡ calls_size ks
    calls_length c.no_call t = refl
    calls_length (c.call s args more) t = grind (arith, length-append, codes_length args t, calls_length more (t + sizes args + 1))

    pub links_length : (ls : Links) (t : ℕ) → length (d.links p constant first scratch ls t) ≡ links_size ls
    links_length c.no_link t = refl
    links_length (c.link op e more) t =
        grind (arith, length-append, linked_length op t (d.code p constant first scratch e (d.right_at p constant first scratch op t)) (size e) (code_length e (d.right_at p constant first scratch op t)), links_length more (t + (size e + joint_size op)))

    pub place_length : (to : Target) (t : ℕ) → length (d.place p constant first scratch to t) ≡ place_size to
    place_length (c.to_local k) t = refl
    place_length (c.to_global k) t = refl
    place_length (c.to_super m) t = refl
    place_length (c.to_member e s) t = code_length e t
    place_length (c.to_element e i s) t = grind (arith, length-append, code_length e t, code_length i (t + size e))

    pub update_length : (to : Update) (t : ℕ) → length (d.update_place p constant first scratch to t) ≡ update_size to
    update_length (c.of_local k) t = refl
    update_length (c.of_global k) t = refl
    update_length (c.of_super g m) t = refl
    update_length (c.of_member e g s) t = code_length e t
    update_length (c.of_element e i g s) t = grind (arith, length-append, code_length e t, code_length i (t + size e))

  pub first_length : (x : First) (n t : ℕ) → length (d.first_code p constant first scratch x n t) ≡ first_size x
  first_length c.no_first n t = refl
  first_length (c.first_declares e) n t = grind (arith, length-append, code_length e t)
  first_length (c.first_runs e) n t = grind (arith, length-append, code_length e t)

  pub drops_length : (es : Exps) (t : ℕ) → length (d.drops p constant first scratch es t) ≡ drops_size es
  drops_length c.no_more t = refl
  drops_length (c.also e more) t = grind (arith, length-append, code_length e t, drops_length more (t + size e + 1))

  module _ (leave : List Instr) where
    abbrev ss : Sta → ℕ
    ss = sta_size (length leave)

    loop_length : (top end : ℕ) (test body last : List Instr) → length (d.loop_code p constant first scratch top end test body last) ≡ length test + (2 + (length body + (length last + 1)))
    loop_length top end test body last = grind (arith, length-append)

    mutual
      pub sta_length : (x : Sta) (n brk cont t : ℕ) → length (d.sta p constant first scratch leave x n brk cont t) ≡ ss x
      sta_length (c.block all) n brk cont t = stas_length all n brk cont t
      sta_length (c.declare e) n brk cont t = grind (arith, length-append, code_length e t)
      sta_length (c.run e) n brk cont t = grind (arith, length-append, code_length e t)
      sta_length c.empty n brk cont t = refl
      sta_length (c.when e x) n brk cont t = grind (arith, length-append, code_length e t, sta_length x n brk cont (t + size e + 1))
      sta_length (c.when_else e x y) n brk cont t =
          grind (arith, length-append, code_length e t, sta_length x n brk cont (t + size e + 1), sta_length y n brk cont (t + size e + 1 + ss x + 1))
      sta_length (c.while e x) n brk cont t =
          grind (arith, length-append, code_length e t, sta_length x n (t + size e + 2 + ss x + 1) (t + size e + 2 + ss x) (t + size e + 2))
      sta_length (c.for start e last x) n brk cont t =
          let top : ℕ = t + first_size start in
          let last_at : ℕ = top + size e + 2 + ss x in
          grind (
            arith,
            length-append,
            first_length start n t,
            code_length e top,
            drops_length last last_at,
            sta_length x (after_first n start) (last_at + drops_size last + 1) last_at (top + size e + 2),
          )
      sta_length (c.do_while x e) n brk cont t =
          grind (arith, length-append, code_length e (t + 1 + ss x), sta_length x n (t + 1 + ss x + size e + 2) (t + 1 + ss x) (t + 1))
      sta_length c.break n brk cont t = refl
      sta_length c.continue n brk cont t = refl
      sta_length (c.return e) n brk cont t = grind (arith, length-append, code_length e t)

      pub stas_length : (xs : Stas) (n brk cont t : ℕ) → length (d.stas p constant first scratch leave xs n brk cont t) ≡ stas_size (length leave) xs
      stas_length c.end_of n brk cont t = refl
      stas_length (c.next x more) n brk cont t = grind (arith, length-append, sta_length x n brk cont t, stas_length more (after n x) brk cont (t + ss x))

  pub above_length : (is_object : Bool) (above : ℕ) (passes : Exps) (t : ℕ)
      → length (choose is_object [] (Local 0 ∷ (d.codes_of p constant first scratch passes (t + 1) ++ CallStatic (length p.functions + (above - 7)) (suc (count passes)) ∷ Pop ∷ []))) ≡ choose is_object 0 (1 + (sizes passes + 2))
  above_length true above passes t = refl
  above_length false above passes t = grind (arith, length-append, codes_length passes (t + 1))

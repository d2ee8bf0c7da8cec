-- What code leaves: an expression one operand more, arguments one each, a statement none. The code of an expression is not empty.
use Rattle.std.proofs.Common.{◌≡◌, ℕ, zero, suc, ◌+◌, ◌-◌, ◌*◌, List, [], ◌∷◌, ◌++◌, length, slice_get, refl, ap, subst, ◌∙◌, arith}
use Rattle.std.proofs.lemmas.Bool.Decides.{nat_tests}
use Rattle.std.specs.Prelude.{Bool, true, false, nat_eq, Option}
use Rattle.program.specs.declared.ids.SiteId.{SiteId}
use Rattle.program.specs.declared.literal.Literal.{Literal}
use Rattle.program.specs.declared.body.BinaryOperator.{BinaryOperator}
use Rattle.program.specs.declared.body.BinaryOperator.TheVariants as b
use Rattle.program.specs.declared.body.OperatorCall.{OperatorCall}
use Rattle.program.specs.declared.body.Joint.{Joint}
use Rattle.program.specs.declared.body.Joint.TheVariants as joint
use Rattle.program.specs.Bodies as c
use Rattle.program.specs.Bodies.{Exp, Exps, Pieces, Calls, Links, Target, Update, First, Sta, Stas, count}
use Rattle.program.specs.Parts.{Parts}
use Rattle.program.specs.Sound.{after, after_first, MakeAccepts, Sound, AllSound, SoundPieces, SoundCalls, SoundLinks, SoundTarget, SoundUpdate, SoundFirst, Returns, SoundSta, SoundStas}
use Rattle.program.specs.declared.literal.Literal.TheVariants as l
use Rattle.dart_meaning.specs.Run.{choose}
use Rattle.code_unit.specs.declared.instr.Instr.{Instr}
use Rattle.code_unit.specs.declared.instr.Instr.TheVariants.{CallStatic, New}
use Rattle.program_code.specs.Code as d
use Rattle.program_code.specs.Sizes.{pieces_count, joint_size, written, read_size, size, sizes, place_size, update_size, first_size, drops_size, sta_size}
use Rattle.sound_code.proofs.Scans.{end_of, then_end}

-- how many operands what is assigned to has: a receiver, and an index
abbrev pub held : Target → ℕ
held (c.to_local k) = 0
held (c.to_global k) = 0
held (c.to_super m) = 1
held (c.to_member e s) = 1
held (c.to_element e i s) = 2

-- Object is constructed without arguments.
module _ (p : Parts) (here : Option ℕ) (bare : (n : ℕ) → MakeAccepts n (slice_get p.classes 0) → n ≡ 0) (constant : Literal → ℕ) (first scratch : ℕ) where
  abbrev co : Exp → ℕ → List Instr
  co = d.code p constant first scratch

  abbrev cos : Exps → ℕ → List Instr
  cos = d.codes_of p constant first scratch

  -- ---- calls

  end_stash : (k n x : ℕ) → end_of (x + n) (d.stash p constant first scratch k n) ≡ x
  end_stash k zero x = omega arith
  end_stash k (suc n) x = let e : x + suc n - 1 + 0 ≡ x + n = omega arith in ap (λ m. end_of m (d.stash p constant first scratch (suc k) n)) e ∙ end_stash (suc k) n x

  end_fetch : (n x : ℕ) → end_of x (d.fetch p constant first scratch n) ≡ x + n
  end_fetch zero x = omega arith
  end_fetch (suc n) x = end_fetch n (x - 0 + 1) ∙ omega arith

  end_make_by : (is_object : Bool) (class n x : ℕ) → (is_object ≡ true → n ≡ 0)
      → end_of (x + n) (choose is_object (New (d.class_id class) ∷ []) (d.stash p constant first scratch 0 n ++ (New (d.class_id class) ∷ (d.fetch p constant first scratch n ++ CallStatic (d.constructor p constant first scratch class) (suc n) ∷ [])))) ≡ x + 1
  end_make_by true class n x none = let e : n ≡ 0 = none refl in omega (arith, e)
  end_make_by false class n x none =
      then_end (x + n) (d.stash p constant first scratch 0 n) _ (end_stash 0 n x)
      (then_end (x - 0 + 1) (d.fetch p constant first scratch n) (CallStatic (d.constructor p constant first scratch class) (suc n) ∷ []) (end_fetch n (x - 0 + 1)) (omega arith))

  zero_by : (class : ℕ) → nat_eq class 0 ≡ true → class ≡ 0
  zero_by class h = grind (arith, nat_tests)

  pub end_make : (class n x : ℕ) → MakeAccepts n (slice_get p.classes class) → end_of (x + n) (d.make p constant first scratch class n) ≡ x + 1
  end_make class n x h = end_make_by (nat_eq class 0) class n x (λ e. bare n (subst (λ k. MakeAccepts n (slice_get p.classes k)) (zero_by class e) h))

  -- ---- operators

  end_operator : (op : BinaryOperator) (s : SiteId) (x : ℕ) → end_of (x + 2) (d.combined p constant first scratch op s) ≡ x + 1
  end_operator b.Equal s x = omega arith
  end_operator b.NotEqual s x = omega arith
  end_operator _ s x = omega arith

  pub end_linked : (op : Joint) (t x : ℕ) (right : List Instr) (n : ℕ) → ((y : ℕ) → end_of y right ≡ y + 1) → end_of (x + 1) (d.linked p constant first scratch op t right n) ≡ x + 1
  end_linked joint.And t x right n h = then_end (x + 1 - 1 + 2 - 1 + 0 - 1 + 0) right _ (h (x + 1 - 1 + 2 - 1 + 0 - 1 + 0)) (omega arith)
  end_linked joint.Or t x right n h = then_end (x + 1 - 1 + 2 - 1 + 1 - 1 + 0 - 1 + 0) right _ (h (x + 1 - 1 + 2 - 1 + 1 - 1 + 0 - 1 + 0)) (omega arith)
  end_linked (joint.Operator op) t x right n h =
      let e : x + 1 + 1 ≡ x + 2 = omega arith in then_end (x + 1) right _ (h (x + 1) ∙ e) (end_operator op.operator op.site x)

  -- ---- what is read and written

  pub end_read : (to : Update) (x : ℕ) → end_of (x + held (written to)) (d.read p constant first scratch to) ≡ x + held (written to) + 1
  end_read (c.of_local k) x = omega arith
  end_read (c.of_global k) x = omega arith
  end_read (c.of_super g m) x = omega arith
  end_read (c.of_member e g s) x = omega arith
  end_read (c.of_element e i g s) x = omega arith

  pub end_write : (to : Target) (x : ℕ) → end_of (x + held to + 1) (d.keep p constant first scratch to ++ d.set p constant first scratch to) ≡ x + 1
  end_write (c.to_local k) x = omega arith
  end_write (c.to_global k) x = omega arith
  end_write (c.to_super m) x = omega arith
  end_write (c.to_member e s) x = omega arith
  end_write (c.to_element e i s) x = omega arith

  end_incremented : (is_before : Bool) (op : OperatorCall) (to : Update) (x : ℕ) → end_of (x + held (written to)) (d.stepped p constant first scratch is_before op to) ≡ x + 1
  end_incremented true op (c.of_local k) x = omega arith
  end_incremented true op (c.of_global k) x = omega arith
  end_incremented true op (c.of_super g m) x = omega arith
  end_incremented true op (c.of_member e g s) x = omega arith
  end_incremented true op (c.of_element e i g s) x = omega arith
  end_incremented false op (c.of_local k) x = omega arith
  end_incremented false op (c.of_global k) x = omega arith
  end_incremented false op (c.of_super g m) x = omega arith
  end_incremented false op (c.of_member e g s) x = omega arith
  end_incremented false op (c.of_element e i g s) x = omega arith

  -- ---- expressions, with n variables open

  mutual
    pub end_exp : (e : Exp) (n t x : ℕ) → Sound p here n e → end_of x (co e t) ≡ x + 1
    end_exp (c.constant k) n t x h = omega arith
    end_exp c.this n t x h = omega arith
    end_exp (c.local k) n t x h = omega arith
    end_exp (c.global k) n t x h = omega arith
    end_exp (c.interpolation units more) n t x h = then_end (x - 0 + 1) (d.pieces p constant first scratch more (t + 1)) _ (end_pieces more n (t + 1) (x - 0 + 1) h) (omega arith)
    end_exp (c.call_function f args) n t x h = then_end x (cos args t) _ (end_all args n t x h.1) (omega arith)
    end_exp (c.print e) n t x h = then_end x (co e t) _ (end_exp e n t x h) (omega arith)
    end_exp (c.new class args) n t x h = then_end x (cos args t) _ (end_all args n t x h.2) (end_make class (count args) x h.1)
    end_exp (c.super m args) n t x h = then_end (x - 0 + 1) (cos args (t + 1)) _ (end_all args n (t + 1) (x - 0 + 1) h.2) (omega arith)
    end_exp (c.list_of items) n t x h = then_end x (cos items t) _ (end_all items n t x h) (omega arith)
    end_exp (c.postfix e more) n t x h = then_end x (co e t) _ (end_exp e n t x h.0) (end_calls more n (t + size e) x h.1)
    end_exp (c.chain e more) n t x h = then_end x (co e t) _ (end_exp e n t x h.0) (end_links more n (t + size e) x h.1)
    end_exp (c.not e) n t x h = then_end x (co e t) _ (end_exp e n t x h) (omega arith)
    end_exp (c.is e true class) n t x h = then_end x (co e t) _ (end_exp e n t x h.1) (omega arith)
    end_exp (c.is e false class) n t x h = then_end x (co e t) _ (end_exp e n t x h.1) (omega arith)
    end_exp (c.conditional y z w) n t x h =
        let then_at : ℕ = t + size y + 1 in
        let else_at : ℕ = then_at + size z + 1 in
        then_end x (co y t) _ (end_exp y n t x h.0)
        (then_end (x + 1 - 1 + 0) (co z then_at) _ (end_exp z n then_at (x + 1 - 1 + 0) h.1) (end_exp w n else_at (x + 1 - 1 + 0 + 1 - 1) h.2 ∙ omega arith))
    end_exp (c.assign to e) n t x h =
        then_end x (d.place p constant first scratch to t) _ (end_target to n t x h.0)
        (then_end (x + held to) (co e (t + place_size to)) _ (end_exp e n (t + place_size to) (x + held to) h.1) (end_write to x))
    end_exp (c.compound_assign to op e) n t x h =
        let right_at : ℕ = t + update_size to + read_size to in
        let m : ℕ = x + held (written to) + 1 in
        let called : m + 1 - 2 + 1 ≡ x + held (written to) + 1 = omega arith in
        then_end x (d.update_place p constant first scratch to t) _ (end_update to n t x h.0)
        (then_end (x + held (written to)) (d.read p constant first scratch to) _ (end_read to x)
        (then_end m (co e right_at) _ (end_exp e n right_at m h.2)
        (ap (λ k. end_of k (d.keep p constant first scratch (written to) ++ d.set p constant first scratch (written to))) called ∙ end_write (written to) x)))
    end_exp (c.increment is_before op to) n t x h =
        then_end x (d.update_place p constant first scratch to t) _ (end_update to n t x h.0) (end_incremented is_before op to x)
    end_exp (c.throw e) n t x h = then_end x (co e t) _ (end_exp e n t x h) (omega arith)

    pub end_all : (es : Exps) (n t x : ℕ) → AllSound p here n es → end_of x (cos es t) ≡ x + count es
    end_all c.no_more n t x h = omega arith
    end_all (c.also e more) n t x h =
        then_end x (co e t) _ (end_exp e n t x h.0) (end_all more n (t + size e) (x + 1) h.1 ∙ omega arith)

    pub end_pieces : (ps : Pieces) (n t x : ℕ) → SoundPieces p here n ps → end_of x (d.pieces p constant first scratch ps t) ≡ x + 2 * pieces_count ps
    end_pieces c.no_piece n t x h = omega arith
    end_pieces (c.piece s e after more) n t x h =
        then_end x (co e t) _ (end_exp e n t x h.1) (end_pieces more n (t + size e + 3) (x + 1 - 1 + 1 - 1 + 1 - 0 + 1) h.2 ∙ omega arith)

    pub end_calls : (ks : Calls) (n t x : ℕ) → SoundCalls p here n ks → end_of (x + 1) (d.calls p constant first scratch ks t) ≡ x + 1
    end_calls c.no_call n t x h = refl
    end_calls (c.call s args more) n t x h =
        let called : x + 1 + count args - suc (count args) + 1 ≡ x + 1 = omega arith in
        then_end (x + 1) (cos args t) _ (end_all args n t (x + 1) h.1)
        (ap (λ k. end_of k (d.calls p constant first scratch more (t + sizes args + 1))) called ∙ end_calls more n (t + sizes args + 1) x h.2)

    pub end_links : (ls : Links) (n t x : ℕ) → SoundLinks p here n ls → end_of (x + 1) (d.links p constant first scratch ls t) ≡ x + 1
    end_links c.no_link n t x h = refl
    end_links (c.link op e more) n t x h =
        let right_at : ℕ = d.right_at p constant first scratch op t in
        then_end (x + 1) (d.linked p constant first scratch op t (co e right_at) (size e)) _ (end_linked op t x (co e right_at) (size e) (λ y. end_exp e n right_at y h.1))
        (end_links more n (t + (size e + joint_size op)) x h.2)

    pub end_target : (to : Target) (n t x : ℕ) → SoundTarget p here n to → end_of x (d.place p constant first scratch to t) ≡ x + held to
    end_target (c.to_local k) n t x h = omega arith
    end_target (c.to_global k) n t x h = omega arith
    end_target (c.to_super m) n t x h = omega arith
    end_target (c.to_member e s) n t x h = end_exp e n t x h.1
    end_target (c.to_element e i s) n t x h = then_end x (co e t) _ (end_exp e n t x h.1) (end_exp i n (t + size e) (x + 1) h.2 ∙ omega arith)

    pub end_update : (to : Update) (n t x : ℕ) → SoundUpdate p here n to → end_of x (d.update_place p constant first scratch to t) ≡ x + held (written to)
    end_update (c.of_local k) n t x h = omega arith
    end_update (c.of_global k) n t x h = omega arith
    end_update (c.of_super g m) n t x h = omega arith
    end_update (c.of_member e g s) n t x h = end_exp e n t x h.2
    end_update (c.of_element e i g s) n t x h = then_end x (co e t) _ (end_exp e n t x h.2) (end_exp i n (t + size e) (x + 1) h.3 ∙ omega arith)

  -- ---- statements

  pub end_first : (start : First) (n t : ℕ) → SoundFirst p here n start → end_of 0 (d.first_code p constant first scratch start n t) ≡ 0
  end_first c.no_first n t h = refl
  end_first (c.first_declares e) n t h = then_end 0 (co e t) _ (end_exp e n t 0 h) (omega arith)
  end_first (c.first_runs e) n t h = then_end 0 (co e t) _ (end_exp e n t 0 h) (omega arith)

  pub end_drops : (es : Exps) (n t : ℕ) → AllSound p here n es → end_of 0 (d.drops p constant first scratch es t) ≡ 0
  end_drops c.no_more n t h = refl
  end_drops (c.also e more) n t h = then_end 0 (co e t) _ (end_exp e n t 0 h.0) (end_drops more n (t + size e + 1) h.1)

  pub returned : (answers : Bool) (n : ℕ) (e : Exp) → Returns p here answers n e → Sound p here n e
  returned true n e h = h
  returned false n (c.constant l.Null) h = tt
  returned false n _ h = absurd h

  -- `return` takes the value that stands there.
  module _ (answers : Bool) (leave : List Instr) (leaves : end_of 1 leave ≡ 0) where
    abbrev ss : Sta → ℕ
    ss = sta_size (length leave)

    abbrev st : Sta → ℕ → ℕ → ℕ → ℕ → List Instr
    st = d.sta p constant first scratch leave

    pub end_loop : (top end : ℕ) (test body last : List Instr) → end_of 0 test ≡ 1 → end_of 0 body ≡ 0 → end_of 0 last ≡ 0 → end_of 0 (d.loop_code p constant first scratch top end test body last) ≡ 0
    end_loop top end test body last x y z = then_end 0 test _ x (then_end 0 body _ y (then_end 0 last _ z refl))

    mutual
      pub end_sta : (x : Sta) (n : ℕ) (loops : Bool) (brk cont t : ℕ) → SoundSta p here answers n loops x → end_of 0 (st x n brk cont t) ≡ 0
      end_sta (c.block all) n loops brk cont t h = end_stas all n loops brk cont t h
      end_sta (c.declare e) n loops brk cont t h = then_end 0 (co e t) _ (end_exp e n t 0 h) (omega arith)
      end_sta (c.run e) n loops brk cont t h = then_end 0 (co e t) _ (end_exp e n t 0 h) (omega arith)
      end_sta c.empty n loops brk cont t h = refl
      end_sta (c.when e x) n loops brk cont t h = then_end 0 (co e t) _ (end_exp e n t 0 h.0) (end_sta x n loops brk cont (t + size e + 1) h.1)
      end_sta (c.when_else e x y) n loops brk cont t h =
          let then_at : ℕ = t + size e + 1 in
          then_end 0 (co e t) _ (end_exp e n t 0 h.0)
          (then_end 0 (st x n brk cont then_at) _ (end_sta x n loops brk cont then_at h.1) (end_sta y n loops brk cont (then_at + ss x + 1) h.2))
      end_sta (c.while e x) n loops brk cont t h =
          let body_at : ℕ = t + size e + 2 in
          let last_at : ℕ = body_at + ss x in
          end_loop t (last_at + 1) (co e t) _ [] (end_exp e n t 0 h.0) (end_sta x n true (last_at + 1) last_at body_at h.1) refl
      end_sta (c.for start e last x) n loops brk cont t h =
          let m : ℕ = after_first n start in
          let top : ℕ = t + first_size start in
          let body_at : ℕ = top + size e + 2 in
          let last_at : ℕ = body_at + ss x in
          let end : ℕ = last_at + drops_size last + 1 in
          then_end 0 (d.first_code p constant first scratch start n t) _ (end_first start n t h.0)
          (end_loop top end (co e top) _ (d.drops p constant first scratch last last_at) (end_exp e m top 0 h.1) (end_sta x m true end last_at body_at h.3) (end_drops last m last_at h.2))
      end_sta (c.do_while x e) n loops brk cont t h =
          let body_at : ℕ = t + 1 in
          let test_at : ℕ = body_at + ss x in
          let end : ℕ = test_at + size e + 2 in
          then_end 0 (st x n end test_at body_at) _ (end_sta x n true end test_at body_at h.0) (then_end 0 (co e test_at) _ (end_exp e n test_at 0 h.1) (omega arith))
      end_sta c.break n loops brk cont t h = omega arith
      end_sta c.continue n loops brk cont t h = omega arith
      end_sta (c.return e) n loops brk cont t h = then_end 0 (co e t) _ (end_exp e n t 0 (returned answers n e h)) leaves

      pub end_stas : (xs : Stas) (n : ℕ) (loops : Bool) (brk cont t : ℕ) → SoundStas p here answers n loops xs → end_of 0 (d.stas p constant first scratch leave xs n brk cont t) ≡ 0
      end_stas c.end_of n loops brk cont t h = refl
      end_stas (c.next x more) n loops brk cont t h = then_end 0 (st x n brk cont t) _ (end_sta x n loops brk cont t h.0) (end_stas more (after n x) loops brk cont (t + ss x) h.1)

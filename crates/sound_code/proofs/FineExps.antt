-- Each instruction of an expression's code is fine: it has its operands and its slot, and where it jumps the depth is what it leaves.
use Rattle.std.proofs.Common.{◌≡◌, ℕ, zero, suc, ◌+◌, ◌-◌, ◌*◌, ◌<◌, ◌≤◌, List, [], ◌∷◌, ◌++◌, slice_get, refl, sym, ap, subst, ◌∙◌, arith}
use Rattle.std.specs.Prelude.{Bool, true, false, nat_eq, Option}
use Rattle.program.specs.declared.ids.SiteId.{SiteId}
use Rattle.program.specs.declared.literal.Literal.{Literal}
use Rattle.program.specs.declared.body.BinaryOperator.{BinaryOperator}
use Rattle.program.specs.declared.body.BinaryOperator.TheVariants as b
use Rattle.program.specs.declared.body.OperatorCall.{OperatorCall}
use Rattle.program.specs.declared.body.Joint.{Joint}
use Rattle.program.specs.declared.body.Joint.TheVariants as joint
use Rattle.program.specs.Bodies as c
use Rattle.program.specs.Bodies.{Exp, Exps, Pieces, Calls, Links, Target, Update, count}
use Rattle.program.specs.Parts.{Parts}
use Rattle.program.specs.Sound.{MakeAccepts, Sound, AllSound, SoundPieces, SoundCalls, SoundLinks, SoundTarget, SoundUpdate}
use Rattle.dart_meaning.specs.Run.{choose}
use Rattle.code_unit.specs.declared.instr.Instr.{Instr}
use Rattle.code_unit.specs.declared.instr.Instr.TheVariants.{CallStatic, New, Concat, ExpectBool}
use Rattle.program_code.specs.Code as d
use Rattle.program_code.specs.Needs.{Covers, CoversAll, CoversPieces, CoversCalls, CoversLinks, CoversTarget, CoversUpdate}
use Rattle.program_code.specs.Sizes.{pieces_count, joint_size, written, read_size, size, sizes, links_size, place_size, update_size}
use Rattle.program_code.proofs.Lengths.{code_length, codes_length, linked_length, place_length, update_length, read_length}
use Rattle.sound_code.proofs.Scans.{end_of, IsSome, some_left, some_right, At, States, Fine, AllFine, front, back, starts, fine_both}
use Rattle.sound_code.proofs.Ends.{held, end_exp, end_all, end_pieces, end_linked, end_target, end_update, end_read}

-- ---- code that is not empty

module _ (p : Parts) (constant : Literal → ℕ) (first scratch : ℕ) where
  some_read : (to : Update) → IsSome (d.read p constant first scratch to)
  some_read (c.of_local k) = tt
  some_read (c.of_global k) = tt
  some_read (c.of_super g m) = tt
  some_read (c.of_member e g s) = tt
  some_read (c.of_element e i g s) = tt

  some_incremented : (is_before : Bool) (op : OperatorCall) (to : Update) → IsSome (d.stepped p constant first scratch is_before op to)
  some_incremented true op to = some_left (d.read p constant first scratch to) _ (some_read to)
  some_incremented false op to = some_left (d.read p constant first scratch to) _ (some_read to)

  some_make : (is_object : Bool) (class n : ℕ)
      → IsSome (choose is_object (New (d.class_id class) ∷ []) (d.stash p constant first scratch 0 n ++ (New (d.class_id class) ∷ (d.fetch p constant first scratch n ++ CallStatic (d.constructor p constant first scratch class) (suc n) ∷ []))))
  some_make true class n = tt
  some_make false class n = some_right (d.stash p constant first scratch 0 n) _ tt

  pub some_exp : (e : Exp) (t : ℕ) → IsSome (d.code p constant first scratch e t)
  some_exp (c.constant k) t = tt
  some_exp c.this t = tt
  some_exp (c.local k) t = tt
  some_exp (c.global k) t = tt
  some_exp (c.interpolation units more) t = tt
  some_exp (c.call_function f args) t = some_right (d.codes_of p constant first scratch args t) _ tt
  some_exp (c.print e) t = some_right (d.code p constant first scratch e t) _ tt
  some_exp (c.new class args) t = some_right (d.codes_of p constant first scratch args t) _ (some_make (nat_eq class 0) class (count args))
  some_exp (c.super m args) t = tt
  some_exp (c.list_of items) t = some_right (d.codes_of p constant first scratch items t) _ tt
  some_exp (c.postfix e more) t = some_left (d.code p constant first scratch e t) _ (some_exp e t)
  some_exp (c.chain e more) t = some_left (d.code p constant first scratch e t) _ (some_exp e t)
  some_exp (c.not e) t = some_right (d.code p constant first scratch e t) _ tt
  some_exp (c.is e denied class) t = some_right (d.code p constant first scratch e t) _ tt
  some_exp (c.conditional x y z) t = some_right (d.code p constant first scratch x t) _ tt
  some_exp (c.assign to e) t =
      some_right (d.place p constant first scratch to t) _ (some_left (d.code p constant first scratch e (t + place_size to)) _ (some_exp e (t + place_size to)))
  some_exp (c.compound_assign to op e) t =
      some_right (d.update_place p constant first scratch to t) _ (some_left (d.read p constant first scratch to) _ (some_read to))
  some_exp (c.increment is_before op to) t = some_right (d.update_place p constant first scratch to t) _ (some_incremented is_before op to)
  some_exp (c.throw e) t = some_right (d.code p constant first scratch e t) _ tt

-- `depths` are those of the whole unit, which has so many slots: `scratch` is one, and `room` stand from it on.
module _ (p : Parts) (here : Option ℕ) (bare : (n : ℕ) → MakeAccepts n (slice_get p.classes 0) → n ≡ 0) (constant : Literal → ℕ) (first scratch : ℕ)
    (depths : List ℕ) (locals : ℕ) (Has : Literal → Type 0) (room : ℕ) (spare : scratch + 1 ≤ locals) (rooms : scratch + room ≤ locals) where
  abbrev co : Exp → ℕ → List Instr
  co = d.code p constant first scratch

  abbrev cos : Exps → ℕ → List Instr
  cos = d.codes_of p constant first scratch

  abbrev Holds : ℕ → ℕ → List Instr → Type 0
  Holds = States depths locals

  abbrev Is : ℕ → ℕ → Type 0
  Is = At depths locals

  abbrev AreFine : ℕ → List Instr → Type 0
  AreFine = AllFine depths locals

  abbrev IsFine : ℕ → Instr → Type 0
  IsFine = Fine depths locals

  pub is_at : (t u d e : ℕ) → t ≡ u → d ≡ e → Is t d → Is u e
  is_at t u d e x y h = subst (λ n. Is n e) x (subst (λ m. Is t m) y h)

  pub shift : (u e t d : ℕ) (xs : List Instr) → t ≡ u → d ≡ e → Holds t d xs → Holds u e xs
  shift u e t d xs x y h = subst (λ n. Holds n e xs) x (subst (λ m. Holds t m xs) y h)

  pub deep : (d e : ℕ) (xs : List Instr) → d ≡ e → AreFine e xs → AreFine d xs
  deep d e xs x h = subst (λ m. AreFine m xs) (sym x) h

  -- an expression, and then other code
  pub then_fine : (e : Exp) (n t x : ℕ) (tail : List Instr) → Sound p here n e → IsSome tail → Holds t x (co e t ++ tail) → (Holds t x (co e t) → Is (t + size e) (x + 1) → AreFine x (co e t))
      → (Holds (t + size e) (x + 1) tail → AreFine (x + 1) tail) → AreFine x (co e t ++ tail)
  then_fine e n t x tail sound some h exp rest =
      let ends = end_exp p here bare constant first scratch e n t x sound in
      let b = back depths locals (t + size e) (x + 1) t x (co e t) tail (ap (λ k. t + k) (code_length p constant first scratch e t)) ends h in
      fine_both depths locals (x + 1) x (co e t) tail ends (exp (front depths locals t x (co e t) tail h) (starts depths locals (t + size e) (x + 1) tail some b)) (rest b)

  -- arguments, and then other code
  then_args : (es : Exps) (n t x : ℕ) (tail : List Instr) → AllSound p here n es → IsSome tail → Holds t x (cos es t ++ tail) → (Holds t x (cos es t) → Is (t + sizes es) (x + count es) → AreFine x (cos es t))
      → (Holds (t + sizes es) (x + count es) tail → AreFine (x + count es) tail) → AreFine x (cos es t ++ tail)
  then_args es n t x tail sound some h args rest =
      let ends = end_all p here bare constant first scratch es n t x sound in
      let b = back depths locals (t + sizes es) (x + count es) t x (cos es t) tail (ap (λ k. t + k) (codes_length p constant first scratch es t)) ends h in
      fine_both depths locals (x + count es) x (cos es t) tail ends (args (front depths locals t x (cos es t) tail h) (starts depths locals (t + sizes es) (x + count es) tail some b)) (rest b)

  -- ---- one kind of instruction

  stash_fine : (k n x : ℕ) → k + n ≤ room → AreFine (x + n) (d.stash p constant first scratch k n)
  stash_fine k zero x h = tt
  stash_fine k (suc n) x h = (
    record { operands = omega arith; slot = omega (arith, rooms, h); jump = tt },
    deep (x + suc n - 1 + 0) (x + n) (d.stash p constant first scratch (suc k) n) (omega arith) (stash_fine (suc k) n x (omega (arith, h))),
  )

  fetch_fine : (n x : ℕ) → n ≤ room → AreFine x (d.fetch p constant first scratch n)
  fetch_fine zero x h = tt
  fetch_fine (suc n) x h = (record { operands = omega arith; slot = omega (arith, rooms, h); jump = tt }, fetch_fine n (x - 0 + 1) (omega (arith, h)))

  end_stash : (k n x : ℕ) → end_of (x + n) (d.stash p constant first scratch k n) ≡ x
  end_stash k zero x = omega arith
  end_stash k (suc n) x = let e : x + suc n - 1 + 0 ≡ x + n = omega arith in ap (λ m. end_of m (d.stash p constant first scratch (suc k) n)) e ∙ end_stash (suc k) n x

  end_fetch : (n x : ℕ) → end_of x (d.fetch p constant first scratch n) ≡ x + n
  end_fetch zero x = omega arith
  end_fetch (suc n) x = end_fetch n (x - 0 + 1) ∙ omega arith

  make_fine : (is_object : Bool) (class n x : ℕ) → n ≤ room
      → AreFine (x + n) (choose is_object (New (d.class_id class) ∷ []) (d.stash p constant first scratch 0 n ++ (New (d.class_id class) ∷ (d.fetch p constant first scratch n ++ CallStatic (d.constructor p constant first scratch class) (suc n) ∷ []))))
  make_fine true class n x h = (record { operands = omega arith; slot = tt; jump = tt }, tt)
  make_fine false class n x h =
      fine_both depths locals x (x + n) (d.stash p constant first scratch 0 n) _ (end_stash 0 n x) (stash_fine 0 n x (omega (arith, h))) (
        record { operands = omega arith; slot = tt; jump = tt },
        fine_both depths locals (x - 0 + 1 + n) (x - 0 + 1) (d.fetch p constant first scratch n) _ (end_fetch n (x - 0 + 1)) (fetch_fine n (x - 0 + 1) h)
            (record { operands = omega arith; slot = tt; jump = tt }, tt),
      )

  operator_fine : (op : BinaryOperator) (s : SiteId) (x : ℕ) → AreFine (x + 2) (d.combined p constant first scratch op s)
  operator_fine b.Equal s x = (record { operands = omega arith; slot = tt; jump = tt }, (record { operands = omega arith; slot = tt; jump = tt }, tt))
  operator_fine b.NotEqual s x =
      (record { operands = omega arith; slot = tt; jump = tt }, (record { operands = omega arith; slot = tt; jump = tt }, (record { operands = omega arith; slot = tt; jump = tt }, tt)))
  operator_fine _ s x = (record { operands = omega arith; slot = tt; jump = tt }, tt)

  -- what is read and written, with n variables open
  module _ (n : ℕ) (opened : first + n ≤ locals) where
    abbrev IsOpen : Target → Type 0
    IsOpen (c.to_local k) = k < n
    IsOpen _ = Unit {0}

    read_fine : (to : Update) (x : ℕ) → IsOpen (written to) → AreFine (x + held (written to)) (d.read p constant first scratch to)
    read_fine (c.of_local k) x h = (record { operands = omega arith; slot = omega (arith, opened, h); jump = tt }, tt)
    read_fine (c.of_global k) x h = (record { operands = omega arith; slot = tt; jump = tt }, tt)
    read_fine (c.of_super g m) x h = (record { operands = omega arith; slot = tt; jump = tt }, (record { operands = omega arith; slot = tt; jump = tt }, tt))
    read_fine (c.of_member e g s) x h = (record { operands = omega arith; slot = tt; jump = tt }, (record { operands = omega arith; slot = tt; jump = tt }, tt))
    read_fine (c.of_element e i g s) x h = (record { operands = omega arith; slot = tt; jump = tt }, (record { operands = omega arith; slot = tt; jump = tt }, tt))

    keep_fine : (to : Target) (x : ℕ) → AreFine (x + 1) (d.keep p constant first scratch to)
    keep_fine (c.to_local k) x = (record { operands = omega arith; slot = tt; jump = tt }, tt)
    keep_fine (c.to_global k) x = (record { operands = omega arith; slot = tt; jump = tt }, tt)
    keep_fine (c.to_super m) x = (record { operands = omega arith; slot = tt; jump = tt }, (record { operands = omega arith; slot = omega (arith, spare); jump = tt }, tt))
    keep_fine (c.to_member e s) x = (record { operands = omega arith; slot = tt; jump = tt }, (record { operands = omega arith; slot = omega (arith, spare); jump = tt }, tt))
    keep_fine (c.to_element e i s) x = (record { operands = omega arith; slot = tt; jump = tt }, (record { operands = omega arith; slot = omega (arith, spare); jump = tt }, tt))

    -- how many operands the kept value leaves
    abbrev kept : Target → ℕ
    kept (c.to_local k) = 1
    kept (c.to_global k) = 1
    kept _ = 0

    keep_end : (to : Target) (x : ℕ) → end_of (x + 1) (d.keep p constant first scratch to) ≡ x + 1 + kept to
    keep_end (c.to_local k) x = omega arith
    keep_end (c.to_global k) x = omega arith
    keep_end (c.to_super m) x = omega arith
    keep_end (c.to_member e s) x = omega arith
    keep_end (c.to_element e i s) x = omega arith

    set_fine : (to : Target) (x : ℕ) → IsOpen to → AreFine (x + held to + 1) (d.set p constant first scratch to)
    set_fine (c.to_local k) x h = (record { operands = omega arith; slot = omega (arith, opened, h); jump = tt }, tt)
    set_fine (c.to_global k) x h = (record { operands = omega arith; slot = tt; jump = tt }, tt)
    set_fine (c.to_super m) x h =
        (record { operands = omega arith; slot = tt; jump = tt }, (record { operands = omega arith; slot = tt; jump = tt }, (record { operands = omega arith; slot = omega (arith, spare); jump = tt }, tt)))
    set_fine (c.to_member e s) x h =
        (record { operands = omega arith; slot = tt; jump = tt }, (record { operands = omega arith; slot = tt; jump = tt }, (record { operands = omega arith; slot = omega (arith, spare); jump = tt }, tt)))
    set_fine (c.to_element e i s) x h =
        (record { operands = omega arith; slot = tt; jump = tt }, (record { operands = omega arith; slot = tt; jump = tt }, (record { operands = omega arith; slot = omega (arith, spare); jump = tt }, tt)))

    -- the same, behind a value that is kept below
    set_deeper : (to : Target) (x y : ℕ) → y ≡ x + held to + 1 → IsOpen to → AreFine y (d.set p constant first scratch to)
    set_deeper to x y e h = deep y (x + held to + 1) (d.set p constant first scratch to) e (set_fine to x h)

    set_kept : (to : Target) (x : ℕ) → IsOpen to → AreFine (x + held to + 1 + kept to) (d.set p constant first scratch to)
    set_kept (c.to_local k) x h = (record { operands = omega arith; slot = omega (arith, opened, h); jump = tt }, tt)
    set_kept (c.to_global k) x h = (record { operands = omega arith; slot = tt; jump = tt }, tt)
    set_kept (c.to_super m) x h = set_deeper (c.to_super m) x (x + 1 + 1 + 0) (omega arith) h
    set_kept (c.to_member e s) x h = set_deeper (c.to_member e s) x (x + 1 + 1 + 0) (omega arith) h
    set_kept (c.to_element e i s) x h = set_deeper (c.to_element e i s) x (x + 2 + 1 + 0) (omega arith) h

    write_fine : (to : Target) (x : ℕ) → IsOpen to → AreFine (x + held to + 1) (d.keep p constant first scratch to ++ d.set p constant first scratch to)
    write_fine to x h =
        fine_both depths locals (x + held to + 1 + kept to) (x + held to + 1) (d.keep p constant first scratch to) _ (keep_end to (x + held to)) (keep_fine to (x + held to)) (set_kept to x h)

    incremented_fine : (is_before : Bool) (op : OperatorCall) (to : Update) (x : ℕ) → IsOpen (written to) → AreFine (x + held (written to)) (d.stepped p constant first scratch is_before op to)
    incremented_fine true op to x h =
        let m : ℕ = x + held (written to) + 1 in
        let called : m - 0 + 1 - 2 + 1 ≡ m = omega arith in
        fine_both depths locals m (x + held (written to)) (d.read p constant first scratch to) _ (end_read p here bare constant first scratch to x) (read_fine to x h) (
          record { operands = omega arith; slot = tt; jump = tt },
          (
            record { operands = omega arith; slot = tt; jump = tt },
            deep (m - 0 + 1 - 2 + 1) m (d.keep p constant first scratch (written to) ++ d.set p constant first scratch (written to)) called (write_fine (written to) x h),
          ),
        )
    incremented_fine false op to x h =
        let m : ℕ = x + held (written to) + 1 in
        let k : ℕ = m + kept (written to) in
        let called : k - 0 + 1 - 2 + 1 ≡ k = omega arith in
        fine_both depths locals m (x + held (written to)) (d.read p constant first scratch to) _ (end_read p here bare constant first scratch to x) (read_fine to x h)
        (fine_both depths locals k m (d.keep p constant first scratch (written to)) _ (keep_end (written to) (x + held (written to))) (keep_fine (written to) (x + held (written to))) (
          record { operands = omega arith; slot = tt; jump = tt },
          (record { operands = omega (arith, some_kept (written to)); slot = tt; jump = tt }, deep (k - 0 + 1 - 2 + 1) k (d.set p constant first scratch (written to)) called (set_kept (written to) x h)),
        ))
      where
        some_kept : (to : Target) → 1 ≤ held to + kept to
        some_kept (c.to_local k) = omega arith
        some_kept (c.to_global k) = omega arith
        some_kept (c.to_super m) = omega arith
        some_kept (c.to_member e s) = omega arith
        some_kept (c.to_element e i s) = omega arith

  -- ---- operators beside their operands

  -- `&&` and `||` jump behind their right side with the left value.
  linked_fine : (op : Joint) (t x : ℕ) (e : Exp) (n : ℕ) → Sound p here n e → Holds t (x + 1) (d.linked p constant first scratch op t (co e (d.right_at p constant first scratch op t)) (size e)) → Is (t + (size e + joint_size op)) (x + 1)
      → ((u y : ℕ) → Holds u y (co e u) → Is (u + size e) (y + 1) → AreFine y (co e u)) → AreFine (x + 1) (d.linked p constant first scratch op t (co e (d.right_at p constant first scratch op t)) (size e))
  linked_fine joint.And t x e n sound h next right =
      let place : t + 1 + 1 + 1 ≡ t + 3 = omega arith in
      let rest = shift (t + 3) x (t + 1 + 1 + 1) (x + 1 - 1 + 2 - 1 + 0 - 1 + 0) (co e (t + 3) ++ ExpectBool ∷ []) place (omega arith) h.1.1.1 in (
        record { operands = omega arith; slot = tt; jump = tt },
        (
          record { operands = omega arith; slot = tt; jump = is_at (t + (size e + 4)) (t + 3 + size e + 1) (x + 1) (x + 1 - 1 + 2 - 1) (omega arith) (omega arith) next },
          (
            record { operands = omega arith; slot = tt; jump = tt },
            deep (x + 1 - 1 + 2 - 1 + 0 - 1 + 0) x (co e (t + 3) ++ ExpectBool ∷ []) (omega arith)
                (then_fine e n (t + 3) x (ExpectBool ∷ []) sound tt rest (right (t + 3) x) (λ b. (record { operands = omega arith; slot = tt; jump = tt }, tt))),
          ),
        ),
      )
  linked_fine joint.Or t x e n sound h next right =
      let place : t + 1 + 1 + 1 + 1 ≡ t + 4 = omega arith in
      let rest = shift (t + 4) x (t + 1 + 1 + 1 + 1) (x + 1 - 1 + 2 - 1 + 1 - 1 + 0 - 1 + 0) (co e (t + 4) ++ ExpectBool ∷ []) place (omega arith) h.1.1.1.1 in (
        record { operands = omega arith; slot = tt; jump = tt },
        (
          record { operands = omega arith; slot = tt; jump = tt },
          (
            record { operands = omega arith; slot = tt; jump = is_at (t + (size e + 5)) (t + 4 + size e + 1) (x + 1) (x + 1 - 1 + 2 - 1 + 1 - 1) (omega arith) (omega arith) next },
            (
              record { operands = omega arith; slot = tt; jump = tt },
              deep (x + 1 - 1 + 2 - 1 + 1 - 1 + 0 - 1 + 0) x (co e (t + 4) ++ ExpectBool ∷ []) (omega arith)
                  (then_fine e n (t + 4) x (ExpectBool ∷ []) sound tt rest (right (t + 4) x) (λ b. (record { operands = omega arith; slot = tt; jump = tt }, tt))),
            ),
          ),
        ),
      )
  linked_fine (joint.Operator op) t x e n sound h next right =
      then_fine e n t (x + 1) (d.combined p constant first scratch op.operator op.site) sound (some_operator op.operator op.site) h (right t (x + 1))
      (λ b. deep (x + 1 + 1) (x + 2) (d.combined p constant first scratch op.operator op.site) (omega arith) (operator_fine op.operator op.site x))
    where
      some_operator : (op : BinaryOperator) (s : SiteId) → IsSome (d.combined p constant first scratch op s)
      some_operator b.Equal s = tt
      some_operator b.NotEqual s = tt
      some_operator _ s = tt

  -- ---- expressions

  open_target : (n : ℕ) (opened : first + n ≤ locals) (to : Target) → SoundTarget p here n to → IsOpen n opened to
  open_target n opened (c.to_local k) h = h
  open_target n opened (c.to_global k) h = tt
  open_target n opened (c.to_super m) h = tt
  open_target n opened (c.to_member e s) h = tt
  open_target n opened (c.to_element e i s) h = tt

  open_update : (n : ℕ) (opened : first + n ≤ locals) (to : Update) → SoundUpdate p here n to → IsOpen n opened (written to)
  open_update n opened (c.of_local k) h = h
  open_update n opened (c.of_global k) h = tt
  open_update n opened (c.of_super g m) h = tt
  open_update n opened (c.of_member e g s) h = tt
  open_update n opened (c.of_element e i g s) h = tt

  all_start : (es : Exps) (t x : ℕ) → Holds t x (cos es t) → Is (t + sizes es) (x + count es) → Is t x
  all_start c.no_more t x h next = is_at (t + 0) t (x + 0) x (omega arith) (omega arith) next
  all_start (c.also e more) t x h next = starts depths locals t x (co e t) (some_exp p constant first scratch e t) (front depths locals t x (co e t) (cos more (t + size e)) h)

  some_write : (to : Target) → IsSome (d.keep p constant first scratch to ++ d.set p constant first scratch to)
  some_write (c.to_local k) = tt
  some_write (c.to_global k) = tt
  some_write (c.to_super m) = tt
  some_write (c.to_member e s) = tt
  some_write (c.to_element e i s) = tt

  links_start : (ls : Links) (t x : ℕ) → Holds t (x + 1) (d.links p constant first scratch ls t) → Is (t + links_size ls) (x + 1) → Is t (x + 1)
  links_start c.no_link t x h next = is_at (t + 0) t (x + 1) (x + 1) (omega arith) refl next
  links_start (c.link op e more) t x h next =
      starts depths locals t (x + 1) (d.linked p constant first scratch op t (co e (d.right_at p constant first scratch op t)) (size e)) (some_linked op)
      (front depths locals t (x + 1) (d.linked p constant first scratch op t (co e (d.right_at p constant first scratch op t)) (size e)) _ h)
    where
      some_linked : (op : Joint) → IsSome (d.linked p constant first scratch op t (co e (d.right_at p constant first scratch op t)) (size e))
      some_linked joint.And = tt
      some_linked joint.Or = tt
      some_linked (joint.Operator k) = some_left (co e t) _ (some_exp p constant first scratch e t)

  -- a receiver and an index
  two_fine : (e i : Exp) (n t x : ℕ) → Sound p here n e → (Holds t x (co e t) → Is (t + size e) (x + 1) → AreFine x (co e t))
      → (Holds (t + size e) (x + 1) (co i (t + size e)) → Is (t + size e + size i) (x + 1 + 1) → AreFine (x + 1) (co i (t + size e)))
      → Holds t x (co e t ++ co i (t + size e)) → Is (t + (size e + size i)) (x + 2) → AreFine x (co e t ++ co i (t + size e))
  two_fine e i n t x sound one other h next =
      then_fine e n t x _ sound (some_exp p constant first scratch i (t + size e)) h one
      (λ b. other b (is_at (t + (size e + size i)) (t + size e + size i) (x + 2) (x + 1 + 1) (omega arith) (omega arith) next))

  mutual
    -- With n variables open. The place behind the code has one operand more.
    pub fine_exp : (e : Exp) (n t x : ℕ) → first + n ≤ locals → Sound p here n e → Covers Has room e → Holds t x (co e t) → Is (t + size e) (x + 1) → AreFine x (co e t)
    fine_exp (c.constant k) n t x opened sound covers h next = (record { operands = omega arith; slot = tt; jump = tt }, tt)
    fine_exp c.this n t x opened sound covers h next = (record { operands = omega arith; slot = omega (arith, spare); jump = tt }, tt)
    fine_exp (c.local k) n t x opened sound covers h next = (record { operands = omega arith; slot = omega (arith, opened, sound); jump = tt }, tt)
    fine_exp (c.global k) n t x opened sound covers h next = (record { operands = omega arith; slot = tt; jump = tt }, tt)
    fine_exp (c.interpolation units more) n t x opened sound covers h next =
        let ends = end_pieces p here bare constant first scratch more n (t + 1) (x - 0 + 1) sound in (
          record { operands = omega arith; slot = tt; jump = tt },
          fine_both depths locals (x - 0 + 1 + 2 * pieces_count more) (x - 0 + 1) (d.pieces p constant first scratch more (t + 1)) (Concat (1 + 2 * pieces_count more) ∷ []) ends
              (fine_pieces more n (t + 1) (x - 0 + 1) opened sound covers.1 (front depths locals (t + 1) (x - 0 + 1) (d.pieces p constant first scratch more (t + 1)) (Concat (1 + 2 * pieces_count more) ∷ []) h.1))
              (record { operands = omega arith; slot = tt; jump = tt }, tt),
        )
    fine_exp (c.call_function f args) n t x opened sound covers h next =
        then_args args n t x _ sound.1 tt h (fine_all args n t x opened sound.1 covers) (λ b. (record { operands = omega arith; slot = tt; jump = tt }, tt))
    fine_exp (c.print e) n t x opened sound covers h next =
        then_fine e n t x _ sound tt h (fine_exp e n t x opened sound covers)
        (λ b. (record { operands = omega arith; slot = tt; jump = tt }, (record { operands = omega arith; slot = tt; jump = tt }, (record { operands = omega arith; slot = tt; jump = tt }, (record { operands = omega arith; slot = tt; jump = tt }, tt)))))
    fine_exp (c.new class args) n t x opened sound covers h next =
        then_args args n t x (d.make p constant first scratch class (count args)) sound.2 (some_make p constant first scratch (nat_eq class 0) class (count args)) h (fine_all args n t x opened sound.2 covers.1)
        (λ b. make_fine (nat_eq class 0) class (count args) x covers.0)
    fine_exp (c.super m args) n t x opened sound covers h next =
        (record { operands = omega arith; slot = omega (arith, spare); jump = tt }, then_args args n (t + 1) (x - 0 + 1) _ sound.2 tt h.1 (fine_all args n (t + 1) (x - 0 + 1) opened sound.2 covers) (λ b. (record { operands = omega arith; slot = tt; jump = tt }, tt)))
    fine_exp (c.list_of items) n t x opened sound covers h next =
        then_args items n t x _ sound tt h (fine_all items n t x opened sound covers) (λ b. (record { operands = omega arith; slot = tt; jump = tt }, tt))
    fine_exp (c.postfix e c.no_call) n t x opened sound covers h next =
        let ends = end_exp p here bare constant first scratch e n t x sound.0 in
        fine_both depths locals (x + 1) x (co e t) [] ends (fine_exp e n t x opened sound.0 covers.0 (front depths locals t x (co e t) [] h) (is_at (t + (size e + 0)) (t + size e) (x + 1) (x + 1) (omega arith) refl next)) tt
    fine_exp (c.postfix e (c.call s args more)) n t x opened sound covers h next =
        then_fine e n t x _ sound.0 (some_right (cos args (t + size e)) _ tt) h (fine_exp e n t x opened sound.0 covers.0)
        (λ b. fine_calls (c.call s args more) n (t + size e) x opened sound.1 covers.1 b)
    fine_exp (c.chain e more) n t x opened sound covers h next =
        let ends = end_exp p here bare constant first scratch e n t x sound.0 in
        let b = back depths locals (t + size e) (x + 1) t x (co e t) (d.links p constant first scratch more (t + size e)) (ap (λ k. t + k) (code_length p constant first scratch e t)) ends h in
        let end : Is (t + size e + links_size more) (x + 1) = is_at (t + (size e + links_size more)) (t + size e + links_size more) (x + 1) (x + 1) (omega arith) refl next in
        fine_both depths locals (x + 1) x (co e t) _ ends (fine_exp e n t x opened sound.0 covers.0 (front depths locals t x (co e t) _ h) (links_start more (t + size e) x b end))
        (fine_links more n (t + size e) x opened sound.1 covers.1 b end)
    fine_exp (c.not e) n t x opened sound covers h next =
        then_fine e n t x _ sound tt h (fine_exp e n t x opened sound covers) (λ b. (record { operands = omega arith; slot = tt; jump = tt }, tt))
    fine_exp (c.is e true class) n t x opened sound covers h next =
        then_fine e n t x _ sound.1 tt h (fine_exp e n t x opened sound.1 covers) (λ b. (record { operands = omega arith; slot = tt; jump = tt }, (record { operands = omega arith; slot = tt; jump = tt }, tt)))
    fine_exp (c.is e false class) n t x opened sound covers h next =
        then_fine e n t x _ sound.1 tt h (fine_exp e n t x opened sound.1 covers) (λ b. (record { operands = omega arith; slot = tt; jump = tt }, tt))
    fine_exp (c.conditional y z w) n t x opened sound covers h next =
        let then_at : ℕ = t + size y + 1 in
        let else_at : ℕ = then_at + size z + 1 in
        let end : Is (else_at + size w) (x + 1) = is_at (t + (size y + (1 + (size z + (1 + size w))))) (else_at + size w) (x + 1) (x + 1) (omega arith) refl next in
        then_fine y n t x _ sound.0 tt h (fine_exp y n t x opened sound.0 covers.0)
        (λ b.
        let jump = back depths locals (then_at + size z) (x + 1) then_at x (co z then_at) _ (ap (λ k. then_at + k) (code_length p constant first scratch z then_at)) (end_exp p here bare constant first scratch z n then_at x sound.1)
        (shift then_at x then_at (x + 1 - 1 + 0) _ refl (omega arith) b.1) in
        let other = shift else_at x (then_at + size z + 1) (x + 1 - 1) (co w else_at) refl (omega arith) jump.1 in (
          record { operands = omega arith; slot = tt; jump = is_at else_at else_at x (x + 1 - 1) refl (omega arith) (starts depths locals else_at x (co w else_at) (some_exp p constant first scratch w else_at) other) },
          deep (x + 1 - 1 + 0) x _ (omega arith) (then_fine z n then_at x _ sound.1 tt (shift then_at x then_at (x + 1 - 1 + 0) _ refl (omega arith) b.1) (fine_exp z n then_at x opened sound.1 covers.1) (λ k. (
            record { operands = omega arith; slot = tt; jump = is_at (else_at + size w) (else_at + size w) (x + 1) (x + 1 - 0) refl (omega arith) end },
            deep (x + 1 - 1) x (co w else_at) (omega arith) (fine_exp w n else_at x opened sound.2 covers.2 other end),
          ))),
        ))
    fine_exp (c.assign to e) n t x opened sound covers h next =
        let ends = end_target p here bare constant first scratch to n t x sound.0 in
        let b = back depths locals (t + place_size to) (x + held to) t x (d.place p constant first scratch to t) _ (ap (λ k. t + k) (place_length p constant first scratch to t)) ends h in
        let right : Is (t + place_size to) (x + held to) = starts depths locals (t + place_size to) (x + held to) _ (some_left (co e (t + place_size to)) _ (some_exp p constant first scratch e (t + place_size to))) b in
        fine_both depths locals (x + held to) x (d.place p constant first scratch to t) _ ends (fine_target to n t x opened sound.0 covers.0 (front depths locals t x (d.place p constant first scratch to t) _ h) right)
        (then_fine e n (t + place_size to) (x + held to) _ sound.1 (some_write to) b (fine_exp e n (t + place_size to) (x + held to) opened sound.1 covers.1)
        (λ k. write_fine n opened to x (open_target n opened to sound.0)))
    fine_exp (c.compound_assign to op e) n t x opened sound covers h next =
        let right_at : ℕ = t + update_size to + read_size to in
        let m : ℕ = x + held (written to) + 1 in
        let called : m + 1 - 2 + 1 ≡ m = omega arith in
        let ends = end_update p here bare constant first scratch to n t x sound.0 in
        let reads = end_read p here bare constant first scratch to x in
        let b = back depths locals (t + update_size to) (x + held (written to)) t x (d.update_place p constant first scratch to t) _ (ap (λ k. t + k) (update_length p constant first scratch to t)) ends h in
        let k = back depths locals right_at m (t + update_size to) (x + held (written to)) (d.read p constant first scratch to) _ (ap (λ k. t + update_size to + k) (read_length p constant first scratch to)) reads b in
        let old : Is (t + update_size to) (x + held (written to)) = starts depths locals (t + update_size to) (x + held (written to)) _ (some_left (d.read p constant first scratch to) _ (some_read p constant first scratch to)) b in
        fine_both depths locals (x + held (written to)) x (d.update_place p constant first scratch to t) _ ends (fine_update to n t x opened sound.0 covers.0 (front depths locals t x (d.update_place p constant first scratch to t) _ h) old)
        (fine_both depths locals m (x + held (written to)) (d.read p constant first scratch to) _ reads (read_fine n opened to x (open_update n opened to sound.0))
        (then_fine e n right_at m _ sound.2 tt k (fine_exp e n right_at m opened sound.2 covers.1) (λ j. (
          record { operands = omega arith; slot = tt; jump = tt },
          deep (m + 1 - 2 + 1) m (d.keep p constant first scratch (written to) ++ d.set p constant first scratch (written to)) called (write_fine n opened (written to) x (open_update n opened to sound.0)),
        ))))
    fine_exp (c.increment is_before op to) n t x opened sound covers h next =
        let ends = end_update p here bare constant first scratch to n t x sound.0 in
        let b = back depths locals (t + update_size to) (x + held (written to)) t x (d.update_place p constant first scratch to t) _ (ap (λ k. t + k) (update_length p constant first scratch to t)) ends h in
        let old : Is (t + update_size to) (x + held (written to)) = starts depths locals (t + update_size to) (x + held (written to)) _ (some_incremented p constant first scratch is_before op to) b in
        fine_both depths locals (x + held (written to)) x (d.update_place p constant first scratch to t) _ ends (fine_update to n t x opened sound.0 covers.1 (front depths locals t x (d.update_place p constant first scratch to t) _ h) old)
        (incremented_fine n opened is_before op to x (open_update n opened to sound.0))
    fine_exp (c.throw e) n t x opened sound covers h next =
        then_fine e n t x _ sound tt h (fine_exp e n t x opened sound covers) (λ b. (record { operands = omega arith; slot = tt; jump = tt }, tt))

    pub fine_all : (es : Exps) (n t x : ℕ) → first + n ≤ locals → AllSound p here n es → CoversAll Has room es → Holds t x (cos es t) → Is (t + sizes es) (x + count es) → AreFine x (cos es t)
    fine_all c.no_more n t x opened sound covers h next = tt
    fine_all (c.also e more) n t x opened sound covers h next =
        let ends = end_exp p here bare constant first scratch e n t x sound.0 in
        let b = back depths locals (t + size e) (x + 1) t x (co e t) (cos more (t + size e)) (ap (λ k. t + k) (code_length p constant first scratch e t)) ends h in
        let end : Is (t + size e + sizes more) (x + 1 + count more) = is_at (t + (size e + sizes more)) (t + size e + sizes more) (x + suc (count more)) (x + 1 + count more) (omega arith) (omega arith) next in
        fine_both depths locals (x + 1) x (co e t) _ ends (fine_exp e n t x opened sound.0 covers.0 (front depths locals t x (co e t) _ h) (all_start more (t + size e) (x + 1) b end))
        (fine_all more n (t + size e) (x + 1) opened sound.1 covers.1 b end)

    fine_pieces : (ps : Pieces) (n t x : ℕ) → first + n ≤ locals → SoundPieces p here n ps → CoversPieces Has room ps → Holds t x (d.pieces p constant first scratch ps t) → AreFine x (d.pieces p constant first scratch ps t)
    fine_pieces c.no_piece n t x opened sound covers h = tt
    fine_pieces (c.piece s e after more) n t x opened sound covers h =
        let m : ℕ = x + 1 - 1 + 1 - 1 + 1 - 0 + 1 in
        then_fine e n t x _ sound.1 tt h (fine_exp e n t x opened sound.1 covers.1) (λ b. (
          record { operands = omega arith; slot = tt; jump = tt },
          (
            record { operands = omega arith; slot = tt; jump = tt },
            (
              record { operands = omega arith; slot = tt; jump = tt },
              fine_pieces more n (t + size e + 3) m opened sound.2 covers.2 (shift (t + size e + 3) m (t + size e + 1 + 1 + 1) m (d.pieces p constant first scratch more (t + size e + 3)) (omega arith) refl b.1.1.1),
            ),
          ),
        ))

    fine_calls : (ks : Calls) (n t x : ℕ) → first + n ≤ locals → SoundCalls p here n ks → CoversCalls Has room ks → Holds t (x + 1) (d.calls p constant first scratch ks t) → AreFine (x + 1) (d.calls p constant first scratch ks t)
    fine_calls c.no_call n t x opened sound covers h = tt
    fine_calls (c.call s args more) n t x opened sound covers h =
        let called : x + 1 + count args - suc (count args) + 1 ≡ x + 1 = omega arith in
        then_args args n t (x + 1) _ sound.1 tt h (fine_all args n t (x + 1) opened sound.1 covers.0) (λ b. (
          record { operands = omega arith; slot = tt; jump = tt },
          deep (x + 1 + count args - suc (count args) + 1) (x + 1) (d.calls p constant first scratch more (t + sizes args + 1)) called
              (fine_calls more n (t + sizes args + 1) x opened sound.2 covers.1 (shift (t + sizes args + 1) (x + 1) (t + sizes args + 1) (x + 1 + count args - suc (count args) + 1) _ refl called b.1)),
        ))

    fine_links : (ls : Links) (n t x : ℕ) → first + n ≤ locals → SoundLinks p here n ls → CoversLinks Has room ls → Holds t (x + 1) (d.links p constant first scratch ls t) → Is (t + links_size ls) (x + 1) → AreFine (x + 1) (d.links p constant first scratch ls t)
    fine_links c.no_link n t x opened sound covers h next = tt
    fine_links (c.link op e more) n t x opened sound covers h next =
        let right_at : ℕ = d.right_at p constant first scratch op t in
        let end : Is (t + (size e + joint_size op) + links_size more) (x + 1) = is_at (t + (size e + (joint_size op + links_size more))) (t + (size e + joint_size op) + links_size more) (x + 1) (x + 1) (omega arith) refl next in
        let ends = end_linked p here bare constant first scratch op t x (co e right_at) (size e) (λ y. end_exp p here bare constant first scratch e n right_at y sound.1) in
        let b = back depths locals (t + (size e + joint_size op)) (x + 1) t (x + 1) (d.linked p constant first scratch op t (co e right_at) (size e)) _
        (ap (λ k. t + k) (linked_length p constant first scratch op t (co e right_at) (size e) (code_length p constant first scratch e right_at))) ends h in
        fine_both depths locals (x + 1) (x + 1) (d.linked p constant first scratch op t (co e right_at) (size e)) _ ends
        (linked_fine op t x e n sound.1 (front depths locals t (x + 1) (d.linked p constant first scratch op t (co e right_at) (size e)) _ h) (links_start more (t + (size e + joint_size op)) x b end) (λ u y. fine_exp e n u y opened sound.1 covers.0))
        (fine_links more n (t + (size e + joint_size op)) x opened sound.2 covers.1 b end)

    fine_target : (to : Target) (n t x : ℕ) → first + n ≤ locals → SoundTarget p here n to → CoversTarget Has room to → Holds t x (d.place p constant first scratch to t) → Is (t + place_size to) (x + held to) → AreFine x (d.place p constant first scratch to t)
    fine_target (c.to_local k) n t x opened sound covers h next = tt
    fine_target (c.to_global k) n t x opened sound covers h next = tt
    fine_target (c.to_super m) n t x opened sound covers h next = (record { operands = omega arith; slot = omega (arith, spare); jump = tt }, tt)
    fine_target (c.to_member e s) n t x opened sound covers h next = fine_exp e n t x opened sound.1 covers h next
    fine_target (c.to_element e i s) n t x opened sound covers h next = two_fine e i n t x sound.1 (fine_exp e n t x opened sound.1 covers.0) (fine_exp i n (t + size e) (x + 1) opened sound.2 covers.1) h next

    fine_update : (to : Update) (n t x : ℕ) → first + n ≤ locals → SoundUpdate p here n to → CoversUpdate Has room to → Holds t x (d.update_place p constant first scratch to t) → Is (t + update_size to) (x + held (written to)) → AreFine x (d.update_place p constant first scratch to t)
    fine_update (c.of_local k) n t x opened sound covers h next = tt
    fine_update (c.of_global k) n t x opened sound covers h next = tt
    fine_update (c.of_super g m) n t x opened sound covers h next = (record { operands = omega arith; slot = omega (arith, spare); jump = tt }, tt)
    fine_update (c.of_member e g s) n t x opened sound covers h next = fine_exp e n t x opened sound.2 covers h next
    fine_update (c.of_element e i g s) n t x opened sound covers h next = two_fine e i n t x sound.2 (fine_exp e n t x opened sound.2 covers.0) (fine_exp i n (t + size e) (x + 1) opened sound.3 covers.1) h next

-- Slots that are written: a variable, and the values that are used twice, which go beside the variables and come back.
use Rattle.std.proofs.Common.{◌≡◌, ◌≢◌, ℕ, zero, suc, ◌+◌, ◌-◌, ◌<◌, ◌≤◌, List, [], ◌∷◌, ◌++◌, length, reverse, refl, sym, ap, ◌∙◌, subst, arith, length-append, append_assoc, append-nil, ⊎_elim}
use Rattle.std.specs.Prelude.{true, ◌&&◌, nat_lt, slice_get, slice_set, Some}
use Rattle.std.proofs.lemmas.Bool.{lt-ltb, cases_lt}
use Rattle.std.proofs.lemmas.List.{reverse-append, length-reverse}
use Rattle.std.proofs.lemmas.Option.{slice_get_within}
use Rattle.dart_values.specs.Values.{Value}
use Rattle.dart_meaning.specs.Numbered.{place_of_slot}
use Rattle.dart_meaning.specs.Run.{Run, Store, pure, change}
use Rattle.code_unit.specs.declared.instr.Instr.{Instr}
use Rattle.code_unit.specs.declared.instr.Instr.TheVariants.{Local, SetLocal}
use Rattle.code_pool.specs.Machine.{State, to, when, no_slot, on}
use Rattle.machine_runs.proofs.Lists.{set_left, set_right, get_left, get_right, get_set_same, get_set_other, set_length}
use Rattle.machine_runs.proofs.Loaded.{Loaded}
use Rattle.machine_runs.proofs.Runs.{goes}
use Rattle.machine_runs.proofs.Points.{Open, opens, Point, point, none_kept, Activation, lands, Fits, Does, Stands, act_is, does_move, does_pure, does_then, does_more, does_from, does_to, top_one_at}
use Rattle.machine_runs.proofs.Instructions.{local_is, does_slot}

-- So many variables are open, and these values are kept.
abbrev pub keeping : ℕ → List Value → Open
keeping m ks = record { vars = m; kept = ks }

-- the last n operands, the last one first, into slots from number k of those beside the variables on
abbrev pub stash : ℕ → ℕ → ℕ → List Instr
stash scratch k zero = []
stash scratch k (suc n) = SetLocal (scratch + k) ∷ stash scratch (suc k) n

-- and back
abbrev pub fetch : ℕ → ℕ → List Instr
fetch scratch zero = []
fetch scratch (suc n) = Local (scratch + n) ∷ fetch scratch n

pub stash_length : (scratch k n : ℕ) → length (stash scratch k n) ≡ n
stash_length scratch k zero = refl
stash_length scratch k (suc n) = ap suc (stash_length scratch (suc k) n)

pub fetch_length : (scratch n : ℕ) → length (fetch scratch n) ≡ n
fetch_length scratch zero = refl
fetch_length scratch (suc n) = ap suc (fetch_length scratch n)

module _ (prog : Loaded) (f : Activation prog) where
  in_slots : (slots ops : List Value) (i : ℕ) (w : Value) → i < length slots → slice_set ((f.below ++ slots) ++ ops) (length f.below + i) w ≡ (f.below ++ slice_set slots i w) ++ ops
  in_slots slots ops i w h =
      set_left (f.below ++ slots) ops (length f.below + i) w (omega (arith, length-append f.below slots)) ∙ ap (λ l. l ++ ops) (set_right f.below slots i w)

  -- `SetLocal` writes the slot
  pub set_is : (n : Open) (t : ℕ) (ops : List Value) (i : ℕ) (w : Value) (slots : List Value) (s : Store) → length slots ≡ f.unit.locals → slice_get f.unit.code t ≡ Some (SetLocal i) → i < length slots
      → goes prog (lands prog f (point n t (ops ++ w ∷ [])) slots s) ≡ to (lands prog f (point n (t + 1) ops) (slice_set slots i w) s)
  set_is n t ops i w slots s size at less =
      let q : State = lands prog f (point n t (ops ++ w ∷ [])) slots s in
      let of_unit : nat_lt i f.unit.locals ≡ true = lt-ltb i f.unit.locals (subst (λ k. i < k) size less) in
      let inside : nat_lt (length f.below + i) (length ((f.below ++ slots) ++ ops)) ≡ true =
      lt-ltb (length f.below + i) (length ((f.below ++ slots) ++ ops)) (omega (arith, length-append (f.below ++ slots) ops, length-append f.below slots)) in
      act_is prog f (point n t (ops ++ w ∷ [])) slots s (SetLocal i) at
      ∙ top_one_at prog f (point n t (ops ++ w ∷ [])) slots s ops w (λ below v. when no_slot (nat_lt i f.unit.locals && nat_lt (length f.below + i) (length below)) (on q (slice_set below (length f.below + i) v))) size refl
      ∙ rw (of_unit, inside) (ap (λ l. on q l) (in_slots slots ops i w less))

  -- where a value is kept behind others, the rest fits as before
  pub keeps_more : (m : ℕ) (ks slots : List Value) (w : Value) (r : Run Value) → f.first + m ≤ f.scratch → f.scratch + length ks < f.unit.locals
      → Fits prog f (keeping m ks) slots r → Fits prog f (keeping m (ks ++ w ∷ [])) (slice_set slots (f.scratch + length ks) w) r
  keeps_more m ks slots w r apart room h = record {
    size = set_length slots (f.scratch + length ks) w ∙ h.size;
    count = h.count;
    vars = λ k l. get_set_other slots (f.scratch + length ks) (f.first + k) w (λ e. absurd (omega (arith, e, l, apart))) ∙ h.vars k l;
    kept = λ i v e. ⊎_elim
        (λ lt. get_set_other slots (f.scratch + length ks) (f.scratch + i) w (λ d. absurd (omega (arith, d, lt))) ∙ h.kept i v (sym (get_left ks (w ∷ []) i lt) ∙ e))
        (λ le.
        let last : i < length ks + 1 = subst (λ n. i < n) (length-append ks (w ∷ [])) (slice_get_within (ks ++ w ∷ []) i v e) in
        let same : i ≡ length ks + 0 = omega (arith, last, le) in
        let j : f.scratch + i ≡ f.scratch + length ks = omega (arith, same) in
        ap (slice_get (slice_set slots (f.scratch + length ks) w)) j ∙ get_set_same slots (f.scratch + length ks) w (omega (arith, h.size, room))
        ∙ sym (get_right ks (w ∷ []) 0) ∙ ap (slice_get (ks ++ w ∷ [])) (sym same) ∙ e)
        (cases_lt i (length ks));
    this = λ is. get_set_other slots (f.scratch + length ks) 0 w (λ e. absurd (omega (arith, e, apart, f.this_first is))) ∙ h.this is;
    self = h.self;
    follows = h.follows;
  }

module _ {prog : Loaded} {f : Activation prog} where
  -- an assignment to a variable
  pub does_set_local : (m t : ℕ) (ops : List Value) (k : ℕ) (w : Value) → slice_get f.unit.code t ≡ Some (SetLocal (f.first + k)) → k < m → f.first + m ≤ f.unit.locals
      → Does prog f 1 (point (opens m) t (ops ++ w ∷ [])) (change (λ (r : Run Value). record r { vars = slice_set r.vars (place_of_slot r.vars k) w })) (λ _. point (opens m) (t + 1) ops)
  does_set_local m t ops k w at less room =
      does_move (λ r. tt) (λ r. record r { vars = slice_set r.vars (place_of_slot r.vars k) w })
      (λ slots r h. (slice_set slots (f.first + k) w, fits slots r h, set_is prog f (opens m) t ops (f.first + k) w slots r.store h.size at (omega (arith, h.size)), refl))
    where
      vars : (slots : List Value) (r : Run Value) → Fits prog f (opens m) slots r → (j : ℕ) → j < m → slice_get (slice_set slots (f.first + k) w) (f.first + j) ≡ slice_get (slice_set r.vars (length r.vars - suc k) w) (m - suc j)
      vars slots r h j l = ⊎_elim
          (λ lt. other j l (omega arith))
          (λ le. ⊎_elim (λ lt. other j l (omega arith)) (λ ge. same j l (omega arith)) (cases_lt k j))
          (cases_lt j k)
        where
          same : (j : ℕ) → j < m → j ≡ k → slice_get (slice_set slots (f.first + k) w) (f.first + j) ≡ slice_get (slice_set r.vars (length r.vars - suc k) w) (m - suc j)
          same j l e =
              let a : f.first + j ≡ f.first + k = ap (λ i. f.first + i) e in
              let b : m - suc j ≡ length r.vars - suc k = omega (arith, h.count, e) in
              let c : length r.vars - suc k < length r.vars = omega (arith, h.count, less) in
              ap (slice_get (slice_set slots (f.first + k) w)) a ∙ get_set_same slots (f.first + k) w (omega (arith, h.size))
              ∙ sym (ap (slice_get (slice_set r.vars (length r.vars - suc k) w)) b ∙ get_set_same r.vars (length r.vars - suc k) w c)

          other : (j : ℕ) → j < m → j ≢ k → slice_get (slice_set slots (f.first + k) w) (f.first + j) ≡ slice_get (slice_set r.vars (length r.vars - suc k) w) (m - suc j)
          other j l ne =
              get_set_other slots (f.first + k) (f.first + j) w (λ e. ne (omega (arith, e)))
              ∙ h.vars j l ∙ sym (get_set_other r.vars (length r.vars - suc k) (m - suc j) w (λ e. ne (omega (arith, e, h.count, l, less))))

      fits : (slots : List Value) (r : Run Value) → Fits prog f (opens m) slots r → Fits prog f (opens m) (slice_set slots (f.first + k) w) (record r { vars = slice_set r.vars (place_of_slot r.vars k) w })
      fits slots r h = record {
        size = set_length slots (f.first + k) w ∙ h.size;
        count = set_length r.vars (length r.vars - suc k) w ∙ h.count;
        vars = vars slots r h;
        kept = λ i v e. none_kept i v e;
        this = λ is. get_set_other slots (f.first + k) 0 w (λ e. absurd (omega (arith, e, f.this_first is))) ∙ h.this is;
        self = h.self;
        follows = h.follows;
      }

  -- ---- a value that is used twice

  -- The value on top goes into the slot beside the variables.
  pub does_keep : {A : Type 0} (m t : ℕ) (ops : List Value) (w : Value) (v : A) → slice_get f.unit.code t ≡ Some (SetLocal f.scratch) → f.first + m ≤ f.scratch → f.scratch < f.unit.locals
      → Does prog f 1 (point (opens m) t (ops ++ w ∷ [])) (pure v) (λ _. point (keeping m (w ∷ [])) (t + 1) ops)
  does_keep m t ops w v at apart room =
      does_move (λ r. v) (λ r. r)
      (λ slots r h. (
        slice_set slots f.scratch w,
        fits slots r h,
        set_is prog f (opens m) t ops f.scratch w slots r.store h.size at (omega (arith, h.size, room)),
        refl,
      ))
    where
      e : f.scratch + 0 ≡ f.scratch
      e = omega arith

      fits : (slots : List Value) (r : Run Value) → Fits prog f (opens m) slots r → Fits prog f (keeping m (w ∷ [])) (slice_set slots f.scratch w) r
      fits slots r h = subst (λ k. Fits prog f (keeping m (w ∷ [])) (slice_set slots k w) r) e (keeps_more prog f m [] slots w r apart (omega (arith, room)) h)

  -- It comes back on top.
  pub does_take : (m t : ℕ) (ops : List Value) (w : Value) → slice_get f.unit.code t ≡ Some (Local f.scratch)
      → Does prog f 1 (point (keeping m (w ∷ [])) t ops) (pure w) (λ v. point (opens m) (t + 1) (ops ++ v ∷ []))
  does_take m t ops w at =
      does_move (λ r. w) (λ r. r)
      (λ slots r h.
      let e : f.scratch + 0 ≡ f.scratch = omega arith in (
        slots,
        record { size = h.size; count = h.count; vars = h.vars; kept = λ i v e. none_kept i v e; this = h.this; self = h.self; follows = h.follows },
        local_is prog f (point (keeping m (w ∷ [])) t ops) slots r.store f.scratch w h.size at (ap (slice_get slots) (sym e) ∙ h.kept 0 w refl),
        refl,
      ))

  pub does_stash : (m t : ℕ) (ops ks ws : List Value) (u : Value) → Stands prog f t (stash f.scratch (length ks) (length ws)) → f.first + m ≤ f.scratch
      → f.scratch + length ks + length ws ≤ f.unit.locals → Does prog f (length ws) (point (keeping m ks) t (ops ++ reverse ws)) (pure u) (λ _. point (keeping m (ks ++ ws)) (t + length ws) ops)
  does_stash m t ops ks [] u h apart room =
      let e : t + 0 ≡ t = omega arith in
      does_to (λ v i. point (keeping m (sym (append-nil ks) i)) (sym e i) ops) (does_from (λ i. point (keeping m ks) t (sym (append-nil ops) i)) (does_pure {t = λ _. point (keeping m ks) t ops} u))
  does_stash m t ops ks (w ∷ ws) u h apart room =
      let turned : reverse (w ∷ ws) ≡ reverse ws ++ w ∷ [] = reverse-append (w ∷ []) ws in
      let at_more : length (ks ++ w ∷ []) ≡ suc (length ks) = length-append ks (w ∷ []) ∙ omega arith in
      let x : Point = point (keeping m ks) t ((ops ++ reverse ws) ++ w ∷ []) in
      let first_one : Does prog f 1 x (pure u) (λ _. point (keeping m (ks ++ w ∷ [])) (t + 1) (ops ++ reverse ws)) =
      does_move (λ r. u) (λ r. r) (λ slots r fits. (
        slice_set slots (f.scratch + length ks) w,
        keeps_more prog f m ks slots w r apart (omega (arith, room)) fits,
        set_is prog f (keeping m ks) t (ops ++ reverse ws) (f.scratch + length ks) w slots r.store fits.size h.0 (omega (arith, fits.size, room)),
        refl,
      )) in
      let others : Does prog f (length ws) (point (keeping m (ks ++ w ∷ [])) (t + 1) (ops ++ reverse ws)) (pure u) (λ _. point (keeping m ((ks ++ w ∷ []) ++ ws)) (t + 1 + length ws) ops) =
      does_stash m (t + 1) ops (ks ++ w ∷ []) ws u (subst (λ k. Stands prog f (t + 1) (stash f.scratch k (length ws))) (sym at_more) h.1) apart (omega (arith, room, at_more)) in
      let e : t + 1 + length ws ≡ t + suc (length ws) = omega arith in
      does_more (omega arith)
      (does_to (λ v i. point (keeping m (append_assoc ks (w ∷ []) ws i)) (e i) ops)
      (does_from (λ i. point (keeping m ks) t ((append_assoc ops (reverse ws) (w ∷ []) ∙ ap (λ l. ops ++ l) (sym turned)) i))
      (does_then first_one (λ _. others))))

  -- they come back in their order
  pub does_fetch : (m t : ℕ) (ops vs back : List Value) (u : Value) → Stands prog f t (fetch f.scratch (length vs))
      → Does prog f (length vs) (point (keeping m (reverse vs ++ back)) t ops) (pure u) (λ _. point (keeping m (reverse vs ++ back)) (t + length vs) (ops ++ vs))
  does_fetch m t ops [] back u h =
      let e : t + 0 ≡ t = omega arith in
      does_to (λ v i. point (keeping m back) (sym e i) (sym (append-nil ops) i)) (does_pure {t = λ _. point (keeping m back) t ops} u)
  does_fetch m t ops (v ∷ vs) back u h =
      let kept_are : reverse (v ∷ vs) ++ back ≡ reverse vs ++ (v ∷ back) = ap (λ l. l ++ back) (reverse-append (v ∷ []) vs) ∙ append_assoc (reverse vs) (v ∷ []) back in
      let n : Open = keeping m (reverse vs ++ (v ∷ back)) in
      let v_at : slice_get (reverse vs ++ (v ∷ back)) (length vs) ≡ Some v =
      ap (slice_get (reverse vs ++ (v ∷ back))) (omega (arith, length-reverse vs)) ∙ get_right (reverse vs) (v ∷ back) 0 in
      let first_one : Does prog f 1 (point n t ops) (pure v) (λ x. point n (t + 1) (ops ++ x ∷ [])) =
      does_slot n t ops (f.scratch + length vs) (λ r. v) h.0 (λ slots r fits. fits.kept (length vs) v v_at) in
      let others : Does prog f (length vs) (point n (t + 1) (ops ++ v ∷ [])) (pure u) (λ _. point n (t + 1 + length vs) ((ops ++ v ∷ []) ++ vs)) = does_fetch m (t + 1) (ops ++ v ∷ []) vs (v ∷ back) u h.1 in
      let e : t + 1 + length vs ≡ t + suc (length vs) = omega arith in
      does_more (omega arith)
      (does_to (λ x i. point (keeping m (sym kept_are i)) (e i) (append_assoc ops (v ∷ []) vs i))
      (does_from (λ i. point (keeping m (sym kept_are i)) t ops)
      (does_then (first_known first_one) (λ _. others))))
    where
      first_known : {n : Open} → Does prog f 1 (point n t ops) (pure v) (λ x. point n (t + 1) (ops ++ x ∷ [])) → Does prog f 1 (point n t ops) (pure v) (λ _. point n (t + 1) (ops ++ v ∷ []))
      first_known d = record { does = λ slots r fits. d.does slots r fits }

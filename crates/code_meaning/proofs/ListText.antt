-- The code of the text of a list. Each turn looks at the list anew, as the meaning does; slots 1 and 2 keep the number of the next element and what stands before it.
use Rattle.std.proofs.Common.{◌≡◌, ◌≢◌, ℕ, zero, suc, ◌+◌, ◌-◌, ◌<◌, ◌≤◌, List, [], ◌∷◌, ◌++◌, length, refl, sym, ap, ◌∙◌, arith, append_assoc, append-nil, ⊎_elim}
use Rattle.std.specs.Prelude.{Bool, true, false, pos, nat_lt, slice_get, slice_set, slice_index_or, codes, Some}
use Rattle.std.proofs.lemmas.Bool.{ne_eqb, cases_lt}
use Rattle.std.proofs.lemmas.Option.{slice_get_within}
use Rattle.program.specs.declared.literal.Literal.TheVariants as literals
use Rattle.program.specs.declared.numbered.SelectorKind.TheVariants as kind
use Rattle.program.specs.Parts.{selector_at}
use Rattle.program.proofs.Facts.{list_site}
use Rattle.dart_values.specs.Natives.{thing_at}
use Rattle.dart_values.specs.Values as values
use Rattle.dart_values.specs.Values.{Value, null, list, class_of}
use Rattle.dart_meaning.specs.Calls as calls
use Rattle.dart_meaning.specs.Numbered.{world}
use Rattle.dart_meaning.specs.Program.{to_string}
use Rattle.dart_meaning.specs.Run.{Run, Result, went, ended, and_then, M, ◌>>=◌, ◌>>◌, pure, stop, out_of_turns, choose, spend, spend_from, again, leaves as leaves_, on_again, loop}
use Rattle.meaning_laws.proofs.Fields.{lists_are_there}
use Rattle.meaning_laws.proofs.Follows.{follows}
use Rattle.meaning_laws.proofs.This.{class_stays}
use Rattle.code_unit.specs.declared.instr.Instr.TheVariants.{Local, SetLocal, LoopTurn, ElementOr, Return}
use Rattle.code_pool.specs.Machine as machine
use Rattle.code_pool.specs.Machine.{State, to, on, jump}
use Rattle.program_code.specs.Code as d
use Rattle.program_code.specs.IsCode.{LiteralsThere}
use Rattle.machine_runs.proofs.Lists.{get_set_same, get_set_other, set_length}
use Rattle.machine_runs.proofs.Loaded.{Loaded, answers}
use Rattle.machine_runs.proofs.Runs.{worth, worth_suc, goes, comes_one, comes_on, ends_one}
use Rattle.machine_runs.proofs.Points.{Open, opens, Point, point, Activation, lands, Fits, good_of, Reaches, Stops, Leads, Does, act_is, top_two_at, does_move, does_bind, does_then, does_to, does_skip, known_to, forgets, stops_more, leads_on}
use Rattle.machine_runs.proofs.Instructions.{flat, local_is, on_is, does_const, does_pop, does_concat, does_jump, does_expect_text}
use Rattle.machine_runs.proofs.Slots.{keeping, set_is, keeps_more}
use Rattle.machine_runs.proofs.Flows.{leads_from}
use Rattle.machine_runs.proofs.BodyCalls.{entered, does_send}
use Rattle.code_meaning.proofs.Layouts.{Layout, it_is}
use Rattle.code_meaning.proofs.Bodies.{Runs, finishes_at}

-- The unit makes the text of a list, which is its `this`.
pub record ListBody (prog : Loaded) (f : Activation prog) (lay : Layout prog f) : Type 0 where
  pub is_this : f.of_this ≡ true
  pub of_list : class_of f.begun.heap f.me ≡ 5
  pub scratch_is : f.scratch ≡ 1
  pub three : 3 ≤ f.unit.locals
  pub code : f.unit.code ≡ d.list_text_code prog.p lay.constant 1 1
  pub literals : LiteralsThere prog.p prog.pool lay.constant

next_comma : (i : ℕ) → calls.comma_before (i + 1) ≡ codes ", "
next_comma i = ap (λ b. choose b [] (codes ", ")) (ne_eqb (i + 1) 0 (λ e. absurd (omega (arith, e))))

module _ {prog : Loaded} {f : Activation prog} where
  re_pure : {A B : Type 0} {a : ℕ} {x : Point} {t : B → Point} (u : B) (v : A) → Does prog f a x (pure u) t → Does prog f a x (pure v) (λ _. t u)
  re_pure u v w = record { does = λ slots r h. w.does slots r h }

  -- a turn that is spent leaves the frame
  spent : {o : Open} (slots : List Value) (r : Run Value) (k : ℕ) → r.store.turns ≡ suc k → Fits prog f o slots r → Fits prog f o slots (record r { store = record r.store { turns = k } })
  spent slots r k e h = record {
    size = h.size;
    count = h.count;
    vars = h.vars;
    kept = h.kept;
    this = h.this;
    self = h.self;
    follows = (follows prog.p).on f.begun r.store (record r.store { turns = k }) h.follows ((follows prog.p).turns r.store k e);
  }

  -- a slot whose value is known
  does_push : (o : Open) (t : ℕ) (ops : List Value) (i : ℕ) (w : Value) → slice_get f.unit.code t ≡ Some (Local i) → ((slots : List Value) (r : Run Value) → Fits prog f o slots r → slice_get slots i ≡ Some w)
      → Does prog f 1 (point o t ops) (pure null) (λ _. point o (t + 1) (ops ++ w ∷ []))
  does_push o t ops i w at is = does_move (λ r. null) (λ r. r) (λ slots r h. (slots, h, local_is prog f (point o t ops) slots r.store i w h.size at (is slots r h), refl))

  -- another value in a slot that keeps one
  fits_again : (ks : List Value) (i : ℕ) (w : Value) (slots : List Value) (r : Run Value) → f.scratch + i < f.unit.locals → 1 ≤ f.scratch → i < length ks
      → Fits prog f (keeping 0 ks) slots r → Fits prog f (keeping 0 (slice_set ks i w)) (slice_set slots (f.scratch + i) w) r
  fits_again ks i w slots r room behind_this within h = record {
    size = set_length slots (f.scratch + i) w ∙ h.size;
    count = h.count;
    vars = λ k l. absurd (omega (arith, l));
    kept = λ j v e. ⊎_elim
        (λ lt. other j v e (λ d. absurd (omega (arith, d, lt))))
        (λ le. ⊎_elim (λ lt. other j v e (λ d. absurd (omega (arith, d, lt)))) (λ ge. same j v e (omega (arith, le, ge))) (cases_lt i j))
        (cases_lt j i);
    this = λ is. get_set_other slots (f.scratch + i) 0 w (λ e. absurd (omega (arith, e, behind_this))) ∙ h.this is;
    self = h.self;
    follows = h.follows;
  }
    where
      other : (j : ℕ) (v : Value) → slice_get (slice_set ks i w) j ≡ Some v → j ≢ i → slice_get (slice_set slots (f.scratch + i) w) (f.scratch + j) ≡ Some v
      other j v e ne = get_set_other slots (f.scratch + i) (f.scratch + j) w (λ d. ne (omega (arith, d))) ∙ h.kept j v (sym (get_set_other ks i j w ne) ∙ e)

      same : (j : ℕ) (v : Value) → slice_get (slice_set ks i w) j ≡ Some v → j ≡ i → slice_get (slice_set slots (f.scratch + i) w) (f.scratch + j) ≡ Some v
      same j v e is =
          let k : f.scratch + j ≡ f.scratch + i = omega (arith, is) in
          ap (slice_get (slice_set slots (f.scratch + i) w)) k ∙ get_set_same slots (f.scratch + i) w (omega (arith, h.size, room))
          ∙ sym (get_set_same ks i w within) ∙ ap (slice_get (slice_set ks i w)) (sym is) ∙ e

  does_again : (ks : List Value) (i t : ℕ) (ops : List Value) (w : Value) → slice_get f.unit.code t ≡ Some (SetLocal (f.scratch + i)) → f.scratch + i < f.unit.locals → 1 ≤ f.scratch → i < length ks
      → Does prog f 1 (point (keeping 0 ks) t (ops ++ w ∷ [])) (pure null) (λ _. point (keeping 0 (slice_set ks i w)) (t + 1) ops)
  does_again ks i t ops w at room behind_this within =
      does_move (λ r. null) (λ r. r)
      (λ slots r h. (slice_set slots (f.scratch + i) w, fits_again ks i w slots r room behind_this within h, set_is prog f (keeping 0 ks) t ops (f.scratch + i) w slots r.store h.size at (omega (arith, h.size, room)), refl))

module _ {prog : Loaded} {f : Activation prog} (lay : Layout prog f) (x : ListBody prog f lay) where
  -- one more value beside the variables
  does_beside : (ks : List Value) (t : ℕ) (ops : List Value) (w : Value) → slice_get f.unit.code t ≡ Some (SetLocal (f.scratch + length ks)) → f.scratch + length ks < f.unit.locals
      → Does prog f 1 (point (keeping 0 ks) t (ops ++ w ∷ [])) (pure null) (λ _. point (keeping 0 (ks ++ w ∷ [])) (t + 1) ops)
  does_beside ks t ops w at room =
      does_move (λ r. null) (λ r. r)
      (λ slots r h. (
        slice_set slots (f.scratch + length ks) w,
        keeps_more prog f 0 ks slots w r (omega (arith, lay.apart)) room h,
        set_is prog f (keeping 0 ks) t ops (f.scratch + length ks) w slots r.store h.size at (omega (arith, h.size, room)),
        refl,
      ))

  abbrev site : ℕ
  site = length prog.p.sites - 1

  list_site_is : selector_at prog.p site ≡ Some to_string
  list_site_is = it_is kind.Call (codes "toString") 0 (selector_at prog.p site) (list_site prog.p ∣ prog.sound ∣₁ site (omega (arith, prog.sound.prelude)))

  -- the number of the next element, and what stands before its text
  abbrev turn_open : ℕ → List ℕ → Open
  turn_open i c = record { vars = 0; kept = values.num (pos i) ∷ values.text c ∷ [] }

  items_of : (o : Open) (slots : List Value) (r : Run Value) → Fits prog f o slots r → (items : List Value) × (thing_at r.store.heap f.me ≡ Some (list items))
  items_of o slots r fits =
      lists_are_there prog.p r.store.heap f.me (good_of prog f fits).heap (class_stays f.begun.heap r.store.heap f.me fits.follows.classes (omega (arith, x.of_list)) ∙ x.of_list)

  -- the instruction at a place
  at : (k : ℕ) → slice_get f.unit.code k ≡ slice_get (d.list_text_code prog.p lay.constant 1 1) k
  at k = ap (λ l. slice_get l k) x.code

  head : (i : ℕ) (acc c : List ℕ) → Does prog f 3 (point (turn_open i c) 5 (values.text acc ∷ [])) (pure null) (λ _. point (turn_open i c) 8 (values.text acc ∷ values.text c ∷ f.me ∷ values.num (pos i) ∷ []))
  head i acc c =
      let two : 2 ≡ f.scratch + 1 = omega (arith, x.scratch_is) in
      let one_ : 1 ≡ f.scratch + 0 = omega (arith, x.scratch_is) in
      does_then (does_push (turn_open i c) 5 (values.text acc ∷ []) 2 (values.text c) (at 5) (λ slots r fits. ap (slice_get slots) two ∙ fits.kept 1 (values.text c) refl))
      (λ _. does_then (does_push (turn_open i c) 6 (values.text acc ∷ values.text c ∷ []) 0 f.me (at 6) (λ slots r fits. fits.this x.is_this))
      (λ _. does_push (turn_open i c) 7 (values.text acc ∷ values.text c ∷ f.me ∷ []) 1 (values.num (pos i)) (at 7) (λ slots r fits. ap (slice_get slots) one_ ∙ fits.kept 0 (values.num (pos i)) refl)))

  element_step : (i : ℕ) (acc c : List ℕ) (items slots : List Value) (r : Run Value) → length slots ≡ f.unit.locals → thing_at r.store.heap f.me ≡ Some (list items) → (b : Bool) → nat_lt i (length items) ≡ b
      → goes prog (lands prog f (point (turn_open i c) 8 (values.text acc ∷ values.text c ∷ f.me ∷ values.num (pos i) ∷ [])) slots r.store)
      ≡ to (lands prog f (choose b (point (turn_open i c) 9 (values.text acc ∷ values.text c ∷ slice_index_or items i null ∷ values.num (pos (i + 1)) ∷ [])) (point (turn_open i c) 17 (values.text acc ∷ values.text c ∷ []))) slots r.store)
  element_step i acc c items slots r size there b e =
      let at_8 : Point = point (turn_open i c) 8 (values.text acc ∷ values.text c ∷ f.me ∷ values.num (pos i) ∷ []) in
      let s : State = lands prog f at_8 slots r.store in
      act_is prog f at_8 slots r.store (ElementOr 17) (at 8)
      ∙ top_two_at prog f at_8 slots r.store (values.text acc ∷ values.text c ∷ []) f.me (values.num (pos i)) (λ below v i. machine.element prog.p prog.pool (answers prog) 17 s below v i) size refl
      ∙ rw (there, e) (chosen_step b)
    where
      chosen_step : (b : Bool)
          → choose b (on (lands prog f (point (turn_open i c) 8 (values.text acc ∷ values.text c ∷ f.me ∷ values.num (pos i) ∷ [])) slots r.store) (((f.below ++ slots) ++ (values.text acc ∷ values.text c ∷ [])) ++ slice_index_or items i null ∷ values.num (pos (i + 1)) ∷ []))
          (jump 17 (lands prog f (point (turn_open i c) 8 (values.text acc ∷ values.text c ∷ f.me ∷ values.num (pos i) ∷ [])) slots r.store) ((f.below ++ slots) ++ (values.text acc ∷ values.text c ∷ [])))
          ≡ to (lands prog f (choose b (point (turn_open i c) 9 (values.text acc ∷ values.text c ∷ slice_index_or items i null ∷ values.num (pos (i + 1)) ∷ [])) (point (turn_open i c) 17 (values.text acc ∷ values.text c ∷ []))) slots r.store)
      chosen_step true = on_is prog f (point (turn_open i c) 8 (values.text acc ∷ values.text c ∷ f.me ∷ values.num (pos i) ∷ [])) slots r.store _ (values.text acc ∷ values.text c ∷ slice_index_or items i null ∷ values.num (pos (i + 1)) ∷ [])
          (append_assoc (f.below ++ slots) (values.text acc ∷ values.text c ∷ []) (slice_index_or items i null ∷ values.num (pos (i + 1)) ∷ []))
      chosen_step false = refl

  -- where no element is left
  tail_ : (i : ℕ) (acc c : List ℕ) → Does prog f 3 (point (turn_open i c) 17 (values.text acc ∷ values.text c ∷ [])) (pure (values.text (acc ++ codes "]"))) (λ w. point (opens 0) 20 (w ∷ []))
  tail_ i acc c =
      let o : Open = turn_open i c in
      let w : Value = values.text (acc ++ codes "]") in
      let same : point o 20 (values.text (acc ++ (codes "]" ++ [])) ∷ []) ≡ point o 20 (w ∷ []) = λ j. point o 20 (values.text (acc ++ append-nil (codes "]") j) ∷ []) in
      does_then (does_pop o 17 (values.text acc ∷ []) (values.text c) null (at 17))
      (λ _. does_then (re_pure (values.text (codes "]")) null (does_const o 18 (values.text acc ∷ []) (lay.constant (literals.Str (codes "]"))) (literals.Str (codes "]")) (at 18) x.literals.close_bracket))
      (λ _. does_then (does_to (λ _. same) (re_pure (flat (acc ∷ codes "]" ∷ [])) null (does_concat o 19 [] (acc ∷ codes "]" ∷ []) 2 (at 19) refl)))
      (λ _. known_to w refl (forgets 0 20 (values.num (pos i) ∷ values.text c ∷ []) (w ∷ []) w))))

  -- the text of an element, and back to the test
  round : (i : ℕ) (acc c : List ℕ) (item : Value) → Does prog f 6 (point (turn_open (i + 1) c) 11 (values.text acc ∷ values.text c ∷ item ∷ [])) (calls.to_text (world prog.p (entered prog f)) site item)
      (λ shown. point (turn_open (i + 1) (calls.comma_before (i + 1))) 5 (values.text (acc ++ (c ++ shown)) ∷ []))
  round i acc c item =
      let o : Open = turn_open (i + 1) c in
      let at_15 : slice_get f.unit.code 15 ≡ Some (SetLocal (f.scratch + 1)) = (at 15) ∙ ap (λ k. Some (SetLocal k)) (omega (arith, x.scratch_is)) in
      does_skip {w = λ shown. point (turn_open (i + 1) (calls.comma_before (i + 1))) 5 (values.text (acc ++ (c ++ shown)) ∷ [])}
      (does_bind (does_send o 11 (values.text acc ∷ values.text c ∷ []) item [] (d.site site) to_string 0 list_site_is refl refl (at 11)) (λ w. does_expect_text o 12 (values.text acc ∷ values.text c ∷ []) w (at 12)))
      (λ shown.
      let whole : Value = values.text (acc ++ (c ++ shown)) in
      let same : point o 14 (values.text (acc ++ (c ++ (shown ++ []))) ∷ []) ≡ point o 14 (whole ∷ []) = λ j. point o 14 (values.text (acc ++ (c ++ append-nil shown j)) ∷ []) in
      does_then (does_to (λ _. same) (re_pure (flat (acc ∷ c ∷ shown ∷ [])) null (does_concat o 13 [] (acc ∷ c ∷ shown ∷ []) 3 (at 13) refl)))
      (λ _. does_then (re_pure (values.text (codes ", ")) null (does_const o 14 (whole ∷ []) (lay.constant (literals.Str (codes ", "))) (literals.Str (codes ", ")) (at 14) x.literals.comma))
      (λ _. does_then (does_again (values.num (pos (i + 1)) ∷ values.text c ∷ []) 1 15 (whole ∷ []) (values.text (codes ", ")) at_15 (omega (arith, x.scratch_is, x.three)) (omega (arith, x.scratch_is)) (omega arith))
      (λ _. known_to {w = λ shown. point (turn_open (i + 1) (calls.comma_before (i + 1))) 5 (values.text (acc ++ (c ++ shown)) ∷ [])} shown (λ j. point (turn_open (i + 1) (sym (next_comma i) j)) 5 (whole ∷ []))
      (does_jump (turn_open (i + 1) (codes ", ")) 16 5 (whole ∷ []) shown (at 16))))))

  abbrev Texts : ℕ → Type 0
  Texts k = (i : ℕ) (acc : List ℕ) (slots : List Value) (r : Run Value) → Fits prog f (turn_open i (calls.comma_before i)) slots r → r.store.turns ≤ k
      → Leads prog f 13 r.store.turns (lands prog f (point (turn_open i (calls.comma_before i)) 5 (values.text acc ∷ [])) slots r.store) (λ w. point (opens 0) 20 (w ∷ []))
      (loop k (calls.list_goes_on (world prog.p (entered prog f)) f.me) (calls.list_element (world prog.p (entered prog f)) f.me) (i, acc) r)

  -- the test, and what follows it
  from_tested : (rest : ℕ × List ℕ → M Value Value) (i : ℕ) (acc c : List ℕ) (slots : List Value) (r : Run Value) (fits : Fits prog f (turn_open i c) slots r) (items : List Value) → thing_at r.store.heap f.me ≡ Some (list items)
      → ((slots : List Value) → Fits prog f (turn_open (i + 1) c) slots r
      → Leads prog f 8 r.store.turns (lands prog f (point (turn_open (i + 1) c) 10 (values.text acc ∷ values.text c ∷ slice_index_or items i null ∷ [])) slots r.store) (λ w. point (opens 0) 20 (w ∷ [])) (rest (i, acc) r))
      → (b : Bool) → nat_lt i (length items) ≡ b
      → Leads prog f 13 r.store.turns (lands prog f (point (turn_open i c) 5 (values.text acc ∷ [])) slots r.store) (λ w. point (opens 0) 20 (w ∷ [])) (on_again rest (choose b (again (i, acc)) (leaves_ (values.text (acc ++ codes "]")))) r)
  from_tested rest i acc c slots r fits items there next false e =
      let x8 : Point = point (turn_open i c) 8 (values.text acc ∷ values.text c ∷ f.me ∷ values.num (pos i) ∷ []) in
      let x17 : Point = point (turn_open i c) 17 (values.text acc ∷ values.text c ∷ []) in
      let s5 : State = lands prog f (point (turn_open i c) 5 (values.text acc ∷ [])) slots r.store in
      let l : Reaches prog f 3 r.store.turns s5 x8 r = (head i acc c).does slots r fits in
      leads_from prog f 3 r.store.turns 13 r.store.turns (l.count + 1) s5 (lands prog f x17 l.slots r.store) (λ w. point (opens 0) 20 (w ∷ []))
      (comes_on prog l.comes (comes_one prog (lands prog f x8 l.slots r.store) (lands prog f x17 l.slots r.store) (element_step i acc c items l.slots r l.fits.size there false e)))
      (omega (arith, l.bound)) (omega arith) (pure (values.text (acc ++ codes "]")) r) ((tail_ i acc c).does l.slots r l.fits)
  from_tested rest i acc c slots r fits items there next true e =
      let item : Value = slice_index_or items i null in
      let number : Value = values.num (pos (i + 1)) in
      let x8 : Point = point (turn_open i c) 8 (values.text acc ∷ values.text c ∷ f.me ∷ values.num (pos i) ∷ []) in
      let x9 : Point = point (turn_open i c) 9 (values.text acc ∷ values.text c ∷ item ∷ number ∷ []) in
      let x10 : Point = point (turn_open (i + 1) c) 10 (values.text acc ∷ values.text c ∷ item ∷ []) in
      let s5 : State = lands prog f (point (turn_open i c) 5 (values.text acc ∷ [])) slots r.store in
      let l : Reaches prog f 3 r.store.turns s5 x8 r = (head i acc c).does slots r fits in
      let at_9 : slice_get f.unit.code 9 ≡ Some (SetLocal (f.scratch + 0)) = (at 9) ∙ ap (λ k. Some (SetLocal k)) (omega (arith, x.scratch_is)) in
      let y : Reaches prog f 1 r.store.turns (lands prog f x9 l.slots r.store) x10 r =
      (does_again {prog = prog} {f = f} (values.num (pos i) ∷ values.text c ∷ []) 0 9 (values.text acc ∷ values.text c ∷ item ∷ []) number at_9 (omega (arith, x.scratch_is, x.three)) (omega (arith, x.scratch_is)) (omega arith)).does l.slots r l.fits in
      leads_from prog f 8 r.store.turns 13 r.store.turns (l.count + 1 + y.count) s5 (lands prog f x10 y.slots r.store) (λ w. point (opens 0) 20 (w ∷ []))
      (comes_on prog (comes_on prog l.comes (comes_one prog (lands prog f x8 l.slots r.store) (lands prog f x9 l.slots r.store) (element_step i acc c items l.slots r l.fits.size there true e))) y.comes)
      (omega (arith, l.bound, y.bound)) (omega arith) (rest (i, acc) r) (next y.slots y.fits)

  -- With no turn left the next turn is the end.
  no_turn_left : (i : ℕ) (c : List ℕ) (ops slots : List Value) (r : Run Value) → r.store.turns ≡ 0 → Stops prog f 8 r.store.turns (lands prog f (point (turn_open (i + 1) c) 10 ops) slots r.store) out_of_turns r
  no_turn_left i c ops slots r e = record {
    count = 1;
    ends = ends_one prog (lands prog f (point (turn_open (i + 1) c) 10 ops) slots r.store) out_of_turns r.store (act_is prog f (point (turn_open (i + 1) c) 10 ops) slots r.store LoopTurn (at 10) ∙ rw e refl);
    bound = omega arith;
  }

  -- a turn
  turn_taken : (k i : ℕ) (acc : List ℕ) (slots : List Value) (r : Run Value) (items : List Value) → Texts k → r.store.turns ≤ suc k → thing_at r.store.heap f.me ≡ Some (list items)
      → Fits prog f (turn_open (i + 1) (calls.comma_before i)) slots r → (left_ : ℕ) → r.store.turns ≡ left_
      → Leads prog f 8 r.store.turns (lands prog f (point (turn_open (i + 1) (calls.comma_before i)) 10 (values.text acc ∷ values.text (calls.comma_before i) ∷ slice_index_or items i null ∷ [])) slots r.store) (λ w. point (opens 0) 20 (w ∷ []))
      (and_then (spend_from left_ r) (λ _. calls.list_element (world prog.p (entered prog f)) f.me (i, acc) >>= on_again (loop k (calls.list_goes_on (world prog.p (entered prog f)) f.me) (calls.list_element (world prog.p (entered prog f)) f.me))))
  turn_taken k i acc slots r items next le there fits zero e = no_turn_left i (calls.comma_before i) (values.text acc ∷ values.text (calls.comma_before i) ∷ slice_index_or items i null ∷ []) slots r e
  turn_taken k i acc slots r items next le there fits (suc left_) e =
      let c : List ℕ = calls.comma_before i in
      let item : Value = slice_index_or items i null in
      let r2 : Run Value = record r { store = record r.store { turns = left_ } } in
      let x10 : Point = point (turn_open (i + 1) c) 10 (values.text acc ∷ values.text c ∷ item ∷ []) in
      let x11 : Point = point (turn_open (i + 1) c) 11 (values.text acc ∷ values.text c ∷ item ∷ []) in
      let paid_turn : worth prog.pays r.store.turns ≡ prog.pays + worth prog.pays left_ = ap (worth prog.pays) e ∙ worth_suc prog.pays left_ in
      let enough : 20 < length f.unit.code = slice_get_within f.unit.code 20 Return (at 20) in
      leads_from prog f (6 + 13) left_ 8 r.store.turns 1 (lands prog f x10 slots r.store) (lands prog f x11 slots r2.store) (λ w. point (opens 0) 20 (w ∷ []))
      (comes_one prog (lands prog f x10 slots r.store) (lands prog f x11 slots r2.store) (act_is prog f x10 slots r.store LoopTurn (at 10) ∙ rw e refl))
      (omega (arith, paid_turn, f.paid, enough)) (omega (arith, e)) _
      (rw there (on_shown (calls.to_text (world prog.p (entered prog f)) site item r2)
      ((round i acc c item).does slots r2 (spent slots r left_ e fits))))
    where
      on_shown : (y : Result Value (List ℕ))
          → Leads prog f 6 left_ (lands prog f (point (turn_open (i + 1) (calls.comma_before i)) 11 (values.text acc ∷ values.text (calls.comma_before i) ∷ slice_index_or items i null ∷ [])) slots (record r.store { turns = left_ }))
          (λ shown. point (turn_open (i + 1) (calls.comma_before (i + 1))) 5 (values.text (acc ++ (calls.comma_before i ++ shown)) ∷ [])) y
          → Leads prog f (6 + 13) left_ (lands prog f (point (turn_open (i + 1) (calls.comma_before i)) 11 (values.text acc ∷ values.text (calls.comma_before i) ∷ slice_index_or items i null ∷ [])) slots (record r.store { turns = left_ }))
          (λ w. point (opens 0) 20 (w ∷ []))
          (and_then (and_then y (λ shown. pure (again (i + 1, acc ++ (calls.comma_before i ++ shown))))) (on_again (loop k (calls.list_goes_on (world prog.p (entered prog f)) f.me) (calls.list_element (world prog.p (entered prog f)) f.me))))
      on_shown (went shown q) l =
          leads_on 6 13 left_ (lands prog f (point (turn_open (i + 1) (calls.comma_before i)) 11 (values.text acc ∷ values.text (calls.comma_before i) ∷ slice_index_or items i null ∷ [])) slots (record r.store { turns = left_ }))
          (point (turn_open (i + 1) (calls.comma_before (i + 1))) 5 (values.text (acc ++ (calls.comma_before i ++ shown)) ∷ [])) q (λ w. point (opens 0) 20 (w ∷ [])) l _
          (next (i + 1) (acc ++ (calls.comma_before i ++ shown)) l.slots q l.fits (omega (arith, l.fewer, le, e)))
      on_shown (ended d q) l = stops_more prog f 6 (6 + 13) left_ (lands prog f (point (turn_open (i + 1) (calls.comma_before i)) 11 (values.text acc ∷ values.text (calls.comma_before i) ∷ slice_index_or items i null ∷ [])) slots (record r.store { turns = left_ })) d q (omega arith) l

  does_texts : (k : ℕ) → Texts k
  does_texts zero i acc slots r fits le =
      let there = items_of (turn_open i (calls.comma_before i)) slots r fits in
      rw there.1 (from_tested (λ t. stop out_of_turns) i acc (calls.comma_before i) slots r fits there.0 there.1
      (λ slots fits. no_turn_left i (calls.comma_before i) (values.text acc ∷ values.text (calls.comma_before i) ∷ slice_index_or there.0 i null ∷ []) slots r (omega (arith, le)))
      (nat_lt i (length there.0)) refl)
  does_texts (suc k) i acc slots r fits le =
      let there = items_of (turn_open i (calls.comma_before i)) slots r fits in
      rw there.1 (from_tested (λ t. spend >> (calls.list_element (world prog.p (entered prog f)) f.me t >>= on_again (loop k (calls.list_goes_on (world prog.p (entered prog f)) f.me) (calls.list_element (world prog.p (entered prog f)) f.me)))) i acc (calls.comma_before i) slots r fits there.0 there.1
      (λ slots fits. turn_taken k i acc slots r there.0 (does_texts k) le there.1 fits r.store.turns refl)
      (nat_lt i (length there.0)) refl)

  prologue : Does prog f 5 (point (opens 0) 0 []) (pure null) (λ _. point (turn_open 0 []) 5 (values.text (codes "[") ∷ []))
  prologue =
      let at_2 : slice_get f.unit.code 2 ≡ Some (SetLocal (f.scratch + 0)) = (at 2) ∙ ap (λ k. Some (SetLocal k)) (omega (arith, x.scratch_is)) in
      let at_4 : slice_get f.unit.code 4 ≡ Some (SetLocal (f.scratch + 1)) = (at 4) ∙ ap (λ k. Some (SetLocal k)) (omega (arith, x.scratch_is)) in
      let o : Open = record { vars = 0; kept = values.num (pos 0) ∷ [] } in
      does_then (re_pure (values.text (codes "[")) null (does_const (opens 0) 0 [] (lay.constant (literals.Str (codes "["))) (literals.Str (codes "[")) (at 0) x.literals.open_bracket))
      (λ _. does_then (re_pure (values.num (pos 0)) null (does_const (opens 0) 1 (values.text (codes "[") ∷ []) (lay.constant (literals.Int (pos 0))) (literals.Int (pos 0)) (at 1) x.literals.zero))
      (λ _. does_then (does_beside [] 2 (values.text (codes "[") ∷ []) (values.num (pos 0)) at_2 (omega (arith, x.scratch_is, x.three)))
      (λ _. does_then (re_pure (values.text []) null (does_const o 3 (values.text (codes "[") ∷ []) (lay.constant (literals.Str [])) (literals.Str []) (at 3) x.literals.no_text))
      (λ _. does_beside (values.num (pos 0) ∷ []) 4 (values.text (codes "[") ∷ []) (values.text []) at_4 (omega (arith, x.scratch_is, x.three))))))

  pub does_list_text : (slots : List Value) (r : Run Value) → Fits prog f (opens 0) slots r
      → Runs prog f r.store.turns (lands prog f (point (opens 0) 0 []) slots r.store) (calls.list_text (world prog.p (entered prog f)) f.me r)
  does_list_text slots r fits =
      let l : Reaches prog f 5 r.store.turns (lands prog f (point (opens 0) 0 []) slots r.store) (point (turn_open 0 []) 5 (values.text (codes "[") ∷ [])) r = prologue.does slots r fits in
      on_result (calls.list_text (world prog.p (entered prog f)) f.me r)
      (leads_on 5 13 r.store.turns (lands prog f (point (opens 0) 0 []) slots r.store) (point (turn_open 0 []) 5 (values.text (codes "[") ∷ [])) r (λ w. point (opens 0) 20 (w ∷ [])) l _ (does_texts r.store.turns 0 (codes "[") l.slots r l.fits (omega arith)))
    where
      on_result : (y : Result Value Value) → Leads prog f (5 + 13) r.store.turns (lands prog f (point (opens 0) 0 []) slots r.store) (λ w. point (opens 0) 20 (w ∷ [])) y
          → Runs prog f r.store.turns (lands prog f (point (opens 0) 0 []) slots r.store) y
      on_result (went w q) l = finishes_at r.store.turns (lands prog f (point (opens 0) 0 []) slots r.store) (λ j. j ≡ 0) w q (record {
        vars = 0;
        open_here = refl;
        place = 20;
        code = (at 20);
        slots = l.slots;
        count = l.count;
        fits = l.fits;
        comes = l.comes;
        bound = omega (arith, l.bound, slice_get_within f.unit.code 20 Return (at 20), f.paid);
        fewer = l.fewer;
      })
      on_result (ended e q) l = record { count = l.count; ends = l.ends; bound = omega (arith, l.bound, slice_get_within f.unit.code 20 Return (at 20), f.paid) }

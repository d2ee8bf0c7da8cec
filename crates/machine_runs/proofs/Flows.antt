-- Statements: where they end. They go on, or leave a loop, a turn of a loop, or the body.
use Rattle.std.proofs.Common.{◌≡◌, ℕ, suc, ◌+◌, ◌-◌, ◌<◌, ◌≤◌, List, [], ◌∷◌, length, drop, refl, sym, ap, ◌∙◌, subst, arith, length-drop, ⊎_elim}
use Rattle.std.specs.Prelude.{Bool, true, false, slice_get, slice_set, Some}
use Rattle.std.proofs.lemmas.Bool.{cases_lt}
use Rattle.dart_values.specs.Values.{Value}
use Rattle.dart_meaning.specs.Run.{Run, Ending, Result, went, ended, and_then, M, ◌>>=◌, ◌>>◌, pure, choose, change, declare, scoped, Flow, onward, broke, continued, returned, if_onward}
use Rattle.code_unit.specs.declared.instr.Instr.TheVariants.{SetLocal, Jump, Return}
use Rattle.code_pool.specs.Machine.{State}
use Rattle.machine_runs.proofs.Lists.{get_set_same, get_set_other, set_length, get_drop}
use Rattle.machine_runs.proofs.Loaded.{Loaded}
use Rattle.machine_runs.proofs.Runs.{worth, Comes, comes_none, comes_on, comes_to_end, comes_one}
use Rattle.machine_runs.proofs.Points.{opens, Point, point, none_kept, Activation, lands, Fits, Reaches, Stops, Leads, Does, act_is, does_move, stops_more}
use Rattle.machine_runs.proofs.Slots.{set_is}

-- the run behind a block that began with so many variables
pub dropped : (before : ℕ) → Run Value → Run Value
dropped before r = record r { vars = drop (length r.vars - before) r.vars }

-- what is come to from a state that was come to
module _ (prog : Loaded) (f : Activation prog) where
  pub reaches_from : (a k size before c : ℕ) (s s' : State) (x : Point) (r : Run Value) → Comes prog c s s' → c + a + worth prog.pays k ≤ size + worth prog.pays before → k ≤ before
      → Reaches prog f a k s' x r → Reaches prog f size before s x r
  reaches_from a k size before c s s' x r first_part paid le l = record {
    slots = l.slots;
    count = c + l.count;
    fits = l.fits;
    comes = comes_on prog first_part l.comes;
    bound = omega (arith, l.bound, paid);
    fewer = omega (arith, l.fewer, le);
  }

  pub stops_from : (a k size before c : ℕ) (s s' : State) (e : Ending) (r : Run Value) → Comes prog c s s' → c + a + worth prog.pays k ≤ size + worth prog.pays before → Stops prog f a k s' e r → Stops prog f size before s e r
  stops_from a k size before c s s' e r first_part paid l = record { count = c + l.count; ends = comes_to_end prog first_part l.ends; bound = omega (arith, l.bound, paid) }

  pub leads_from : {A : Type 0} (a k size before c : ℕ) (s s' : State) (t : A → Point) → Comes prog c s s' → c + a + worth prog.pays k ≤ size + worth prog.pays before → k ≤ before
      → (y : Result Value A) → Leads prog f a k s' t y → Leads prog f size before s t y
  leads_from a k size before c s s' t first_part paid le (went v r) l = reaches_from a k size before c s s' (t v) r first_part paid le l
  leads_from a k size before c s s' t first_part paid le (ended e r) l = stops_from a k size before c s s' e r first_part paid l

-- `leaves` is what the body answers where `return` has a value.
module _ (prog : Loaded) (f : Activation prog) (leaves : Value → Value) where
  -- At `return`: the value is on top, and one more instruction is paid for.
  pub record AtReturn (size before : ℕ) (s : State) (V : ℕ → Type 0) (v : Value) (r : Run Value) : Type 0 where
    pub vars : ℕ
    pub open_here : V vars
    pub place : ℕ
    pub code : slice_get f.unit.code place ≡ Some Return
    pub slots : List Value
    pub count : ℕ
    pub fits : Fits prog f (opens vars) slots r
    pub comes : Comes prog count s (lands prog f (point (opens vars) place (v ∷ [])) slots r.store)
    pub bound : count + 1 + worth prog.pays r.store.turns ≤ size + worth prog.pays before
    pub fewer : r.store.turns ≤ before

  pub record AtJump (size before : ℕ) (s : State) (V : ℕ → Type 0) (place : ℕ) (r : Run Value) : Type 0 where
    pub vars : ℕ
    pub open_here : V vars
    pub reaches : Reaches prog f size before s (point (opens vars) place []) r

  -- Where a statement ends: behind it, or where `break`, `continue` or `return` lead. `V` tells how many variables may be open there.
  abbrev pub FlowLeads : ℕ → ℕ → State → (ℕ → Type 0) → ℕ → ℕ → ℕ → ℕ → Result Value Flow → Type 0
  FlowLeads size before s V out end brk cont (went onward r) = Reaches prog f size before s (point (opens out) end []) r
  FlowLeads size before s V out end brk cont (went broke r) = AtJump size before s V brk r
  FlowLeads size before s V out end brk cont (went continued r) = AtJump size before s V cont r
  FlowLeads size before s V out end brk cont (went (returned v) r) = AtReturn size before s V (leaves v) r
  FlowLeads size before s V out end brk cont (ended e r) = Stops prog f size before s e r

  pub record Flows (size : ℕ) (V : ℕ → Type 0) (m out t end brk cont : ℕ) (k : M Value Flow) : Type 0 where
    pub flows : (slots : List Value) (r : Run Value) → Fits prog f (opens m) slots r → FlowLeads size r.store.turns (lands prog f (point (opens m) t []) slots r.store) V out end brk cont (k r)

  -- a run that first comes to a state, and goes on from there
  pub flow_from : (a k size before c : ℕ) (s s' : State) (V W : ℕ → Type 0) (out end brk cont : ℕ) → Comes prog c s s' → c + a + worth prog.pays k ≤ size + worth prog.pays before → k ≤ before
      → ((j : ℕ) → V j → W j) → (y : Result Value Flow) → FlowLeads a k s' V out end brk cont y → FlowLeads size before s W out end brk cont y
  flow_from a k size before c s s' V W out end brk cont first_part paid le w (went onward r) l = reaches_from prog f a k size before c s s' _ r first_part paid le l
  flow_from a k size before c s s' V W out end brk cont first_part paid le w (went broke r) l = record { vars = l.vars; open_here = w l.vars l.open_here; reaches = reaches_from prog f a k size before c s s' _ r first_part paid le l.reaches }
  flow_from a k size before c s s' V W out end brk cont first_part paid le w (went continued r) l = record { vars = l.vars; open_here = w l.vars l.open_here; reaches = reaches_from prog f a k size before c s s' _ r first_part paid le l.reaches }
  flow_from a k size before c s s' V W out end brk cont first_part paid le w (went (returned v) r) l = record {
    vars = l.vars;
    open_here = w l.vars l.open_here;
    place = l.place;
    code = l.code;
    slots = l.slots;
    count = c + l.count;
    fits = l.fits;
    comes = comes_on prog first_part l.comes;
    bound = omega (arith, l.bound, paid);
    fewer = omega (arith, l.fewer, le);
  }
  flow_from a k size before c s s' V W out end brk cont first_part paid le w (ended e r) l = stops_from prog f a k size before c s s' e r first_part paid l

module _ {prog : Loaded} {f : Activation prog} where
  -- a new variable
  pub does_declare : (m t : ℕ) (v : Value) → slice_get f.unit.code t ≡ Some (SetLocal (f.first + m)) → f.first + m < f.unit.locals
      → Does prog f 1 (point (opens m) t (v ∷ [])) (declare v) (λ _. point (opens (suc m)) (t + 1) [])
  does_declare m t v at room =
      does_move (λ r. tt) (λ r. record r { vars = v ∷ r.vars })
      (λ slots r h. (slice_set slots (f.first + m) v, fits slots r h, set_is prog f (opens m) t [] (f.first + m) v slots r.store h.size at (omega (arith, h.size, room)), refl))
    where
      vars : (slots : List Value) (r : Run Value) → Fits prog f (opens m) slots r → (j : ℕ) → j < suc m → slice_get (slice_set slots (f.first + m) v) (f.first + j) ≡ slice_get (v ∷ r.vars) (suc m - suc j)
      vars slots r h j l = ⊎_elim
          (λ lt.
          let e : suc m - suc j ≡ suc (m - suc j) = omega (arith, lt) in
          get_set_other slots (f.first + m) (f.first + j) v (λ e. absurd (omega (arith, e, lt))) ∙ h.vars j lt ∙ sym (ap (slice_get (v ∷ r.vars)) e))
          (λ ge.
          let e : suc m - suc j ≡ 0 = omega (arith, ge) in
          let i : f.first + j ≡ f.first + m = omega (arith, ge, l) in
          ap (slice_get (slice_set slots (f.first + m) v)) i ∙ get_set_same slots (f.first + m) v (omega (arith, h.size, room)) ∙ sym (ap (slice_get (v ∷ r.vars)) e))
          (cases_lt j m)

      fits : (slots : List Value) (r : Run Value) → Fits prog f (opens m) slots r → Fits prog f (opens (suc m)) (slice_set slots (f.first + m) v) (record r { vars = v ∷ r.vars })
      fits slots r h = record {
        size = set_length slots (f.first + m) v ∙ h.size;
        count = ap suc h.count;
        vars = vars slots r h;
        kept = λ i w e. none_kept i w e;
        this = λ is. get_set_other slots (f.first + m) 0 v (λ e. absurd (omega (arith, e, f.this_first is))) ∙ h.this is;
        self = h.self;
        follows = h.follows;
      }

  -- a block drops the variables that it declared
  pub fits_dropped : (m j : ℕ) (slots : List Value) (r : Run Value) → m ≤ j → Fits prog f (opens j) slots r → Fits prog f (opens m) slots (dropped m r)
  unfolding dropped
  fits_dropped m j slots r le h = record {
    size = h.size;
    count = length-drop (length r.vars - m) r.vars ∙ omega (arith, h.count, le);
    vars = λ k l.
        let e : j - suc k ≡ (length r.vars - m) + (m - suc k) = omega (arith, h.count, le, l) in
        h.vars k (omega (arith, l, le)) ∙ ap (slice_get r.vars) e ∙ sym (get_drop (length r.vars - m) (m - suc k) r.vars);
    kept = λ i v e. none_kept i v e;
    this = h.this;
    self = h.self;
    follows = h.follows;
  }

  pub reaches_dropped : (size before : ℕ) (s : State) (m j t : ℕ) (r : Run Value) → m ≤ j → Reaches prog f size before s (point (opens j) t []) r → Reaches prog f size before s (point (opens m) t []) (dropped m r)
  unfolding dropped
  reaches_dropped size before s m j t r le l = record { slots = l.slots; count = l.count; fits = fits_dropped m j l.slots r le l.fits; comes = l.comes; bound = l.bound; fewer = l.fewer }

  pub jumped : (m t u : ℕ) (slots : List Value) (r : Run Value) → Fits prog f (opens m) slots r → slice_get f.unit.code t ≡ Some (Jump u) → Reaches prog f 1 r.store.turns (lands prog f (point (opens m) t []) slots r.store) (point (opens m) u []) r
  jumped m t u slots r fits at = record {
    slots = slots;
    count = 1;
    fits = fits;
    comes = comes_one prog (lands prog f (point (opens m) t []) slots r.store) (lands prog f (point (opens m) u []) slots r.store) (act_is prog f (point (opens m) t []) slots r.store (Jump u) at);
    bound = omega arith;
    fewer = omega arith;
  }

module _ {prog : Loaded} {f : Activation prog} {leaves : Value → Value} where
  -- what follows an evaluation
  pub flow_bind : {A : Type 0} {a b : ℕ} {V : ℕ → Type 0} {m out t end brk cont : ℕ} {u : A → ℕ × ℕ} {k : M Value A} {g : A → M Value Flow}
      → Does prog f a (point (opens m) t []) k (λ v. point (opens (u v).0) (u v).1 []) → ((v : A) → Flows prog f leaves b V (u v).0 out (u v).1 end brk cont (g v)) → Flows prog f leaves (a + b) V m out t end brk cont (k >>= g)
  flow_bind {A = A} {a = a} {b = b} {V = V} {m = m} {out = out} {t = t} {end = end} {brk = brk} {cont = cont} {u = u} {k = k} {g = g} d h = record { flows = λ slots r fits. on_result r (lands prog f (point (opens m) t []) slots r.store) (k r) (d.does slots r fits) }
    where
      on_result : (r : Run Value) (s : State) (y : Result Value A) → Leads prog f a r.store.turns s (λ v. point (opens (u v).0) (u v).1 []) y → FlowLeads prog f leaves (a + b) r.store.turns s V out end brk cont (and_then y g)
      on_result r s (went v q) l =
          flow_from prog f leaves b q.store.turns (a + b) r.store.turns l.count s (lands prog f (point (opens (u v).0) (u v).1 []) l.slots q.store) V V out end brk cont l.comes (omega (arith, l.bound)) l.fewer (λ j w. w) (g v q) ((h v).flows l.slots q l.fits)
      on_result r s (ended e q) l = stops_more prog f a (a + b) r.store.turns s e q (omega arith) l

  -- an evaluation, and then on
  pub flow_onward : {A : Type 0} {a : ℕ} {V : ℕ → Type 0} {m out t end brk cont : ℕ} {k : M Value A} → Does prog f a (point (opens m) t []) k (λ v. point (opens out) end []) → Flows prog f leaves a V m out t end brk cont (k >> pure onward)
  flow_onward {A = A} {a = a} {V = V} {m = m} {out = out} {t = t} {end = end} {brk = brk} {cont = cont} {k = k} d = record { flows = λ slots r fits. on_result r (lands prog f (point (opens m) t []) slots r.store) (k r) (d.does slots r fits) }
    where
      on_result : (r : Run Value) (s : State) (y : Result Value A) → Leads prog f a r.store.turns s (λ v. point (opens out) end []) y → FlowLeads prog f leaves a r.store.turns s V out end brk cont (and_then y (λ _. pure onward))
      on_result r s (went v q) l = l
      on_result r s (ended e q) l = l

  -- one statement, and the next
  pub flow_next : {a b m one_out out t mid end brk cont : ℕ} {k l : M Value Flow} → m ≤ one_out → Flows prog f leaves a (λ j. m ≤ j) m one_out t mid brk cont k → Flows prog f leaves b (λ j. one_out ≤ j) one_out out mid end brk cont l
      → Flows prog f leaves (a + b) (λ j. m ≤ j) m out t end brk cont (k >>= (λ x. if_onward x l))
  flow_next {a = a} {b = b} {m = m} {one_out = one_out} {out = out} {t = t} {mid = mid} {end = end} {brk = brk} {cont = cont} {k = k} {l = l} le d h =
      record { flows = λ slots r fits. on_result r (lands prog f (point (opens m) t []) slots r.store) (k r) (d.flows slots r fits) }
    where
      on_result : (r : Run Value) (s : State) (y : Result Value Flow) → FlowLeads prog f leaves a r.store.turns s (λ j. m ≤ j) one_out mid brk cont y → FlowLeads prog f leaves (a + b) r.store.turns s (λ j. m ≤ j) out end brk cont (and_then y (λ x. if_onward x l))
      on_result r s (went onward q) y =
          flow_from prog f leaves b q.store.turns (a + b) r.store.turns y.count s (lands prog f (point (opens one_out) mid []) y.slots q.store) (λ j. one_out ≤ j) (λ j. m ≤ j) out end brk cont y.comes (omega (arith, y.bound)) y.fewer (λ j w. omega (arith, w, le)) (l q) (h.flows y.slots q y.fits)
      on_result r s (went broke q) y = flow_from prog f leaves a r.store.turns (a + b) r.store.turns 0 s s (λ j. m ≤ j) (λ j. m ≤ j) out end brk cont (comes_none prog s) (omega arith) (omega arith) (λ j w. w) (went broke q) y
      on_result r s (went continued q) y = flow_from prog f leaves a r.store.turns (a + b) r.store.turns 0 s s (λ j. m ≤ j) (λ j. m ≤ j) out end brk cont (comes_none prog s) (omega arith) (omega arith) (λ j w. w) (went continued q) y
      on_result r s (went (returned v) q) y = flow_from prog f leaves a r.store.turns (a + b) r.store.turns 0 s s (λ j. m ≤ j) (λ j. m ≤ j) out end brk cont (comes_none prog s) (omega arith) (omega arith) (λ j w. w) (went (returned v) q) y
      on_result r s (ended e q) y = stops_more prog f a (a + b) r.store.turns s e q (omega arith) y

  pub flow_more : {a b : ℕ} {V : ℕ → Type 0} {m out t end brk cont end' : ℕ} {k : M Value Flow} → a ≤ b → end ≡ end' → Flows prog f leaves a V m out t end brk cont k → Flows prog f leaves b V m out t end' brk cont k
  flow_more {a = a} {b = b} {V = V} {m = m} {out = out} {t = t} {end = end} {brk = brk} {cont = cont} {k = k} le e d =
      subst (λ x. Flows prog f leaves b V m out t x brk cont k) e
      (record {
        flows = λ slots r fits. let s : State = lands prog f (point (opens m) t []) slots r.store in
            flow_from prog f leaves a r.store.turns b r.store.turns 0 s s V V out end brk cont (comes_none prog s) (omega (arith, le)) (omega arith) (λ j w. w) (k r) (d.flows slots r fits);
      })

  pub flow_scoped : {a m out t end brk cont : ℕ} {k : M Value Flow} → m ≤ out → Flows prog f leaves a (λ j. m ≤ j) m out t end brk cont k → Flows prog f leaves a (λ j. j ≡ m) m m t end brk cont (scoped k)
  unfolding dropped
  flow_scoped {a = a} {m = m} {out = out} {t = t} {end = end} {brk = brk} {cont = cont} {k = k} le d =
      record { flows = λ slots r fits. on_result r (length r.vars) (lands prog f (point (opens m) t []) slots r.store) fits.count (k r) (d.flows slots r fits) }
    where
      on_result : (r : Run Value) (before : ℕ) (s : State) → before ≡ m → (y : Result Value Flow) → FlowLeads prog f leaves a r.store.turns s (λ j. m ≤ j) out end brk cont y
          → FlowLeads prog f leaves a r.store.turns s (λ j. j ≡ m) m end brk cont (and_then y (λ x. change (λ q. record q { vars = drop (length q.vars - before) q.vars }) >> pure x))
      on_result r before s e (went onward q) l = subst (λ b. Reaches prog f a r.store.turns s (point (opens m) end []) (dropped b q)) (sym e) (reaches_dropped a r.store.turns s m out end q le l)
      on_result r before s e (went broke q) l = record { vars = m; open_here = refl; reaches = subst (λ b. Reaches prog f a r.store.turns s (point (opens m) brk []) (dropped b q)) (sym e) (reaches_dropped a r.store.turns s m l.vars brk q l.open_here l.reaches) }
      on_result r before s e (went continued q) l = record { vars = m; open_here = refl; reaches = subst (λ b. Reaches prog f a r.store.turns s (point (opens m) cont []) (dropped b q)) (sym e) (reaches_dropped a r.store.turns s m l.vars cont q l.open_here l.reaches) }
      on_result r before s e (went (returned v) q) l = record {
        vars = m;
        open_here = refl;
        place = l.place;
        code = l.code;
        slots = l.slots;
        count = l.count;
        fits = subst (λ b. Fits prog f (opens m) l.slots (dropped b q)) (sym e) (fits_dropped m l.vars l.slots q l.open_here l.fits);
        comes = l.comes;
        bound = l.bound;
        fewer = l.fewer;
      }
      on_result r before s e (ended d q) l = l

  -- a block among statements
  pub flow_wider : {a m out t end brk cont : ℕ} {k : M Value Flow} → Flows prog f leaves a (λ j. j ≡ m) m out t end brk cont k → Flows prog f leaves a (λ j. m ≤ j) m out t end brk cont k
  flow_wider {a = a} {m = m} {out = out} {t = t} {end = end} {brk = brk} {cont = cont} {k = k} d = record {
    flows = λ slots r fits. let s : State = lands prog f (point (opens m) t []) slots r.store in
        flow_from prog f leaves a r.store.turns a r.store.turns 0 s s (λ j. j ≡ m) (λ j. m ≤ j) out end brk cont (comes_none prog s) (omega arith) (omega arith) (λ j w. omega (arith, w)) (k r) (d.flows slots r fits);
  }

  pub flow_empty : {V : ℕ → Type 0} {m t brk cont : ℕ} → Flows prog f leaves 0 V m m t t brk cont (pure onward)
  flow_empty {V = V} {m = m} {t = t} = record { flows = λ slots r fits. record { slots = slots; count = 0; fits = fits; comes = comes_none prog (lands prog f (point (opens m) t []) slots r.store); bound = omega arith; fewer = omega arith } }

  pub flow_choose : (go : Bool) {a b : ℕ} {V : ℕ → Type 0} {m out t u end brk cont : ℕ} {k l : M Value Flow} → Flows prog f leaves a V m out t end brk cont k → Flows prog f leaves b V m out u end brk cont l
      → Flows prog f leaves (a + b) V m out (choose go t u) end brk cont (choose go k l)
  flow_choose true d e = flow_more (omega arith) refl d
  flow_choose false d e = flow_more (omega arith) refl e

  -- a jump behind a statement
  pub flow_jump : {a : ℕ} {V : ℕ → Type 0} {m out t mid end brk cont : ℕ} {k : M Value Flow} → slice_get f.unit.code mid ≡ Some (Jump end) → Flows prog f leaves a V m out t mid brk cont k → Flows prog f leaves (a + 1) V m out t end brk cont k
  flow_jump {a = a} {V = V} {m = m} {out = out} {t = t} {mid = mid} {end = end} {brk = brk} {cont = cont} {k = k} at d =
      record { flows = λ slots r fits. on_result r (lands prog f (point (opens m) t []) slots r.store) (k r) (d.flows slots r fits) }
    where
      on_result : (r : Run Value) (s : State) (y : Result Value Flow) → FlowLeads prog f leaves a r.store.turns s V out mid brk cont y → FlowLeads prog f leaves (a + 1) r.store.turns s V out end brk cont y
      on_result r s (went onward q) l = record {
        slots = l.slots;
        count = l.count + 1;
        fits = l.fits;
        comes = comes_on prog l.comes (comes_one prog (lands prog f (point (opens out) mid []) l.slots q.store) (lands prog f (point (opens out) end []) l.slots q.store) (act_is prog f (point (opens out) mid []) l.slots q.store (Jump end) at));
        bound = omega (arith, l.bound);
        fewer = l.fewer;
      }
      on_result r s (went broke q) l = flow_from prog f leaves a r.store.turns (a + 1) r.store.turns 0 s s V V out mid brk cont (comes_none prog s) (omega arith) (omega arith) (λ j w. w) (went broke q) l
      on_result r s (went continued q) l = flow_from prog f leaves a r.store.turns (a + 1) r.store.turns 0 s s V V out mid brk cont (comes_none prog s) (omega arith) (omega arith) (λ j w. w) (went continued q) l
      on_result r s (went (returned v) q) l = flow_from prog f leaves a r.store.turns (a + 1) r.store.turns 0 s s V V out mid brk cont (comes_none prog s) (omega arith) (omega arith) (λ j w. w) (went (returned v) q) l
      on_result r s (ended e q) l = stops_more prog f a (a + 1) r.store.turns s e q (omega arith) l

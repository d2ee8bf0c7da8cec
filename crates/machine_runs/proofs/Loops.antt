-- Loops: a turn pays for one round of the code.
use Rattle.std.proofs.Common.{◌≡◌, ℕ, zero, suc, ◌+◌, ◌≤◌, List, [], refl, ap, ◌∙◌, subst, arith}
use Rattle.std.specs.Prelude.{Bool, true, false, slice_get, Some}
use Rattle.dart_values.specs.Values.{Value}
use Rattle.dart_meaning.specs.Run.{Run, Store, Result, went, ended, and_then, M, ◌>>=◌, ◌>>◌, pure, stop, out_of_turns, choose, spend, spend_from, Next, again, on_again, loop, going, after_body, Flow, onward, broke, continued, returned}
use Rattle.meaning_laws.proofs.Follows.{follows}
use Rattle.code_unit.specs.declared.instr.Instr.TheVariants.{Jump, LoopTurn}
use Rattle.code_pool.specs.Machine.{State, to, over}
use Rattle.machine_runs.proofs.Loaded.{Loaded}
use Rattle.machine_runs.proofs.Runs.{worth, worth_suc, goes, comes_none, comes_on, comes_to_end, comes_one, ends_one}
use Rattle.machine_runs.proofs.Points.{opens, point, Activation, lands, Fits, Reaches, Stops, Leads, Does, act_is, stops_more}
use Rattle.machine_runs.proofs.Flows.{FlowLeads, Flows, reaches_from, flow_from}

module _ (prog : Loaded) (f : Activation prog) (leaves : Value → Value) where
  -- a turn that is spent leaves the frame
  spent_fits : (m : ℕ) (slots : List Value) (r : Run Value) (k : ℕ) → r.store.turns ≡ suc k → Fits prog f (opens m) slots r → Fits prog f (opens m) slots (record r { store = record r.store { turns = k } })
  spent_fits m slots r k e h = record {
    size = h.size;
    count = h.count;
    vars = h.vars;
    kept = h.kept;
    this = h.this;
    self = h.self;
    follows = (follows prog.p).on f.begun r.store (record r.store { turns = k }) h.follows ((follows prog.p).turns r.store k e);
  }

  -- One turn of a loop: its test, its turn, its body, its last part and the jump back. A turn pays for all of them.
  module _ (m top in_ last_at jump_at end brk cont : ℕ) (a b c : ℕ) (test : M Value Bool) (body : M Value Flow) (last : M Value (Unit {0}))
      (tests : Does prog f a (point (opens m) top []) test (λ go. choose go (point (opens m) in_ []) (point (opens m) end [])))
      (turn_at : slice_get f.unit.code in_ ≡ Some LoopTurn)
      (runs : Flows prog f leaves b (λ j. j ≡ m) m m (in_ + 1) last_at end last_at body)
      (lasts : Does prog f c (point (opens m) last_at []) last (λ _. point (opens m) jump_at []))
      (back_at : slice_get f.unit.code jump_at ≡ Some (Jump top))
      (paid : a + 1 + b + c + 1 ≤ prog.pays) where
    abbrev sz : ℕ
    sz = a + 1 + b + c + 1

    turn_goes : (slots : List Value) (r : Run Value) (k : ℕ) → r.store.turns ≡ suc k
        → goes prog (lands prog f (point (opens m) in_ []) slots r.store) ≡ to (lands prog f (point (opens m) (in_ + 1) []) slots (record r.store { turns = k }))
    turn_goes slots r k e = act_is prog f (point (opens m) in_ []) slots r.store LoopTurn turn_at ∙ rw e refl

    no_turn : (slots : List Value) (r : Run Value) → r.store.turns ≡ 0 → goes prog (lands prog f (point (opens m) in_ []) slots r.store) ≡ over out_of_turns r.store
    no_turn slots r e = act_is prog f (point (opens m) in_ []) slots r.store LoopTurn turn_at ∙ rw e refl

    -- With no turn left the next turn is the end.
    runs_out : (before : ℕ) (s : State) (r : Run Value) → Reaches prog f a before s (point (opens m) in_ []) r → r.store.turns ≡ 0 → Stops prog f sz before s out_of_turns r
    runs_out before s r l e = record {
      count = l.count + 1;
      ends = comes_to_end prog l.comes (ends_one prog (lands prog f (point (opens m) in_ []) l.slots r.store) out_of_turns r.store (no_turn l.slots r e));
      bound = omega (arith, l.bound);
    }

    jump_back : (slots : List Value) (s : Store) → goes prog (lands prog f (point (opens m) jump_at []) slots s) ≡ to (lands prog f (point (opens m) top []) slots s)
    jump_back slots s = act_is prog f (point (opens m) jump_at []) slots s (Jump top) back_at

    abbrev tests_of : M Value (Next (Unit {0}) Flow)
    tests_of = test >>= (λ go. pure (going go))

    abbrev turns_of : M Value (Next (Unit {0}) Flow)
    turns_of = body >>= (λ x. after_body x (last >> pure (again tt)))

    abbrev Loops : ℕ → Type 0
    Loops n = (slots : List Value) (r : Run Value) → Fits prog f (opens m) slots r → r.store.turns ≤ n
        → FlowLeads prog f leaves sz r.store.turns (lands prog f (point (opens m) top []) slots r.store) (λ j. j ≡ m) m end brk cont (loop n (λ _. tests_of) (λ _. turns_of) tt r)

    -- from the last part on
    from_last : (n before : ℕ) (s : State) → Loops n → (slots : List Value) (r : Run Value) → Fits prog f (opens m) slots r → r.store.turns ≤ n
        → FlowLeads prog f leaves (c + (1 + sz)) r.store.turns (lands prog f (point (opens m) last_at []) slots r.store) (λ j. j ≡ m) m end brk cont
        (and_then (and_then (last r) (λ _. pure (again tt))) (on_again (loop n (λ _. tests_of) (λ _. turns_of))))
    from_last n before s next slots r fits le = on_result (last r) (lasts.does slots r fits)
      where
        s0 : State
        s0 = lands prog f (point (opens m) last_at []) slots r.store

        on_result : (y : Result Value (Unit {0})) → Leads prog f c r.store.turns (lands prog f (point (opens m) last_at []) slots r.store) (λ _. point (opens m) jump_at []) y
            → FlowLeads prog f leaves (c + (1 + sz)) r.store.turns (lands prog f (point (opens m) last_at []) slots r.store) (λ j. j ≡ m) m end brk cont (and_then (and_then y (λ _. pure (again tt))) (on_again (loop n (λ _. tests_of) (λ _. turns_of))))
        on_result (went tt q) l =
            flow_from prog f leaves (1 + sz) q.store.turns (c + (1 + sz)) r.store.turns l.count (lands prog f (point (opens m) last_at []) slots r.store) (lands prog f (point (opens m) jump_at []) l.slots q.store) (λ j. j ≡ m) (λ j. j ≡ m) m end brk cont l.comes (omega (arith, l.bound)) l.fewer (λ j w. w) _
            (flow_from prog f leaves sz q.store.turns (1 + sz) q.store.turns 1 (lands prog f (point (opens m) jump_at []) l.slots q.store) (lands prog f (point (opens m) top []) l.slots q.store) (λ j. j ≡ m) (λ j. j ≡ m) m end brk cont
            (comes_one prog (lands prog f (point (opens m) jump_at []) l.slots q.store) (lands prog f (point (opens m) top []) l.slots q.store) (jump_back l.slots q.store)) (omega arith) (omega arith) (λ j w. w) _
            (next l.slots q l.fits (omega (arith, l.fewer, le))))
        on_result (ended e q) l = stops_more prog f c (c + (1 + sz)) r.store.turns (lands prog f (point (opens m) last_at []) slots r.store) e q (omega arith) l

    -- from the body on
    from_body : (n : ℕ) → Loops n → (slots : List Value) (r : Run Value) → Fits prog f (opens m) slots r → r.store.turns ≤ n
        → FlowLeads prog f leaves (b + (c + (1 + sz))) r.store.turns (lands prog f (point (opens m) (in_ + 1) []) slots r.store) (λ j. j ≡ m) m end brk cont
        (and_then (turns_of r) (on_again (loop n (λ _. tests_of) (λ _. turns_of))))
    from_body n next slots r fits le = on_result (body r) (runs.flows slots r fits)
      where
        on_result : (y : Result Value Flow) → FlowLeads prog f leaves b r.store.turns (lands prog f (point (opens m) (in_ + 1) []) slots r.store) (λ j. j ≡ m) m last_at end last_at y
            → FlowLeads prog f leaves (b + (c + (1 + sz))) r.store.turns (lands prog f (point (opens m) (in_ + 1) []) slots r.store) (λ j. j ≡ m) m end brk cont
            (and_then (and_then y (λ x. after_body x (last >> pure (again tt)))) (on_again (loop n (λ _. tests_of) (λ _. turns_of))))
        on_result (went onward q) l =
            flow_from prog f leaves (c + (1 + sz)) q.store.turns (b + (c + (1 + sz))) r.store.turns l.count (lands prog f (point (opens m) (in_ + 1) []) slots r.store) (lands prog f (point (opens m) last_at []) l.slots q.store) (λ j. j ≡ m) (λ j. j ≡ m) m end brk cont l.comes (omega (arith, l.bound)) l.fewer (λ j w. w) _
            (from_last n r.store.turns (lands prog f (point (opens m) last_at []) l.slots q.store) next l.slots q l.fits (omega (arith, l.fewer, le)))
        on_result (went continued q) l =
            let l' : Reaches prog f b r.store.turns (lands prog f (point (opens m) (in_ + 1) []) slots r.store) (point (opens m) last_at []) q = subst (λ j. Reaches prog f b r.store.turns (lands prog f (point (opens m) (in_ + 1) []) slots r.store) (point (opens j) last_at []) q) l.open_here l.reaches in
            flow_from prog f leaves (c + (1 + sz)) q.store.turns (b + (c + (1 + sz))) r.store.turns l'.count (lands prog f (point (opens m) (in_ + 1) []) slots r.store) (lands prog f (point (opens m) last_at []) l'.slots q.store) (λ j. j ≡ m) (λ j. j ≡ m) m end brk cont l'.comes (omega (arith, l'.bound)) l'.fewer (λ j w. w) _
            (from_last n r.store.turns (lands prog f (point (opens m) last_at []) l'.slots q.store) next l'.slots q l'.fits (omega (arith, l'.fewer, le)))
        on_result (went broke q) l = reaches_from prog f b r.store.turns (b + (c + (1 + sz))) r.store.turns 0 (lands prog f (point (opens m) (in_ + 1) []) slots r.store) (lands prog f (point (opens m) (in_ + 1) []) slots r.store) (point (opens m) end []) q
            (comes_none prog (lands prog f (point (opens m) (in_ + 1) []) slots r.store)) (omega arith) (omega arith)
            (subst (λ j. Reaches prog f b r.store.turns (lands prog f (point (opens m) (in_ + 1) []) slots r.store) (point (opens j) end []) q) l.open_here l.reaches)
        on_result (went (returned v) q) l =
            flow_from prog f leaves b r.store.turns (b + (c + (1 + sz))) r.store.turns 0 (lands prog f (point (opens m) (in_ + 1) []) slots r.store) (lands prog f (point (opens m) (in_ + 1) []) slots r.store) (λ j. j ≡ m) (λ j. j ≡ m) m end brk cont
            (comes_none prog (lands prog f (point (opens m) (in_ + 1) []) slots r.store)) (omega arith) (omega arith) (λ j w. w) (went (returned v) q) l
        on_result (ended e q) l = stops_more prog f b (b + (c + (1 + sz))) r.store.turns (lands prog f (point (opens m) (in_ + 1) []) slots r.store) e q (omega arith) l

    pub does_loop : (n : ℕ) → Loops n
    does_loop zero slots r fits le = on_result (test r) (tests.does slots r fits)
      where
        s : State
        s = lands prog f (point (opens m) top []) slots r.store

        on_result : (y : Result Value Bool) → Leads prog f a r.store.turns (lands prog f (point (opens m) top []) slots r.store) (λ go. choose go (point (opens m) in_ []) (point (opens m) end [])) y
            → FlowLeads prog f leaves (a + 1 + b + c + 1) r.store.turns (lands prog f (point (opens m) top []) slots r.store) (λ j. j ≡ m) m end brk cont (and_then (and_then y (λ go. pure (going go))) (on_again (λ _. stop out_of_turns)))
        on_result (went true q) l = runs_out r.store.turns (lands prog f (point (opens m) top []) slots r.store) q l (omega (arith, l.fewer, le))
        on_result (went false q) l = reaches_from prog f a r.store.turns (a + 1 + b + c + 1) r.store.turns 0 (lands prog f (point (opens m) top []) slots r.store) (lands prog f (point (opens m) top []) slots r.store) (point (opens m) end []) q
            (comes_none prog (lands prog f (point (opens m) top []) slots r.store)) (omega arith) (omega arith) l
        on_result (ended e q) l = stops_more prog f a (a + 1 + b + c + 1) r.store.turns (lands prog f (point (opens m) top []) slots r.store) e q (omega arith) l
    does_loop (suc n) slots r fits le = on_result (does_loop n) (test r) (tests.does slots r fits)
      where
        s : State
        s = lands prog f (point (opens m) top []) slots r.store

        -- the turn that is spent
        turned : Loops n → (q : Run Value) (l : Reaches prog f a r.store.turns (lands prog f (point (opens m) top []) slots r.store) (point (opens m) in_ []) q) (k : ℕ) → q.store.turns ≡ k
            → FlowLeads prog f leaves (a + 1 + b + c + 1) r.store.turns (lands prog f (point (opens m) top []) slots r.store) (λ j. j ≡ m) m end brk cont (and_then (spend_from k q) (λ _. turns_of >>= on_again (loop n (λ _. tests_of) (λ _. turns_of))))
        turned next q l zero e = runs_out r.store.turns (lands prog f (point (opens m) top []) slots r.store) q l e
        turned next q l (suc k) e =
            let r2 : Run Value = record q { store = record q.store { turns = k } } in
            let paid_turn : worth prog.pays q.store.turns ≡ prog.pays + worth prog.pays k = ap (worth prog.pays) e ∙ worth_suc prog.pays k in
            let s1 : State = lands prog f (point (opens m) in_ []) l.slots q.store in
            let s2 : State = lands prog f (point (opens m) (in_ + 1) []) l.slots r2.store in
            flow_from prog f leaves (b + (c + (1 + (a + 1 + b + c + 1)))) k (a + 1 + b + c + 1) r.store.turns (l.count + 1) (lands prog f (point (opens m) top []) slots r.store) s2 (λ j. j ≡ m) (λ j. j ≡ m) m end brk cont
            (comes_on prog l.comes (comes_one prog s1 s2 (turn_goes l.slots q k e)))
            (omega (arith, l.bound, paid_turn, paid)) (omega (arith, l.fewer, e)) (λ j w. w) _
            (from_body n next l.slots r2 (spent_fits m l.slots q k e l.fits) (omega (arith, l.fewer, e, le)))

        on_result : Loops n → (y : Result Value Bool) → Leads prog f a r.store.turns (lands prog f (point (opens m) top []) slots r.store) (λ go. choose go (point (opens m) in_ []) (point (opens m) end [])) y
            → FlowLeads prog f leaves (a + 1 + b + c + 1) r.store.turns (lands prog f (point (opens m) top []) slots r.store) (λ j. j ≡ m) m end brk cont
            (and_then (and_then y (λ go. pure (going go))) (on_again (λ t. spend >> (turns_of >>= on_again (loop n (λ _. tests_of) (λ _. turns_of))))))
        on_result next (went true q) l = turned next q l q.store.turns refl
        on_result next (went false q) l = reaches_from prog f a r.store.turns (a + 1 + b + c + 1) r.store.turns 0 (lands prog f (point (opens m) top []) slots r.store) (lands prog f (point (opens m) top []) slots r.store) (point (opens m) end []) q
            (comes_none prog (lands prog f (point (opens m) top []) slots r.store)) (omega arith) (omega arith) l
        on_result next (ended e q) l = stops_more prog f a (a + 1 + b + c + 1) r.store.turns (lands prog f (point (opens m) top []) slots r.store) e q (omega arith) l

  -- The same for `do`: the turn is spent first, and the test is behind the body.
  module _ (m top test_at jump_at end brk cont : ℕ) (a b : ℕ) (test : M Value Bool) (body : M Value Flow)
      (turn_at : slice_get f.unit.code top ≡ Some LoopTurn)
      (runs : Flows prog f leaves b (λ j. j ≡ m) m m (top + 1) test_at end test_at body)
      (tests : Does prog f a (point (opens m) test_at []) test (λ go. choose go (point (opens m) jump_at []) (point (opens m) end [])))
      (back_at : slice_get f.unit.code jump_at ≡ Some (Jump top))
      (paid : 1 + b + a + 1 ≤ prog.pays) where
    abbrev do_size : ℕ
    do_size = 1 + b + a + 1

    abbrev do_turn : M Value (Next (Unit {0}) Flow)
    do_turn = body >>= (λ x. after_body x (test >>= (λ go. pure (going go))))

    abbrev Dos : ℕ → Type 0
    Dos n = (slots : List Value) (r : Run Value) → Fits prog f (opens m) slots r → r.store.turns ≤ n
        → FlowLeads prog f leaves do_size r.store.turns (lands prog f (point (opens m) top []) slots r.store) (λ j. j ≡ m) m end brk cont (loop n (λ _. pure (again tt)) (λ _. do_turn) tt r)

    from_test : (n : ℕ) → Dos n → (slots : List Value) (r : Run Value) → Fits prog f (opens m) slots r → r.store.turns ≤ n
        → FlowLeads prog f leaves (a + (1 + do_size)) r.store.turns (lands prog f (point (opens m) test_at []) slots r.store) (λ j. j ≡ m) m end brk cont
        (and_then (and_then (test r) (λ go. pure (going go))) (on_again (loop n (λ _. pure (again tt)) (λ _. do_turn))))
    from_test n next slots r fits le = on_result (test r) (tests.does slots r fits)
      where
        on_result : (y : Result Value Bool) → Leads prog f a r.store.turns (lands prog f (point (opens m) test_at []) slots r.store) (λ go. choose go (point (opens m) jump_at []) (point (opens m) end [])) y
            → FlowLeads prog f leaves (a + (1 + do_size)) r.store.turns (lands prog f (point (opens m) test_at []) slots r.store) (λ j. j ≡ m) m end brk cont (and_then (and_then y (λ go. pure (going go))) (on_again (loop n (λ _. pure (again tt)) (λ _. do_turn))))
        on_result (went true q) l =
            flow_from prog f leaves (1 + do_size) q.store.turns (a + (1 + do_size)) r.store.turns l.count (lands prog f (point (opens m) test_at []) slots r.store) (lands prog f (point (opens m) jump_at []) l.slots q.store) (λ j. j ≡ m) (λ j. j ≡ m) m end brk cont l.comes (omega (arith, l.bound)) l.fewer (λ j w. w) _
            (flow_from prog f leaves do_size q.store.turns (1 + do_size) q.store.turns 1 (lands prog f (point (opens m) jump_at []) l.slots q.store) (lands prog f (point (opens m) top []) l.slots q.store) (λ j. j ≡ m) (λ j. j ≡ m) m end brk cont
            (comes_one prog (lands prog f (point (opens m) jump_at []) l.slots q.store) (lands prog f (point (opens m) top []) l.slots q.store) (act_is prog f (point (opens m) jump_at []) l.slots q.store (Jump top) back_at)) (omega arith) (omega arith) (λ j w. w) _
            (next l.slots q l.fits (omega (arith, l.fewer, le))))
        on_result (went false q) l = reaches_from prog f a r.store.turns (a + (1 + do_size)) r.store.turns 0 (lands prog f (point (opens m) test_at []) slots r.store) (lands prog f (point (opens m) test_at []) slots r.store) (point (opens m) end []) q
            (comes_none prog (lands prog f (point (opens m) test_at []) slots r.store)) (omega arith) (omega arith) l
        on_result (ended e q) l = stops_more prog f a (a + (1 + do_size)) r.store.turns (lands prog f (point (opens m) test_at []) slots r.store) e q (omega arith) l

    from_do_body : (n : ℕ) → Dos n → (slots : List Value) (r : Run Value) → Fits prog f (opens m) slots r → r.store.turns ≤ n
        → FlowLeads prog f leaves (b + (a + (1 + do_size))) r.store.turns (lands prog f (point (opens m) (top + 1) []) slots r.store) (λ j. j ≡ m) m end brk cont
        (and_then (do_turn r) (on_again (loop n (λ _. pure (again tt)) (λ _. do_turn))))
    from_do_body n next slots r fits le = on_result (body r) (runs.flows slots r fits)
      where
        on_result : (y : Result Value Flow) → FlowLeads prog f leaves b r.store.turns (lands prog f (point (opens m) (top + 1) []) slots r.store) (λ j. j ≡ m) m test_at end test_at y
            → FlowLeads prog f leaves (b + (a + (1 + do_size))) r.store.turns (lands prog f (point (opens m) (top + 1) []) slots r.store) (λ j. j ≡ m) m end brk cont
            (and_then (and_then y (λ x. after_body x (test >>= (λ go. pure (going go))))) (on_again (loop n (λ _. pure (again tt)) (λ _. do_turn))))
        on_result (went onward q) l =
            flow_from prog f leaves (a + (1 + do_size)) q.store.turns (b + (a + (1 + do_size))) r.store.turns l.count (lands prog f (point (opens m) (top + 1) []) slots r.store) (lands prog f (point (opens m) test_at []) l.slots q.store) (λ j. j ≡ m) (λ j. j ≡ m) m end brk cont l.comes (omega (arith, l.bound)) l.fewer (λ j w. w) _
            (from_test n next l.slots q l.fits (omega (arith, l.fewer, le)))
        on_result (went continued q) l =
            let l' : Reaches prog f b r.store.turns (lands prog f (point (opens m) (top + 1) []) slots r.store) (point (opens m) test_at []) q = subst (λ j. Reaches prog f b r.store.turns (lands prog f (point (opens m) (top + 1) []) slots r.store) (point (opens j) test_at []) q) l.open_here l.reaches in
            flow_from prog f leaves (a + (1 + do_size)) q.store.turns (b + (a + (1 + do_size))) r.store.turns l'.count (lands prog f (point (opens m) (top + 1) []) slots r.store) (lands prog f (point (opens m) test_at []) l'.slots q.store) (λ j. j ≡ m) (λ j. j ≡ m) m end brk cont l'.comes (omega (arith, l'.bound)) l'.fewer (λ j w. w) _
            (from_test n next l'.slots q l'.fits (omega (arith, l'.fewer, le)))
        on_result (went broke q) l = reaches_from prog f b r.store.turns (b + (a + (1 + do_size))) r.store.turns 0 (lands prog f (point (opens m) (top + 1) []) slots r.store) (lands prog f (point (opens m) (top + 1) []) slots r.store) (point (opens m) end []) q
            (comes_none prog (lands prog f (point (opens m) (top + 1) []) slots r.store)) (omega arith) (omega arith)
            (subst (λ j. Reaches prog f b r.store.turns (lands prog f (point (opens m) (top + 1) []) slots r.store) (point (opens j) end []) q) l.open_here l.reaches)
        on_result (went (returned v) q) l =
            flow_from prog f leaves b r.store.turns (b + (a + (1 + do_size))) r.store.turns 0 (lands prog f (point (opens m) (top + 1) []) slots r.store) (lands prog f (point (opens m) (top + 1) []) slots r.store) (λ j. j ≡ m) (λ j. j ≡ m) m end brk cont
            (comes_none prog (lands prog f (point (opens m) (top + 1) []) slots r.store)) (omega arith) (omega arith) (λ j w. w) (went (returned v) q) l
        on_result (ended e q) l = stops_more prog f b (b + (a + (1 + do_size))) r.store.turns (lands prog f (point (opens m) (top + 1) []) slots r.store) e q (omega arith) l

    turn_step : (slots : List Value) (r : Run Value) (k : ℕ) → r.store.turns ≡ suc k
        → goes prog (lands prog f (point (opens m) top []) slots r.store) ≡ to (lands prog f (point (opens m) (top + 1) []) slots (record r.store { turns = k }))
    turn_step slots r k e = act_is prog f (point (opens m) top []) slots r.store LoopTurn turn_at ∙ rw e refl

    runs_out_first : (slots : List Value) (r : Run Value) → r.store.turns ≡ 0 → Stops prog f do_size r.store.turns (lands prog f (point (opens m) top []) slots r.store) out_of_turns r
    runs_out_first slots r e = record {
      count = 1;
      ends = ends_one prog (lands prog f (point (opens m) top []) slots r.store) out_of_turns r.store (act_is prog f (point (opens m) top []) slots r.store LoopTurn turn_at ∙ rw e refl);
      bound = omega arith;
    }

    pub does_do : (n : ℕ) → Dos n
    does_do zero slots r fits le = runs_out_first slots r (omega (arith, le))
    does_do (suc n) slots r fits le = turned (does_do n) r.store.turns refl
      where
        turned : Dos n → (k : ℕ) → r.store.turns ≡ k → FlowLeads prog f leaves do_size r.store.turns (lands prog f (point (opens m) top []) slots r.store) (λ j. j ≡ m) m end brk cont (and_then (spend_from k r) (λ _. do_turn >>= on_again (loop n (λ _. pure (again tt)) (λ _. do_turn))))
        turned next zero e = runs_out_first slots r e
        turned next (suc k) e =
            let r2 : Run Value = record r { store = record r.store { turns = k } } in
            let paid_turn : worth prog.pays r.store.turns ≡ prog.pays + worth prog.pays k = ap (worth prog.pays) e ∙ worth_suc prog.pays k in
            flow_from prog f leaves (b + (a + (1 + do_size))) k do_size r.store.turns 1 (lands prog f (point (opens m) top []) slots r.store) (lands prog f (point (opens m) (top + 1) []) slots r2.store) (λ j. j ≡ m) (λ j. j ≡ m) m end brk cont
            (comes_one prog (lands prog f (point (opens m) top []) slots r.store) (lands prog f (point (opens m) (top + 1) []) slots r2.store) (turn_step slots r k e))
            (omega (arith, paid_turn, paid)) (omega (arith, e)) (λ j w. w) _
            (from_do_body n next slots r2 (spent_fits m slots r k e fits) (omega (arith, e, le)))

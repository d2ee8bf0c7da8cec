-- The code of a statement does it, and ends where it ends.
use Rattle.std.proofs.Common.{◌≡◌, ℕ, suc, ◌+◌, ◌<◌, ◌≤◌, List, [], ◌∷◌, ◌++◌, length, refl, sym, ap, subst, arith}
use Rattle.std.specs.Prelude.{Bool, true, false, slice_get, Some}
use Rattle.std.proofs.lemmas.Option.{slice_get_within}
use Rattle.program.specs.declared.literal.Literal.TheVariants as literals
use Rattle.program.specs.Bodies as c
use Rattle.program.specs.Bodies.{Exp, Exps, First, Sta, Stas}
use Rattle.program.specs.Sound.{Sound, AllSound, SoundFirst, SoundSta, SoundStas, Returns, after, after_first}
use Rattle.dart_values.specs.Values.{Value, null}
use Rattle.dart_meaning.specs.Numbered as n
use Rattle.dart_meaning.specs.Run.{Run, Result, went, ended, and_then, M, ◌>>=◌, ◌>>◌, pure, choose, scoped, Flow, returned}
use Rattle.code_unit.specs.declared.instr.Instr.{Instr}
use Rattle.code_unit.specs.declared.instr.Instr.TheVariants.{Jump, JumpIfFalse, Return}
use Rattle.code_pool.specs.Machine.{State}
use Rattle.program_code.specs.Code as d
use Rattle.program_code.specs.Needs.{Covers, CoversAll, CoversFirst, CoversSta, CoversStas, Roomy, RoomyAll, all_after}
use Rattle.program_code.specs.Sizes.{size, first_size, drops_size, sta_size, stas_size}
use Rattle.program_code.proofs.Lengths.{first_length, drops_length, sta_length}
use Rattle.machine_runs.proofs.Loaded.{Loaded}
use Rattle.machine_runs.proofs.Runs.{comes_none, comes_on}
use Rattle.machine_runs.proofs.Points.{opens, point, same_point, Activation, lands, Reaches, Leads, Does, Stands, stands_front, stands_back, does_bind, does_then, does_from, does_to, does_skip, does_pure, ends_at, stops_more}
use Rattle.machine_runs.proofs.Instructions.{does_pop, does_test}
use Rattle.machine_runs.proofs.Flows.{FlowLeads, Flows, flow_from, does_declare, flow_bind, flow_onward, flow_next, flow_more, flow_scoped, flow_wider, flow_empty, flow_choose, flow_jump, jumped}
use Rattle.machine_runs.proofs.Loops.{does_loop, does_do}
use Rattle.machine_runs.proofs.BodyCalls.{entered}
use Rattle.code_meaning.proofs.Layouts.{Layout, code_len}
use Rattle.code_meaning.proofs.Expressions.{co, Has, does_exp}

-- What `return` does with the value on top: its last instruction is `Return`, with what the body answers there.
pub record Leaving (prog : Loaded) (f : Activation prog) (leave : List Instr) (leaves : Value → Value) : Type 0 where
  pub leaving : (m t : ℕ) (v : Value) → Stands prog f t leave
      → (place k : ℕ) × (k + 1 ≡ length leave) × (slice_get f.unit.code place ≡ Some Return) × Does prog f k (point (opens m) t (v ∷ [])) (pure (tt {0})) (λ _. point (opens m) place (leaves v ∷ []))

-- ---- open variables

after_more : (m : ℕ) (x : Sta) → m ≤ after m x
after_more m (c.declare e) = omega arith
after_more m (c.block all) = omega arith
after_more m (c.run e) = omega arith
after_more m c.empty = omega arith
after_more m (c.when e x) = omega arith
after_more m (c.when_else e x y) = omega arith
after_more m (c.while e x) = omega arith
after_more m (c.for start e last x) = omega arith
after_more m (c.do_while x e) = omega arith
after_more m c.break = omega arith
after_more m c.continue = omega arith
after_more m (c.return e) = omega arith

after_first_more : (m : ℕ) (x : First) → m ≤ after_first m x
after_first_more m c.no_first = omega arith
after_first_more m (c.first_declares e) = omega arith
after_first_more m (c.first_runs e) = omega arith

stas_more : (m : ℕ) (xs : Stas) → m ≤ all_after m xs
stas_more m c.end_of = omega arith
stas_more m (c.next x more) = omega (arith, after_more m x, stas_more (after m x) more)

module _ {prog : Loaded} {f : Activation prog} {leaves : Value → Value} where
  flow_widen : {a : ℕ} {V W : ℕ → Type 0} {m out t end brk cont : ℕ} {k : M Value Flow} → ((j : ℕ) → V j → W j) → Flows prog f leaves a V m out t end brk cont k → Flows prog f leaves a W m out t end brk cont k
  flow_widen {a = a} {V = V} {W = W} {m = m} {out = out} {t = t} {end = end} {brk = brk} {cont = cont} {k = k} w d = record {
    flows = λ slots r fits. let s : State = lands prog f (point (opens m) t []) slots r.store in
        flow_from prog f leaves a r.store.turns a r.store.turns 0 s s V W out end brk cont (comes_none prog s) (omega arith) (omega arith) w (k r) (d.flows slots r fits);
  }

module _ {prog : Loaded} {f : Activation prog} (lay : Layout prog f) where
  -- a condition, and the place that it leads to
  does_condition : (e : Exp) (m t other : ℕ) → m ≤ lay.most → Sound prog.p f.here m e → Covers (Has lay) lay.room e → Stands prog f t (co lay e t) → slice_get f.unit.code (t + size e) ≡ Some (JumpIfFalse other)
      → Does prog f (size e + 1) (point (opens m) t []) (n.test prog.p (entered prog f) e) (λ go. point (opens m) (choose go (t + size e + 1) other) [])
  does_condition e m t other small sound covers h at =
      does_to places (does_bind (does_exp lay e m t [] small sound covers h) (λ v. does_test (opens m) (t + size e) other [] v at))
    where
      places : (go : Bool) → choose go (point (opens m) (t + size e + 1) []) (point (opens m) other []) ≡ point (opens m) (choose go (t + size e + 1) other) []
      places true = refl
      places false = refl

  does_first : (x : First) (m t : ℕ) → m ≤ lay.most → after_first m x ≤ lay.most → SoundFirst prog.p f.here m x → CoversFirst (Has lay) lay.room x → Stands prog f t (d.first_code prog.p lay.constant f.first f.scratch x m t)
      → Does prog f (first_size x) (point (opens m) t []) (n.first prog.p (entered prog f) x) (λ _. point (opens (after_first m x)) (t + first_size x) [])
  does_first c.no_first m t small room sound covers h = does_from (same_point (opens m) {t = t + 0} {u = t} (omega arith) refl) (does_pure {A = Unit {0}} {t = λ _. point (opens m) (t + 0) []} (tt {0}))
  does_first (c.first_declares e) m t small room sound covers h =
      ends_at (omega arith) (λ _. same_point (opens (suc m)) {t = t + size e + 1} {u = t + (size e + 1)} (omega arith) refl)
      (does_bind (does_exp lay e m t [] small sound covers (stands_front prog f t _ _ h)) (λ v. does_declare m (t + size e) v (stands_back prog f t (t + size e) _ _ (code_len lay e t) h).0 (omega (arith, lay.apart, lay.spares, room))))
  does_first (c.first_runs e) m t small room sound covers h =
      ends_at (omega arith) (λ _. same_point (opens m) {t = t + size e + 1} {u = t + (size e + 1)} (omega arith) refl)
      (does_then (does_exp lay e m t [] small sound covers (stands_front prog f t _ _ h)) (λ v. does_pop (opens m) (t + size e) [] v tt (stands_back prog f t (t + size e) _ _ (code_len lay e t) h).0))

  -- the last part of a `for`: each value is dropped
  does_drops : (es : Exps) (m t : ℕ) → m ≤ lay.most → AllSound prog.p f.here m es → CoversAll (Has lay) lay.room es → Stands prog f t (d.drops prog.p lay.constant f.first f.scratch es t)
      → Does prog f (drops_size es) (point (opens m) t []) (n.values prog.p (entered prog f) es >> pure (tt {0})) (λ _. point (opens m) (t + drops_size es) [])
  does_drops c.no_more m t small sound covers h = does_from (same_point (opens m) {t = t + 0} {u = t} (omega arith) refl) (does_pure {A = Unit {0}} {t = λ _. point (opens m) (t + 0) []} (tt {0}))
  does_drops (c.also e more) m t small sound covers h =
      let behind = stands_back prog f t (t + size e) _ _ (code_len lay e t) h in
      ends_at (omega arith) (λ _. same_point (opens m) {t = t + size e + 1 + drops_size more} {u = t + drops_size (c.also e more)} (omega arith) refl)
      (subst (λ k. Does prog f (size e + (1 + drops_size more)) (point (opens m) t []) k (λ _. point (opens m) (t + size e + 1 + drops_size more) []))
      (λ i r. dropped_later (n.value prog.p (entered prog f) e r) i)
      (does_bind (does_exp lay e m t [] small sound.0 covers.0 (stands_front prog f t _ _ h))
      (λ v. does_then (does_pop (opens m) (t + size e) [] v null behind.0) (λ _. does_drops more m (t + size e + 1) small sound.1 covers.1 behind.1))))
    where
      later_ : (v : Value) (y : Result Value (List Value)) → and_then y (λ _. pure (tt {0})) ≡ and_then (and_then y (λ vs. pure (v ∷ vs))) (λ _. pure (tt {0}))
      later_ v (went vs r) = refl
      later_ v (ended e r) = refl

      dropped_later : (y : Result Value Value) → and_then y (λ v. n.values prog.p (entered prog f) more >> pure (tt {0})) ≡ and_then (and_then y (λ v. n.values prog.p (entered prog f) more >>= (λ vs. pure (v ∷ vs)))) (λ _. pure (tt {0}))
      dropped_later (went v r) = later_ v (n.values prog.p (entered prog f) more r)
      dropped_later (ended e r) = refl

module _ {prog : Loaded} {f : Activation prog} (lay : Layout prog f) (answering : Bool) (leave : List Instr) (leaves : Value → Value) (leaving : Leaving prog f leave leaves) where
  abbrev st : Sta → ℕ → ℕ → ℕ → ℕ → List Instr
  st = d.sta prog.p lay.constant f.first f.scratch leave

  abbrev ss : Sta → ℕ
  ss = sta_size (length leave)

  sta_len : (x : Sta) (m brk cont t : ℕ) → t + length (st x m brk cont t) ≡ t + ss x
  sta_len x m brk cont t = ap (λ k. t + k) (sta_length prog.p lay.constant f.first f.scratch leave x m brk cont t)

  mutual
    pub does_sta : (x : Sta) (m t brk cont : ℕ) (loops : Bool) → m ≤ lay.most → Roomy lay.most m x → SoundSta prog.p f.here answering m loops x → CoversSta (Has lay) lay.room x → Stands prog f t (st x m brk cont t)
        → Flows prog f leaves (ss x) (λ j. m ≤ j) m (after m x) t (t + ss x) brk cont (n.doing prog.p (entered prog f) x)
    does_sta (c.block all) m t brk cont loops small roomy sound covers h = flow_wider (flow_scoped (stas_more m all) (does_stas all m t brk cont loops small roomy sound covers h))
    does_sta (c.declare e) m t brk cont loops small roomy sound covers h =
        flow_more (omega arith) (omega arith)
        (flow_onward (does_bind (does_exp lay e m t [] small sound covers (stands_front prog f t _ _ h)) (λ v. does_declare m (t + size e) v (stands_back prog f t (t + size e) _ _ (code_len lay e t) h).0 (omega (arith, lay.apart, lay.spares, roomy)))))
    does_sta (c.run e) m t brk cont loops small roomy sound covers h =
        flow_more (omega arith) (omega arith)
        (flow_onward (does_skip {w = λ v. point (opens m) (t + size e + 1) []} (does_exp lay e m t [] small sound covers (stands_front prog f t _ _ h)) (λ v. does_pop (opens m) (t + size e) [] v v (stands_back prog f t (t + size e) _ _ (code_len lay e t) h).0)))
    does_sta c.empty m t brk cont loops small roomy sound covers h = flow_more (omega arith) (omega arith) flow_empty
    does_sta (c.when e x) m t brk cont loops small roomy sound covers h =
        let then_at : ℕ = t + size e + 1 in
        let test = stands_back prog f t (t + size e) _ _ (code_len lay e t) h in
        flow_more (omega arith) (omega arith)
        (flow_bind {u = λ go. (m, choose go then_at (then_at + ss x))} (does_condition lay e m t (then_at + ss x) small sound.0 covers.0 (stands_front prog f t _ _ h) test.0)
        (λ go. flow_choose go (flow_wider (flow_scoped (after_more m x) (does_sta x m then_at brk cont loops small roomy sound.1 covers.1 test.1))) flow_empty))
    does_sta (c.when_else e x y) m t brk cont loops small roomy sound covers h =
        let then_at : ℕ = t + size e + 1 in
        let else_at : ℕ = then_at + ss x + 1 in
        let test = stands_back prog f t (t + size e) _ _ (code_len lay e t) h in
        let jump = stands_back prog f then_at (then_at + ss x) _ _ (sta_len x m brk cont then_at) test.1 in
        flow_more (omega arith) (omega arith)
        (flow_bind {u = λ go. (m, choose go then_at else_at)} (does_condition lay e m t else_at small sound.0 covers.0 (stands_front prog f t _ _ h) test.0)
        (λ go. flow_choose go
        (flow_jump jump.0 (flow_wider (flow_scoped (after_more m x) (does_sta x m then_at brk cont loops small roomy.0 sound.1 covers.1 (stands_front prog f then_at _ _ test.1)))))
        (flow_wider (flow_scoped (after_more m y) (does_sta y m else_at brk cont loops small roomy.1 sound.2 covers.2 jump.1)))))
    does_sta (c.while e x) m t brk cont loops small roomy sound covers h =
        let body_at : ℕ = t + size e + 2 in
        let last_at : ℕ = body_at + ss x in
        let end : ℕ = last_at + 1 in
        let test = stands_back prog f t (t + size e) _ _ (code_len lay e t) h in
        let same : t + size e + 1 + 1 ≡ body_at = omega arith in
        let body : Stands prog f body_at (st x m end last_at body_at ++ (Jump t ∷ [])) = subst (λ u. Stands prog f u (st x m end last_at body_at ++ (Jump t ∷ []))) same test.1.1 in
        let back = stands_back prog f body_at last_at _ _ (sta_len x m end last_at body_at) body in
        let within : last_at < length f.unit.code = slice_get_within f.unit.code last_at (Jump t) back.0 in
        flow_more (omega arith) (omega arith)
        (flow_wider (record {
          flows = λ slots r fits. does_loop prog f leaves m t (t + size e + 1) last_at last_at end brk cont (size e + 1) (ss x) 0 (n.test prog.p (entered prog f) e) (scoped (n.doing prog.p (entered prog f) x)) (pure tt)
              (does_to loop_places (does_condition lay e m t end small sound.0 covers.0 (stands_front prog f t _ _ h) test.0))
              test.1.0
              (subst (λ u. Flows prog f leaves (ss x) (λ j. j ≡ m) m m u last_at end last_at (scoped (n.doing prog.p (entered prog f) x))) (sym same)
              (flow_scoped (after_more m x) (does_sta x m body_at end last_at true small roomy sound.1 covers.1 (stands_front prog f body_at _ _ body))))
              (does_pure tt) back.0 (omega (arith, within, f.paid)) r.store.turns slots r fits (omega arith);
        }))
      where
        loop_places : (go : Bool) → point (opens m) (choose go (t + size e + 1) (t + size e + 2 + ss x + 1)) [] ≡ choose go (point (opens m) (t + size e + 1) []) (point (opens m) (t + size e + 2 + ss x + 1) [])
        loop_places true = refl
        loop_places false = refl
    does_sta c.break m t brk cont loops small roomy sound covers h = record { flows = λ slots r fits. record { vars = m; open_here = omega arith; reaches = jumped m t brk slots r fits h.0 } }
    does_sta c.continue m t brk cont loops small roomy sound covers h = record { flows = λ slots r fits. record { vars = m; open_here = omega arith; reaches = jumped m t cont slots r fits h.0 } }
    does_sta (c.return e) m t brk cont loops small roomy sound covers h =
        record { flows = λ slots r fits. on_result r (lands prog f (point (opens m) t []) slots r.store) (n.value prog.p (entered prog f) e r) ((does_exp lay e m t [] small (returns_sound answering m e sound) covers (stands_front prog f t _ _ h)).does slots r fits) }
      where
        returns_sound : (a : Bool) (m : ℕ) (e : Exp) → Returns prog.p f.here a m e → Sound prog.p f.here m e
        returns_sound true m e h = h
        returns_sound false m (c.constant literals.Null) h = tt
        returns_sound false m (c.constant (literals.Bool b)) h = absurd h
        returns_sound false m (c.constant (literals.Int z)) h = absurd h
        returns_sound false m (c.constant (literals.Str u)) h = absurd h
        returns_sound false m _ h = absurd h

        on_result : (r : Run Value) (s : State) (y : Result Value Value) → Leads prog f (size e) r.store.turns s (λ v. point (opens m) (t + size e) (v ∷ [])) y
            → FlowLeads prog f leaves (size e + length leave) r.store.turns s (λ j. m ≤ j) m (t + (size e + length leave)) brk cont (and_then y (λ v. pure (returned v)))
        on_result r s (went v q) l =
            let x = leaving.leaving m (t + size e) v (stands_back prog f t (t + size e) _ _ (code_len lay e t) h) in
            let y : Reaches prog f x.1 q.store.turns (lands prog f (point (opens m) (t + size e) (v ∷ [])) l.slots q.store) (point (opens m) x.0 (leaves v ∷ [])) q = x.4.does l.slots q l.fits in
            record {
              vars = m;
              open_here = omega arith;
              place = x.0;
              code = x.3;
              slots = y.slots;
              count = l.count + y.count;
              fits = y.fits;
              comes = comes_on prog l.comes y.comes;
              bound = omega (arith, l.bound, y.bound, x.2);
              fewer = l.fewer;
            }
        on_result r s (ended d q) l = stops_more prog f (size e) (size e + length leave) r.store.turns s d q (omega arith) l
    does_sta (c.for start e last x) m t brk cont loops small roomy sound covers h =
        let m' : ℕ = after_first m start in
        let fs : ℕ = first_size start in
        let ds : ℕ = drops_size last in
        let top : ℕ = t + fs in
        let body_at : ℕ = top + size e + 2 in
        let last_at : ℕ = body_at + ss x in
        let jump_at : ℕ = last_at + ds in
        let end : ℕ = last_at + ds + 1 in
        let whole = stands_back prog f t top _ _ (ap (λ k. t + k) (first_length prog.p lay.constant f.first f.scratch start m t)) h in
        let test = stands_back prog f top (top + size e) _ _ (code_len lay e top) whole in
        let same : top + size e + 1 + 1 ≡ body_at = omega arith in
        let tail : List Instr = d.drops prog.p lay.constant f.first f.scratch last last_at ++ (Jump top ∷ []) in
        let body : Stands prog f body_at (st x m' end last_at body_at ++ tail) = subst (λ u. Stands prog f u (st x m' end last_at body_at ++ tail)) same test.1.1 in
        let behind = stands_back prog f body_at last_at _ _ (sta_len x m' end last_at body_at) body in
        let back = stands_back prog f last_at jump_at _ _ (ap (λ k. last_at + k) (drops_length prog.p lay.constant f.first f.scratch last last_at)) behind in
        let within : jump_at < length f.unit.code = slice_get_within f.unit.code jump_at (Jump top) back.0 in
        flow_more (omega arith) (omega arith)
        (flow_wider (flow_scoped (after_first_more m start)
        (flow_bind {u = λ _. (m', top)} (does_first lay start m t small roomy.0 sound.0 covers.0 (stands_front prog f t _ _ h))
        (λ _. flow_widen (λ j w. omega (arith, w, after_first_more m start)) (record {
          flows = λ slots r fits. does_loop prog f leaves m' top (top + size e + 1) last_at jump_at end brk cont (size e + 1) (ss x) ds (n.test prog.p (entered prog f) e) (scoped (n.doing prog.p (entered prog f) x)) (n.values prog.p (entered prog f) last >> pure tt)
              (does_to (loop_places m' top) (does_condition lay e m' top end roomy.0 sound.1 covers.1 (stands_front prog f top _ _ whole) test.0))
              test.1.0
              (subst (λ u. Flows prog f leaves (ss x) (λ j. j ≡ m') m' m' u last_at end last_at (scoped (n.doing prog.p (entered prog f) x))) (sym same)
              (flow_scoped (after_more m' x) (does_sta x m' body_at end last_at true roomy.0 roomy.1 sound.3 covers.3 (stands_front prog f body_at _ _ body))))
              (does_drops lay last m' last_at roomy.0 sound.2 covers.2 (stands_front prog f last_at _ _ behind)) back.0 (omega (arith, within, f.paid)) r.store.turns slots r fits (omega arith);
        })))))
      where
        loop_places : (m' top : ℕ) (go : Bool)
            → point (opens m') (choose go (top + size e + 1) (top + size e + 2 + ss x + drops_size last + 1)) [] ≡ choose go (point (opens m') (top + size e + 1) []) (point (opens m') (top + size e + 2 + ss x + drops_size last + 1) [])
        loop_places m' top true = refl
        loop_places m' top false = refl
    does_sta (c.do_while x e) m t brk cont loops small roomy sound covers h =
        let body_at : ℕ = t + 1 in
        let test_at : ℕ = body_at + ss x in
        let jump_at : ℕ = test_at + size e + 1 in
        let end : ℕ = test_at + size e + 2 in
        let behind = stands_back prog f body_at test_at _ _ (sta_len x m end test_at body_at) h.1 in
        let test = stands_back prog f test_at (test_at + size e) _ _ (code_len lay e test_at) behind in
        let within : jump_at < length f.unit.code = slice_get_within f.unit.code jump_at (Jump t) test.1.0 in
        flow_more (omega arith) (omega arith)
        (flow_wider (record {
          flows = λ slots r fits. does_do prog f leaves m t test_at jump_at end brk cont (size e + 1) (ss x) (n.test prog.p (entered prog f) e) (scoped (n.doing prog.p (entered prog f) x)) h.0
              (flow_scoped (after_more m x) (does_sta x m body_at end test_at true small roomy sound.0 covers.0 (stands_front prog f body_at _ _ h.1)))
              (does_to loop_places (does_condition lay e m test_at end small sound.1 covers.1 (stands_front prog f test_at _ _ behind) test.0))
              test.1.0 (omega (arith, within, f.paid)) r.store.turns slots r fits (omega arith);
        }))
      where
        loop_places : (go : Bool) → point (opens m) (choose go (t + 1 + ss x + size e + 1) (t + 1 + ss x + size e + 2)) [] ≡ choose go (point (opens m) (t + 1 + ss x + size e + 1) []) (point (opens m) (t + 1 + ss x + size e + 2) [])
        loop_places true = refl
        loop_places false = refl

    pub does_stas : (xs : Stas) (m t brk cont : ℕ) (loops : Bool) → m ≤ lay.most → RoomyAll lay.most m xs → SoundStas prog.p f.here answering m loops xs → CoversStas (Has lay) lay.room xs → Stands prog f t (d.stas prog.p lay.constant f.first f.scratch leave xs m brk cont t)
        → Flows prog f leaves (stas_size (length leave) xs) (λ j. m ≤ j) m (all_after m xs) t (t + stas_size (length leave) xs) brk cont (n.doing_all prog.p (entered prog f) xs)
    does_stas c.end_of m t brk cont loops small roomy sound covers h = flow_more (omega arith) (omega arith) flow_empty
    does_stas (c.next x more) m t brk cont loops small roomy sound covers h =
        flow_more (omega arith) (omega arith)
        (flow_next (after_more m x) (does_sta x m t brk cont loops small roomy.0 sound.0 covers.0 (stands_front prog f t _ _ h))
        (does_stas more (after m x) (t + ss x) brk cont loops roomy.1 roomy.2 sound.1 covers.1 (stands_back prog f t (t + ss x) _ _ (sta_len x m brk cont t) h)))

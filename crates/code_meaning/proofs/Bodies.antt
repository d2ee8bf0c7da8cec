-- The code of a body, from its beginning to the `return` that answers.
use Rattle.std.proofs.Common.{◌≡◌, ℕ, ◌+◌, ◌-◌, ◌≤◌, List, [], ◌∷◌, ◌++◌, length, map, take, refl, sym, ap, ◌∙◌, arith, append_assoc}
use Rattle.std.specs.Prelude.{true, false, slice_get, Some}
use Rattle.std.proofs.Math.Seq.{take-append_seam}
use Rattle.std.proofs.lemmas.Option.{slice_get_within}
use Rattle.program.specs.declared.body.Body.{Body}
use Rattle.program.specs.declared.body.Body.TheVariants as body
use Rattle.program.specs.declared.literal.Literal.TheVariants as literals
use Rattle.program.specs.Bodies as c
use Rattle.program.specs.Bodies.{Exp, Stas}
use Rattle.program.specs.Sound.{Sound, SoundStas, SoundBody}
use Rattle.dart_values.specs.Values.{Value, null}
use Rattle.dart_meaning.specs.Numbered as n
use Rattle.dart_meaning.specs.Run.{Run, Store, Ending, Result, went, ended, and_then, pure, Flow, onward, broke, continued, returned, answer}
use Rattle.meaning_laws.specs.BodyLaws.{Follows}
use Rattle.code_unit.specs.declared.instr.Instr.TheVariants.{Const, Return}
use Rattle.code_pool.specs.Machine.{Frame, State, told, back, leave}
use Rattle.program_code.specs.Code as d
use Rattle.program_code.specs.Needs.{Covers, CoversStas, CoversBody, RoomyAll, RoomyBody, all_after}
use Rattle.program_code.specs.Sizes.{size, stas_size}
use Rattle.program_code.proofs.Lengths.{stas_length}
use Rattle.machine_runs.proofs.Loaded.{Loaded}
use Rattle.machine_runs.proofs.Runs.{worth, goes, Comes, Ends, comes_on, comes_one}
use Rattle.machine_runs.proofs.Points.{opens, Point, point, Activation, lands, Fits, Reaches, Leads, Stands, stands_front, stands_back, act_is, does_pure, top_one_at}
use Rattle.machine_runs.proofs.Instructions.{push_is}
use Rattle.machine_runs.proofs.Flows.{FlowLeads, AtReturn, flow_more}
use Rattle.machine_runs.proofs.BodyCalls.{entered}
use Rattle.code_meaning.proofs.Layouts.{Layout, code_len}
use Rattle.code_meaning.proofs.Expressions.{co, Has, does_exp}
use Rattle.code_meaning.proofs.Statements.{Leaving, does_stas}

module _ (prog : Loaded) where
  -- A body comes to its `return`, with its answer on top, and the instruction there leaves.
  pub record Finishes (before : ℕ) (s : State) (below : List Value) (callers : List Frame) (begun : Store) (v : Value) (q : Run Value) : Type 0 where
    pub count : ℕ
    pub last : State
    pub comes : Comes prog count s last
    pub callers_are : last.callers ≡ callers
    pub store_is : last.store ≡ q.store
    pub leaves : goes prog last ≡ back last (below ++ v ∷ []) (slice_get last.callers (length last.callers - 1))
    pub bound : count + 1 + worth prog.pays q.store.turns ≤ prog.pays + worth prog.pays before
    pub follows : Follows prog.p begun q.store

  -- It ends the run.
  pub record Fails (before : ℕ) (s : State) (e : Ending) (q : Run Value) : Type 0 where
    pub count : ℕ
    pub ends : Ends prog count s (told e q.store)
    pub bound : count + worth prog.pays q.store.turns ≤ prog.pays + worth prog.pays before

  -- The code of a body does what its evaluation came to; the turn of its entry pays for all of it.
  abbrev pub BodyLeads : ℕ → State → List Value → List Frame → Store → Result Value Value → Type 0
  BodyLeads before s below callers begun (went v q) = Finishes before s below callers begun v q
  BodyLeads before s below callers begun (ended e q) = Fails before s e q

-- the same, of a body that runs
abbrev pub Runs : (prog : Loaded) → Activation prog → ℕ → State → Result Value Value → Type 0
Runs prog f before s y = BodyLeads prog before s f.below f.callers f.begun y

module _ {prog : Loaded} {f : Activation prog} where
  pub finishes_at : (before : ℕ) (s : State) (V : ℕ → Type 0) (v : Value) (q : Run Value) → AtReturn prog f (λ v. v) prog.pays before s V v q → Finishes prog before s f.below f.callers f.begun v q
  finishes_at before s V v q l =
      let x : Point = point (opens l.vars) l.place (v ∷ []) in
      let last : State = lands prog f x l.slots q.store in
      let base : take (length f.below) last.values ≡ f.below =
      ap (take (length f.below)) (append_assoc f.below l.slots (v ∷ [])) ∙ take-append_seam f.below (l.slots ++ v ∷ []) in
      record {
        count = l.count;
        last = last;
        comes = l.comes;
        callers_are = refl;
        store_is = refl;
        leaves = act_is prog f x l.slots q.store Return l.code ∙ top_one_at prog f x l.slots q.store [] v (λ below v. leave last v) l.fits.size refl ∙ rw base refl;
        bound = l.bound;
        follows = l.fits.follows;
      }

  -- at a `return`, with more paid for
  pub at_more : {leaves : Value → Value} (size before : ℕ) (s : State) (V : ℕ → Type 0) (v : Value) (q : Run Value) → size ≤ prog.pays → AtReturn prog f leaves size before s V v q → AtReturn prog f (λ v. v) prog.pays before s (λ _. Unit {0}) v q
  at_more size before s V v q le l = record {
    vars = l.vars;
    open_here = tt;
    place = l.place;
    code = l.code;
    slots = l.slots;
    count = l.count;
    fits = l.fits;
    comes = l.comes;
    bound = omega (arith, l.bound, le);
    fewer = l.fewer;
  }

  -- `return` in the body of a function or a member
  pub plain : Leaving prog f (Return ∷ []) (λ v. v)
  plain = record { leaving = λ m t v h. (t, 0, refl, h.0, does_pure {A = Unit {0}} {t = λ _. point (opens m) t (v ∷ [])} (tt {0})) }

module _ {prog : Loaded} {f : Activation prog} (lay : Layout prog f) where
  arrow_body : (e : Exp) (m : ℕ) → m ≤ lay.most → Sound prog.p f.here m e → Covers (Has lay) lay.room e → Stands prog f 0 (co lay e 0 ++ (Return ∷ [])) → (slots : List Value) (r : Run Value) → Fits prog f (opens m) slots r
      → Runs prog f r.store.turns (lands prog f (point (opens m) 0 []) slots r.store) (n.value prog.p (entered prog f) e r)
  arrow_body e m small sound covers h slots r fits = on_result (n.value prog.p (entered prog f) e r) ((does_exp lay e m 0 [] small sound covers (stands_front prog f 0 _ _ h)).does slots r fits)
    where
      at : slice_get f.unit.code (0 + size e) ≡ Some Return
      at = (stands_back prog f 0 (0 + size e) _ _ (code_len lay e 0) h).0

      on_result : (y : Result Value Value) → Leads prog f (size e) r.store.turns (lands prog f (point (opens m) 0 []) slots r.store) (λ v. point (opens m) (0 + size e) (v ∷ [])) y
          → Runs prog f r.store.turns (lands prog f (point (opens m) 0 []) slots r.store) y
      on_result (went v q) l = finishes_at r.store.turns (lands prog f (point (opens m) 0 []) slots r.store) (λ j. j ≡ m) v q (record {
        vars = m;
        open_here = refl;
        place = 0 + size e;
        code = at;
        slots = l.slots;
        count = l.count;
        fits = l.fits;
        comes = l.comes;
        bound = omega (arith, l.bound, slice_get_within f.unit.code (0 + size e) Return at, f.paid);
        fewer = l.fewer;
      })
      on_result (ended d q) l = record { count = l.count; ends = l.ends; bound = omega (arith, l.bound, slice_get_within f.unit.code (0 + size e) Return at, f.paid) }

  -- where a body ends without `return`
  ends_null : (j end before : ℕ) (s : State) (q : Run Value) → slice_get f.unit.code end ≡ Some (Const (lay.constant literals.Null)) → slice_get f.unit.code (end + 1) ≡ Some Return
      → Reaches prog f end before s (point (opens j) end []) q → AtReturn prog f (λ v. v) prog.pays before s (λ _. Unit {0}) null q
  ends_null j end before s q at last l = record {
    vars = j;
    open_here = tt;
    place = end + 1;
    code = last;
    slots = l.slots;
    count = l.count + 1;
    fits = l.fits;
    comes = comes_on prog l.comes (comes_one prog (lands prog f (point (opens j) end []) l.slots q.store) (lands prog f (point (opens j) (end + 1) (null ∷ [])) l.slots q.store)
        (act_is prog f (point (opens j) end []) l.slots q.store (Const (lay.constant literals.Null)) at ∙ rw lay.null_known (push_is prog f (point (opens j) end []) l.slots q.store null)));
    bound = omega (arith, l.bound, slice_get_within f.unit.code (end + 1) Return last, f.paid);
    fewer = l.fewer;
  }

  block_body : (xs : Stas) (m end : ℕ) → end ≡ 0 + stas_size 1 xs → m ≤ lay.most → RoomyAll lay.most m xs → SoundStas prog.p f.here true m false xs → CoversStas (Has lay) lay.room xs
      → Stands prog f 0 (d.stas prog.p lay.constant f.first f.scratch (Return ∷ []) xs m end end 0 ++ (Const (lay.constant literals.Null) ∷ Return ∷ [])) → (slots : List Value) (r : Run Value) → Fits prog f (opens m) slots r
      → Runs prog f r.store.turns (lands prog f (point (opens m) 0 []) slots r.store) (and_then (n.doing_all prog.p (entered prog f) xs r) (λ x. pure (answer x)))
  block_body xs m end is small roomy sound covers h slots r fits =
      on_result (n.doing_all prog.p (entered prog f) xs r)
      ((flow_more (omega (arith, is)) (sym is) (does_stas lay true (Return ∷ []) (λ v. v) plain xs m 0 end end false small roomy sound covers (stands_front prog f 0 _ _ h))).flows slots r fits)
    where
      behind : Stands prog f end (Const (lay.constant literals.Null) ∷ Return ∷ [])
      behind = stands_back prog f 0 end _ _ (ap (λ k. 0 + k) (stas_length prog.p lay.constant f.first f.scratch (Return ∷ []) xs m end end 0) ∙ sym is) h

      room : end ≤ prog.pays
      room = omega (arith, slice_get_within f.unit.code (end + 1) Return behind.1.0, f.paid)

      on_result : (y : Result Value Flow) → FlowLeads prog f (λ v. v) end r.store.turns (lands prog f (point (opens m) 0 []) slots r.store) (λ j. m ≤ j) (all_after m xs) end end end y
          → Runs prog f r.store.turns (lands prog f (point (opens m) 0 []) slots r.store) (and_then y (λ x. pure (answer x)))
      on_result (went onward q) l = finishes_at r.store.turns _ (λ _. Unit {0}) null q (ends_null (all_after m xs) end r.store.turns _ q behind.0 behind.1.0 l)
      on_result (went broke q) l = finishes_at r.store.turns _ (λ _. Unit {0}) null q (ends_null l.vars end r.store.turns _ q behind.0 behind.1.0 l.reaches)
      on_result (went continued q) l = finishes_at r.store.turns _ (λ _. Unit {0}) null q (ends_null l.vars end r.store.turns _ q behind.0 behind.1.0 l.reaches)
      on_result (went (returned v) q) l = finishes_at r.store.turns _ (λ _. Unit {0}) v q (at_more end r.store.turns _ (λ j. m ≤ j) v q room l)
      on_result (ended d q) l = record { count = l.count; ends = l.ends; bound = omega (arith, l.bound, room) }

  -- the body of a function or a member, with its parameters open
  pub does_body : (b : Body) (m : ℕ) → m ≤ lay.most → RoomyBody lay.most m b → SoundBody prog.p f.here m b → CoversBody (Has lay) lay.room b → Stands prog f 0 (d.body_code prog.p lay.constant f.first f.scratch b m)
      → (slots : List Value) (r : Run Value) → Fits prog f (opens m) slots r → Runs prog f r.store.turns (lands prog f (point (opens m) 0 []) slots r.store) (n.body_value prog.p (entered prog f) b r)
  does_body (body.Arrow e) m small roomy sound covers h slots r fits = arrow_body (c.exp e) m small sound covers h slots r fits
  does_body (body.Block all) m small roomy sound covers h slots r fits = block_body (c.stas (map c.sta all)) m (stas_size 1 (c.stas (map c.sta all))) (omega arith) small roomy sound covers h slots r fits

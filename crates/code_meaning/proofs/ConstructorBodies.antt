-- The code of a constructor: its fields are set, the superclass's constructor is entered, and its body runs, all in one frame.
use Rattle.std.proofs.Common.{◌≡◌, ℕ, zero, suc, ◌+◌, ◌<◌, ◌≤◌, List, [], ◌∷◌, ◌++◌, length, refl, sym, ap, ◌∙◌, subst, arith}
use Rattle.std.specs.Prelude.{Bool, true, false, ◌||◌, nat_eq, nat_le, IsTrue, is_some, slice_get, Option, Some, None, option_and_then}
use Rattle.std.proofs.lemmas.Bool.{lt-ltb, eqb-true, leb-true}
use Rattle.std.proofs.lemmas.Option.{slice_get_within}
use Rattle.program.specs.declared.ids.UnitId.{UnitId}
use Rattle.program.specs.declared.numbered.Class.{Class}
use Rattle.program.specs.Bodies as c
use Rattle.program.specs.Bodies.{Exps, Stas, count}
use Rattle.program.specs.BuiltIn.{is_open}
use Rattle.program.specs.Parts.{Parts}
use Rattle.program.specs.Sound.{AllSound, SoundStas, ConstructorAccepts}
use Rattle.program.specs.Whole.{Declares}
use Rattle.dart_values.specs.Natives.{thing_at}
use Rattle.dart_values.specs.Reads.{with_field, object_fields}
use Rattle.dart_values.specs.Values.{Value, null}
use Rattle.dart_meaning.specs.Calls as calls
use Rattle.dart_meaning.specs.Numbered as n
use Rattle.dart_meaning.specs.Numbered.{the_constructor, constructor_at, constructor_of, class_above}
use Rattle.dart_meaning.specs.Program.{running}
use Rattle.dart_meaning.specs.Run.{Run, Result, went, ended, and_then, M, ◌>>=◌, ◌>>◌, pure, choose, set_field, Flow, onward, broke, continued, returned}
use Rattle.meaning_laws.specs.ThisLaws.{IsOf}
use Rattle.meaning_laws.proofs.Fields.{declared_fields_are_there}
use Rattle.meaning_laws.proofs.Follows.{follows}
use Rattle.meaning_laws.proofs.Receivers.{constructors_may_enter}
use Rattle.meaning_laws.proofs.This.{of_stays}
use Rattle.code_unit.specs.declared.instr.Instr.TheVariants.{Local, Pop, CallStatic, SetField, Return}
use Rattle.code_pool.specs.Machine as machine
use Rattle.code_pool.specs.Machine.{State, to, by, when, wrong_receiver, on}
use Rattle.program_code.specs.Code as d
use Rattle.program_code.specs.Needs.{CoversAll, CoversStas, RoomyAll, all_after}
use Rattle.program_code.specs.Sizes.{sizes, sets_size, above_size, stas_size}
use Rattle.program_code.proofs.Lengths.{sets_length, above_length, stas_length}
use Rattle.machine_runs.proofs.Loaded.{Loaded, constructor_number, class_at}
use Rattle.machine_runs.proofs.Runs.{goes, comes_none, comes_on, comes_one}
use Rattle.machine_runs.proofs.Calls.{of_constructor}
use Rattle.machine_runs.proofs.Points.{Open, opens, Point, point, same_point, reassociated, Activation, lands, Fits, good_of, Reaches, Leads, Does, Stands, stands_front, stands_back, act_is, top_two_at, does_then, does_from, does_where, does_skip, does_pure, ends_at, stops_more, leads_on}
use Rattle.machine_runs.proofs.Instructions.{local_is, on_is, does_me, does_pop}
use Rattle.machine_runs.proofs.Flows.{FlowLeads, AtReturn, leads_from, flow_from, flow_more}
use Rattle.machine_runs.proofs.BodyCalls as run
use Rattle.machine_runs.proofs.BodyCalls.{entered, enter_leads}
use Rattle.code_meaning.proofs.Layouts.{Layout, codes_len}
use Rattle.code_meaning.proofs.Expressions.{cos, Has, values_count, does_exps}
use Rattle.code_meaning.proofs.Statements.{Leaving, does_stas}
use Rattle.code_meaning.proofs.Bodies.{Runs, finishes_at, at_more}

-- ---- what a constructor passes on is evaluated without a class around it

pub no_class : {B : Type 0} → IsTrue (is_some {T = ℕ} None) → B
no_class e = absurd (cc)

-- the same body, said to stand in no class
abbrev pub outside : {prog : Loaded} → Activation prog → Activation prog
outside f = record f { here = None; this_is = λ e. absurd (no_class e); me_of = tt }

module _ {prog : Loaded} {f : Activation prog} where
  fits_outside : {o : Open} {slots : List Value} {r : Run Value} → Fits prog f o slots r → Fits prog (outside f) o slots r
  fits_outside h = record { size = h.size; count = h.count; vars = h.vars; kept = h.kept; this = h.this; self = h.self; follows = h.follows }

  does_inside : {A : Type 0} {a : ℕ} {x : Point} {m : M Value A} {t : A → Point} → Does prog (outside f) a x m t → Does prog f a x m t
  does_inside {A = A} {a = a} {x = x} {m = m} {t = t} w = record { does = λ slots r h. leads r.store.turns (lands prog f x slots r.store) (m r) (w.does slots r (fits_outside h)) }
    where
      leads : (before : ℕ) (s : State) (y : Result Value A) → Leads prog (outside f) a before s t y → Leads prog f a before s t y
      leads before s (went v q) l = record {
        slots = l.slots;
        count = l.count;
        fits = record { size = l.fits.size; count = l.fits.count; vars = l.fits.vars; kept = l.fits.kept; this = l.fits.this; self = l.fits.self; follows = l.fits.follows };
        comes = l.comes;
        bound = l.bound;
        fewer = l.fewer;
      }
      leads before s (ended e q) l = record { count = l.count; ends = l.ends; bound = l.bound }

  abbrev outside_layout : Layout prog f → Layout prog (outside f)
  outside_layout lay = record { constant = lay.constant; null_known = lay.null_known; most = lay.most; room = lay.room; apart = lay.apart; spares = lay.spares; rooms = lay.rooms }

  -- the values that are passed on
  pub passes_on : (lay : Layout prog f) (es : Exps) (m t : ℕ) (ops : List Value) → m ≤ lay.most → AllSound prog.p None m es → CoversAll (Has lay) lay.room es → Stands prog f t (cos lay es t)
      → Does prog f (sizes es) (point (opens m) t ops) (n.values prog.p (entered prog f) es) (λ vs. point (opens m) (t + sizes es) (ops ++ vs))
  passes_on lay es m t ops small sound covers h = does_inside (does_exps (outside_layout lay) es m t ops small sound covers h)

-- a class's constructor, for one of its objects
pub record Constructs (prog : Loaded) (f : Activation prog) (class : ℕ) : Type 0 where
  pub holder : f.here ≡ Some class
  pub is_this : f.of_this ≡ true
  -- the superclass, whose constructor is entered where that is not Object
  pub above_open : IsTrue (is_open (class_above prog.p class))
  pub above_there : class_above prog.p class < length prog.p.classes

get_class : {A : Type 0} (xs : List A) (i : ℕ) → i < length xs → (a : A) × (slice_get xs i ≡ Some a)
get_class [] i h = absurd (omega arith)
get_class (x ∷ xs) zero h = (x, refl)
get_class (x ∷ xs) (suc i) h = get_class xs i (omega arith)

regrouped_building : {A B C D : Type 0} (y : Result Value A) (g : M Value B) (h : B → M Value C) (k : C → M Value D) → and_then (and_then y (λ _. g >>= h)) k ≡ and_then y (λ _. g >>= (λ v. h v >>= k))
regrouped_building (went v r) g h k = reassociated (g r) h k
regrouped_building (ended e r) g h k = refl

module _ {prog : Loaded} {f : Activation prog} (lay : Layout prog f) (class : ℕ) (x : Constructs prog f class) where
  abbrev p : Parts
  p = prog.p

  -- `this` is an object of the class, in each run of the body
  me_of : {o : Open} {slots : List Value} {r : Run Value} → Fits prog f o slots r → IsOf p r.store.heap (Some class) f.me
  me_of {r = r} h = of_stays p prog.sound (Some class) f.begun.heap r.store.heap f.me h.follows.classes (subst (λ y. IsOf p f.begun.heap y f.me) x.holder f.me_of)

  -- ---- each `this.x` of the parameters

  sets_lead : (sets : List (Option ℕ)) (args : List Value) (i m t u : ℕ) → length args ≡ length sets → t + sets_size sets ≡ u → Stands prog f t (d.sets_code p lay.constant f.first f.scratch sets i)
      → ((j field : ℕ) → slice_get sets j ≡ Some (Some field) → Declares p class field)
      → (slots : List Value) (r : Run Value) → Fits prog f (opens m) slots r → ((j : ℕ) (v : Value) → slice_get args j ≡ Some v → slice_get slots (i + j) ≡ Some v)
      → Leads prog f (sets_size sets) r.store.turns (lands prog f (point (opens m) t []) slots r.store) (λ _. point (opens m) u []) (n.set_fields p (entered prog f) f.me sets args r)
  sets_lead [] args i m t u len e h declared slots r fits args_at =
      let k : t ≡ u = omega (arith, e) in
      subst (λ z. Reaches prog f 0 r.store.turns (lands prog f (point (opens m) t []) slots r.store) (point (opens m) z []) r) k
      (record { slots = slots; count = 0; fits = fits; comes = comes_none prog (lands prog f (point (opens m) t []) slots r.store); bound = omega arith; fewer = omega arith })
  sets_lead (o ∷ more) [] i m t u len e h declared slots r fits args_at = absurd (omega (arith, len))
  sets_lead (None ∷ more) (v ∷ args) i m t u len e h declared slots r fits args_at =
      sets_lead more args (suc i) m t u (omega (arith, len)) e h (λ j field z. declared (suc j) field z) slots r fits
      (λ j w z. let k : suc i + j ≡ i + suc j = omega arith in ap (slice_get slots) k ∙ args_at (suc j) w z)
  sets_lead (Some field ∷ more) (v ∷ args) i m t u len e h declared slots r fits args_at =
      let x0 : Point = point (opens m) t [] in
      let x1 : Point = point (opens m) (t + 1) (f.me ∷ []) in
      let x2 : Point = point (opens m) (t + 1 + 1) (f.me ∷ v ∷ []) in
      let x3 : Point = point (opens m) (t + 1 + 1 + 1) [] in
      let r3 : Run Value = record r { store = record r.store { heap = with_field r.store.heap f.me field v } } in
      let s2 : State = lands prog f x2 slots r.store in
      let i0 : i + 0 ≡ i = omega arith in
      let has : machine.has_field r.store.heap f.me field ≡ true =
      lt-ltb field (length (object_fields (thing_at r.store.heap f.me))) (declared_fields_are_there p prog.sound r.store.heap f.me class field (good_of prog f fits).heap (me_of fits) (declared 0 field refl)) in
      let a : goes prog (lands prog f x0 slots r.store) ≡ to (lands prog f x1 slots r.store) = local_is prog f x0 slots r.store 0 f.me fits.size h.0 (fits.this x.is_this) in
      let b : goes prog (lands prog f x1 slots r.store) ≡ to s2 = local_is prog f x1 slots r.store i v fits.size h.1.0 (ap (slice_get slots) (sym i0) ∙ args_at 0 v refl) in
      let q : goes prog s2 ≡ to (lands prog f x3 slots r3.store) =
      act_is prog f x2 slots r.store (SetField field) h.1.1.0
      ∙ top_two_at prog f x2 slots r.store [] f.me v (λ below v w. when wrong_receiver (machine.has_field s2.store.heap v field) (by (set_field v field w) s2 (λ _ s. on s below))) fits.size refl
      ∙ rw has (on_is prog f x2 slots r3.store ((f.below ++ slots) ++ []) [] refl) in
      leads_from prog f (sets_size more) r.store.turns (3 + sets_size more) r.store.turns (1 + (1 + 1)) (lands prog f x0 slots r.store) (lands prog f x3 slots r3.store) (λ _. point (opens m) u [])
      (comes_on prog (comes_one prog (lands prog f x0 slots r.store) (lands prog f x1 slots r.store) a)
      (comes_on prog (comes_one prog (lands prog f x1 slots r.store) s2 b) (comes_one prog s2 (lands prog f x3 slots r3.store) q)))
      (omega arith) (omega arith) (n.set_fields p (entered prog f) f.me more args r3)
      (sets_lead more args (suc i) m (t + 1 + 1 + 1) u (omega (arith, len)) (omega (arith, e)) h.1.1.1 (λ j field z. declared (suc j) field z) slots r3
      (record {
        size = fits.size;
        count = fits.count;
        vars = fits.vars;
        kept = fits.kept;
        this = fits.this;
        self = fits.self;
        follows = (follows p).on f.begun r.store r3.store fits.follows ((follows p).fields r.store f.me field v);
      })
      (λ j w z. let k : suc i + j ≡ i + suc j = omega arith in ap (slice_get slots) k ∙ args_at (suc j) w z))

  -- ---- the superclass's constructor

  -- Object's takes nothing
  object_takes : (k : ℕ) → class_above p class ≡ 0 → ConstructorAccepts k (constructor_of p (class_above p class)) → k ≡ 0
  object_takes k e h =
      let none : constructor_of p (class_above p class) ≡ None = ap (constructor_of p) e ∙ ap (option_and_then (λ (k : Class). k.constructor)) (class_at p prog.sound 0 (omega arith)) in
      subst (ConstructorAccepts k) none h

  user_above : nat_eq (class_above p class) 0 ≡ false → 7 ≤ class_above p class
  user_above e = by_test (nat_le 7 (class_above p class)) refl (subst (λ b. IsTrue (b || nat_le 7 (class_above p class))) e x.above_open)
    where
      by_test : (b : Bool) → nat_le 7 (class_above p class) ≡ b → IsTrue b → 7 ≤ class_above p class
      by_test true e h = leb-true 7 (class_above p class) e
      by_test false e h = absurd (cc)

  above_does : (is_object : Bool) (passes : Exps) (m t : ℕ) → nat_eq (class_above p class) 0 ≡ is_object → ConstructorAccepts (count passes) (constructor_of p (class_above p class)) → m ≤ lay.most → AllSound p None m passes → (nat_eq (class_above p class) 0 ≡ false → CoversAll (Has lay) lay.room passes)
      → Stands prog f t (choose is_object [] (Local 0 ∷ (cos lay passes (t + 1) ++ CallStatic (constructor_number p (class_above p class)) (suc (count passes)) ∷ Pop ∷ [])))
      → Does prog f (choose is_object 0 (1 + (sizes passes + 2))) (point (opens m) t []) (n.values p (entered prog f) passes >>= calls.construct (run.calling prog f) (constructor_at (class_above p class)) f.me) (λ _. point (opens m) (t + choose is_object 0 (1 + (sizes passes + 2))) [])
  above_does true c.no_more m t e accepts small sound covers h =
      rw e (does_from (same_point (opens m) {t = t + 0} {u = t} (omega arith) refl) (does_pure {t = λ _. point (opens m) (t + 0) []} null))
  above_does true (c.also y more) m t e accepts small sound covers h = absurd (omega (arith, object_takes (suc (count more)) (eqb-true (class_above p class) 0 e) accepts))
  above_does false passes m t e accepts small sound covers h =
      let above : ℕ = class_above p class in
      let there : constructor_at above ≡ Some (the_constructor above) = rw e refl in
      let last = stands_back prog f (t + 1) (t + 1 + sizes passes) _ _ (codes_len lay passes (t + 1)) h.1 in
      let k = get_class p.classes above x.above_there in
      let u = prog.tables.constructors above (user_above e) x.above_there in
      rw there
      (ends_at (omega arith) (λ _. same_point (opens m) {t = t + 1 + sizes passes + 1 + 1} {u = t + (1 + (sizes passes + 2))} (omega arith) refl)
      (does_then (does_me (opens m) t [] h.0 x.is_this)
      (λ _. does_where (λ vs. length vs ≡ count passes) (passes_on lay passes m (t + 1) (f.me ∷ []) small sound (covers e) (stands_front prog f (t + 1) _ _ h.1)) (values_count prog f passes)
      (λ vs len. does_skip {w = λ _. point (opens m) (t + 1 + sizes passes + 1 + 1) []}
      (entered_with (t + 1 + sizes passes) vs k.0 u.0 len last.0 k.1 u.1 (user_above e) there)
      (λ w. does_pop (opens m) (t + 1 + sizes passes + 1) [] w w last.1.0)))))
    where
      entered_with : (t : ℕ) (vs : List Value) (k : Class) (u : UnitId) → length vs ≡ count passes → slice_get f.unit.code t ≡ Some (CallStatic (constructor_number p (class_above p class)) (suc (count passes)))
          → slice_get p.classes (class_above p class) ≡ Some k → slice_get prog.pool.statics (constructor_number p (class_above p class)) ≡ Some u → 7 ≤ class_above p class
          → constructor_at (class_above p class) ≡ Some (the_constructor (class_above p class))
          → Does prog f 1 (point (opens m) t (f.me ∷ vs)) (entered prog f (running (the_constructor (class_above p class)) f.me vs)) (λ w. point (opens m) (t + 1) (w ∷ []))
      entered_with t vs k u len at is static big there = record {
        does = λ slots r fits.
            let takes : ConstructorAccepts (length vs) k.constructor =
            subst (λ j. ConstructorAccepts j k.constructor) (sym len) (subst (ConstructorAccepts (count passes)) (ap (option_and_then (λ (k : Class). k.constructor)) is) accepts) in
            enter_leads (opens m) t [] (f.me ∷ vs) (constructor_number p (class_above p class)) (suc (count passes)) u (running (the_constructor (class_above p class)) f.me vs) at (ap suc len) static
            (of_constructor big is static takes) slots r fits (constructors_may_enter p prog.sound r.store.heap f.me class (the_constructor (class_above p class)) (me_of fits) there);
      }

  -- ---- its body

  -- `return` in a constructor answers its object
  with_object : Leaving prog f (Pop ∷ Local 0 ∷ Return ∷ []) (λ _. f.me)
  with_object = record { leaving = λ m t v h. (t + 1 + 1, 2, refl, h.1.1.0, does_then {n = pure (tt {0})} (does_pop (opens m) t [] v null h.0) (λ _. answers_me m (t + 1) h.1.0)) }
    where
      re_pure : {A B : Type 0} {a : ℕ} {y : Point} {t : Point} (u : A) (v : B) → Does prog f a y (pure u) (λ _. t) → Does prog f a y (pure v) (λ _. t)
      re_pure u v w = record { does = λ slots r h. w.does slots r h }

      answers_me : (m t : ℕ) → slice_get f.unit.code t ≡ Some (Local 0) → Does prog f 1 (point (opens m) t []) (pure (tt {0})) (λ _. point (opens m) (t + 1) (f.me ∷ []))
      answers_me m t at = re_pure f.me (tt {0}) (does_me (opens m) t [] at x.is_this)

  -- where a constructor ends without `return`
  ends_me : (j end before : ℕ) (s : State) (q : Run Value) → slice_get f.unit.code end ≡ Some (Local 0) → slice_get f.unit.code (end + 1) ≡ Some Return
      → Reaches prog f end before s (point (opens j) end []) q → AtReturn prog f (λ v. v) prog.pays before s (λ _. Unit {0}) f.me q
  ends_me j end before s q at last l = record {
    vars = j;
    open_here = tt;
    place = end + 1;
    code = last;
    slots = l.slots;
    count = l.count + 1;
    fits = l.fits;
    comes = comes_on prog l.comes (comes_one prog (lands prog f (point (opens j) end []) l.slots q.store) (lands prog f (point (opens j) (end + 1) (f.me ∷ [])) l.slots q.store) (local_is prog f (point (opens j) end []) l.slots q.store 0 f.me l.fits.size at (l.fits.this x.is_this)));
    bound = omega (arith, l.bound, slice_get_within f.unit.code (end + 1) Return last, f.paid);
    fewer = l.fewer;
  }

  -- from a constructor's body on
  constructor_rest : (all : Stas) (m body_at end before : ℕ) (s : State) → end ≡ body_at + stas_size 3 all → m ≤ lay.most → RoomyAll lay.most m all → SoundStas p f.here false m false all → CoversStas (Has lay) lay.room all
      → Stands prog f body_at (d.stas p lay.constant f.first f.scratch (Pop ∷ Local 0 ∷ Return ∷ []) all m end end body_at ++ (Local 0 ∷ Return ∷ []))
      → (q : Run Value) → Reaches prog f body_at before s (point (opens m) body_at []) q → Runs prog f before s (and_then (n.doing_all p (entered prog f) all q) (λ _. pure f.me))
  constructor_rest all m body_at end before s is_end small roomy sound covers h q l =
      on_flow (n.doing_all p (entered prog f) all q)
      (flow_from prog f (λ _. f.me) (stas_size 3 all) q.store.turns end before l.count s (lands prog f (point (opens m) body_at []) l.slots q.store) (λ j. m ≤ j) (λ j. m ≤ j) (all_after m all) end end end l.comes (omega (arith, l.bound, is_end)) l.fewer (λ j w. w)
      (n.doing_all p (entered prog f) all q)
      ((flow_more (omega arith) (sym is_end) (does_stas lay false (Pop ∷ Local 0 ∷ Return ∷ []) (λ _. f.me) with_object all m body_at end end false small roomy sound covers (stands_front prog f body_at _ _ h))).flows l.slots q l.fits))
    where
      behind : Stands prog f end (Local 0 ∷ Return ∷ [])
      behind = stands_back prog f body_at end _ _ (ap (λ k. body_at + k) (stas_length p lay.constant f.first f.scratch (Pop ∷ Local 0 ∷ Return ∷ []) all m end end body_at) ∙ sym is_end) h

      room : end ≤ prog.pays
      room = omega (arith, slice_get_within f.unit.code (end + 1) Return behind.1.0, f.paid)

      on_flow : (y : Result Value Flow) → FlowLeads prog f (λ _. f.me) end before s (λ j. m ≤ j) (all_after m all) end end end y → Runs prog f before s (and_then y (λ _. pure f.me))
      on_flow (went onward q) l = finishes_at before s (λ _. Unit {0}) f.me q (ends_me (all_after m all) end before s q behind.0 behind.1.0 l)
      on_flow (went broke q) l = finishes_at before s (λ _. Unit {0}) f.me q (ends_me l.vars end before s q behind.0 behind.1.0 l.reaches)
      on_flow (went continued q) l = finishes_at before s (λ _. Unit {0}) f.me q (ends_me l.vars end before s q behind.0 behind.1.0 l.reaches)
      on_flow (went (returned v) q) l = finishes_at before s (λ _. Unit {0}) f.me q (at_more end before s (λ j. m ≤ j) f.me q room l)
      on_flow (ended d q) l = record { count = l.count; ends = l.ends; bound = omega (arith, l.bound, room) }

  -- The whole of a constructor, with its parameters open.
  pub does_constructor : (sets : List (Option ℕ)) (passes : Exps) (all : Stas) (args : List Value) (m : ℕ) → length args ≡ length sets → m ≤ lay.most → RoomyAll lay.most m all → SoundStas p f.here false m false all → CoversStas (Has lay) lay.room all
      → ConstructorAccepts (count passes) (constructor_of p (class_above p class)) → AllSound p None m passes → (nat_eq (class_above p class) 0 ≡ false → CoversAll (Has lay) lay.room passes)
      → ((j field : ℕ) → slice_get sets j ≡ Some (Some field) → Declares p class field)
      → Stands prog f 0 (d.constructor_code p lay.constant f.first f.scratch (class_above p class) sets passes all m)
      → (slots : List Value) (r : Run Value) → Fits prog f (opens m) slots r → ((j : ℕ) (v : Value) → slice_get args j ≡ Some v → slice_get slots (f.first + j) ≡ Some v)
      → Runs prog f r.store.turns (lands prog f (point (opens m) 0 []) slots r.store) (n.building p (entered prog f) class sets passes all f.me args r)
  does_constructor sets passes all args m len small roomy sound covers accepts passes_sound passes_cover declared h slots r fits args_at =
      let above : ℕ = class_above p class in
      let sets_end : ℕ = sets_size sets in
      let body_at : ℕ = sets_end + above_size above passes in
      let end : ℕ = body_at + stas_size 3 all in
      let at_end : 0 + length (d.sets_code p lay.constant f.first f.scratch sets f.first) ≡ sets_end = omega (arith, sets_length p lay.constant f.first f.scratch sets f.first) in
      let h0 = stands_back prog f 0 sets_end _ _ at_end h in
      let h1 = stands_back prog f sets_end body_at _ _ (ap (λ k. sets_end + k) (above_length p lay.constant f.first f.scratch (nat_eq above 0) above passes sets_end)) h0 in
      let s : State = lands prog f (point (opens m) 0 []) slots r.store in
      let set_all : Result Value (Unit {0}) = n.set_fields p (entered prog f) f.me sets args r in
      subst (λ y. Runs prog f r.store.turns s y) (regrouped_building set_all (n.values p (entered prog f) passes) (calls.construct (run.calling prog f) (constructor_at above) f.me) (λ _. n.doing_all p (entered prog f) all >> pure f.me))
      (from_above body_at end h1 refl (and_then set_all (λ _. passing))
      (on_sets sets_end (above_does (nat_eq above 0) passes m sets_end refl accepts small passes_sound passes_cover (stands_front prog f sets_end _ _ h0)) set_all
      (sets_lead sets args f.first m 0 sets_end len (omega arith) (stands_front prog f 0 _ _ h) declared slots r fits args_at)))
    where
      passing : M Value Value
      passing = n.values p (entered prog f) passes >>= calls.construct (run.calling prog f) (constructor_at (class_above p class)) f.me

      on_sets : (at : ℕ) → Does prog f (above_size (class_above p class) passes) (point (opens m) at []) passing (λ _. point (opens m) (at + above_size (class_above p class) passes) [])
          → (y : Result Value (Unit {0})) → Leads prog f (sets_size sets) r.store.turns (lands prog f (point (opens m) 0 []) slots r.store) (λ _. point (opens m) at []) y
          → Leads prog f (sets_size sets + above_size (class_above p class) passes) r.store.turns (lands prog f (point (opens m) 0 []) slots r.store) (λ _. point (opens m) (at + above_size (class_above p class) passes) []) (and_then y (λ _. passing))
      on_sets at w (went tt q) l = leads_on (sets_size sets) (above_size (class_above p class) passes) r.store.turns _ (point (opens m) at []) q (λ _. point (opens m) (at + above_size (class_above p class) passes) []) l (passing q) (w.does l.slots q l.fits)
      on_sets at w (ended e q) l = stops_more prog f (sets_size sets) (sets_size sets + above_size (class_above p class) passes) r.store.turns _ e q (omega arith) l

      from_above : (body_at end : ℕ) → Stands prog f body_at (d.stas p lay.constant f.first f.scratch (Pop ∷ Local 0 ∷ Return ∷ []) all m end end body_at ++ (Local 0 ∷ Return ∷ [])) → end ≡ body_at + stas_size 3 all
          → (y : Result Value Value) → Leads prog f body_at r.store.turns (lands prog f (point (opens m) 0 []) slots r.store) (λ _. point (opens m) body_at []) y
          → Runs prog f r.store.turns (lands prog f (point (opens m) 0 []) slots r.store) (and_then y (λ _. n.doing_all p (entered prog f) all >> pure f.me))
      from_above body_at end h is_end (went v q) l = constructor_rest all m body_at end r.store.turns (lands prog f (point (opens m) 0 []) slots r.store) is_end small roomy sound covers h q l
      from_above body_at end h is_end (ended d_ q) l = record {
        count = l.count;
        ends = l.ends;
        bound = omega (
          arith,
          l.bound,
          is_end,
          f.paid,
          slice_get_within f.unit.code (end + 1) Return
              (stands_back prog f body_at end _ _ (ap (λ k. body_at + k) (stas_length p lay.constant f.first f.scratch (Pop ∷ Local 0 ∷ Return ∷ []) all m end end body_at) ∙ sym is_end) h).1.0,
        );
      }

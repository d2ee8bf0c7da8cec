-- Entries of every depth: a unit that is entered does what its entry does, by induction on the levels that are left.
use Rattle.std.proofs.Common.{◌≡◌, ℕ, zero, suc, ◌+◌, ◌-◌, ◌≤◌, List, [], ◌∷◌, ◌++◌, length, take, reverse, refl, sym, ap, ◌∙◌, subst, arith, length-append, append-nil}
use Rattle.std.specs.Prelude.{Bool, true, false, nat_lt, slice_get, option_map, option_and_then, Option, Some, None, IsTrue, is_some}
use Rattle.std.proofs.lemmas.Bool.{lt-ltb, ltb-true}
use Rattle.program.specs.declared.literal.Literal.{Literal}
use Rattle.program.specs.declared.body.Body.{Body}
use Rattle.program.specs.declared.numbered.Class.{Class}
use Rattle.program.specs.declared.numbered.Constructor.{Constructor}
use Rattle.program.specs.declared.numbered.Method.{Method}
use Rattle.program.specs.declared.numbered.MethodBody.TheVariants as does
use Rattle.program.specs.Parts.{Parts}
use Rattle.program.specs.Sound.{ConstructorAccepts}
use Rattle.program.specs.Whole.{IsSound, IsFunction, SoundCode}
use Rattle.dart_values.specs.Values.{Value}
use Rattle.dart_meaning.specs.Calls as calls
use Rattle.dart_meaning.specs.Entry.{greatest_depth}
use Rattle.dart_meaning.specs.Numbered as n
use Rattle.dart_meaning.specs.Numbered.{the_function, the_method, the_constructor, coded_at, function_coded, with_code, constructor_of, parameters}
use Rattle.dart_meaning.specs.Program.{Entry}
use Rattle.dart_meaning.specs.Run.{Run, Result, went, ended, M, and_then, stop, spend, spend_from, framed, out_of_turns, stack_overflow, choose}
use Rattle.meaning_laws.specs.Laws as laws
use Rattle.meaning_laws.specs.ThisLaws.{IsOf}
use Rattle.meaning_laws.proofs.Follows.{follows}
use Rattle.code_unit.specs.declared.unit.Unit.{Unit as CodeUnit}
use Rattle.code_pool.specs.Pool.{Pool}
use Rattle.code_pool.specs.Machine as machine
use Rattle.code_pool.specs.Machine.{Frame, State, to, over, after, accepts, filled_in, begin}
use Rattle.program_code.specs.IsCode.{IsCode, required_of, defaults_of, sets_of, passes_of, body_of}
use Rattle.machine_runs.proofs.Lists.{get_right, below_last}
use Rattle.machine_runs.proofs.Loaded.{Loaded, answers, method_facts}
use Rattle.machine_runs.proofs.Runs.{worth, worth_suc, worth_mono, goes, comes_one, comes_on, comes_to_end, ends_one, bare}
use Rattle.machine_runs.proofs.Calls.{Ready, CallLeads, resumed, UnitOf, of_function, of_method, of_constructor, of_list, Enters}
use Rattle.code_meaning.proofs.Bodies.{BodyLeads}
use Rattle.code_meaning.proofs.Parameters.{nulls, Takes, takes_them, fills_them, parameters_length}
use Rattle.code_meaning.proofs.Units.{Pays, loaded, begins_at, IsBody, function_unit, method_unit, body_leads, IsConstructor, constructor_unit, constructor_leads, IsList, list_unit, list_leads}

last_caller : (cs : List Frame) (c : Frame) → slice_get (cs ++ c ∷ []) (length (cs ++ c ∷ []) - 1) ≡ Some c
last_caller cs c =
    let e : length (cs ++ c ∷ []) - 1 ≡ length cs + 0 = omega (arith, length-append cs (c ∷ [])) in
    ap (slice_get (cs ++ c ∷ [])) e ∙ get_right cs (c ∷ []) 0

not_less : (a c : ℕ) → c ≤ a → nat_lt a c ≡ false
not_less a c h = told_by (nat_lt a c) refl
  where
    told_by : (b : Bool) → nat_lt a c ≡ b → b ≡ false
    told_by true e = absurd (omega (arith, ltb-true a c e, h))
    told_by false e = refl

-- the callers of a unit that is entered
abbrev waiting : State → List Frame
waiting s = s.callers ++ record s.frame { place = s.frame.place + 1 } ∷ []

-- a run with a turn less
abbrev spent : Run Value → ℕ → Run Value
spent r k = record r { store = record r.store { turns = k } }

module _ (prog : Loaded) where
  -- the body's answer goes to the caller
  finish : (s0 s : State) (below : List Value) (r : Run Value) (k : ℕ) (s1 : State) → r.store.turns ≡ suc k → goes prog s0 ≡ to s1 → (y : Result Value Value) → BodyLeads prog k s1 below (waiting s) (spent r k).store y
      → CallLeads prog s0 s below r (and_then y (λ a q. went a (record q { vars = r.vars; this = r.this })))
  finish s0 s below r k s1 turns first_step (went w q) l =
      let fr : Frame = record s.frame { place = s.frame.place + 1 } in
      let caller : slice_get l.last.callers (length l.last.callers - 1) ≡ Some fr =
      ap (λ cs. slice_get cs (length cs - 1)) l.callers_are ∙ last_caller s.callers fr in
      let others : take (length l.last.callers - 1) l.last.callers ≡ s.callers = ap (λ cs. take (length cs - 1) cs) l.callers_are ∙ below_last s.callers (fr ∷ []) 1 refl in
      let back : goes prog l.last ≡ to (resumed prog s below w q.store) =
      l.leaves ∙ rw caller (ap (λ cs. to (record { frame = fr; callers = cs; values = below ++ w ∷ []; store = l.last.store })) others
      ∙ ap (λ st. to (record { frame = fr; callers = s.callers; values = below ++ w ∷ []; store = st })) l.store_is) in
      record {
        count = 1 + l.count + 1;
        comes = comes_on prog (comes_on prog (comes_one prog s0 s1 first_step) l.comes) (comes_one prog l.last (resumed prog s below w q.store) back);
        bound = omega (arith, l.bound, ap (worth prog.pays) turns, worth_suc prog.pays k);
        vars = refl;
        this = refl;
        follows = (follows prog.p).on r.store (spent r k).store q.store ((follows prog.p).turns r.store k turns) l.follows;
      }
  finish s0 s below r k s1 turns first_step (ended d q) l = record {
    count = 1 + l.count;
    ends = comes_to_end prog (comes_one prog s0 s1 first_step) l.ends;
    bound = omega (arith, l.bound, ap (worth prog.pays) turns, worth_suc prog.pays k);
  }

  -- what follows an entry: its turn, and then its depth
  begins : (s0 s : State) (u : ℕ) (unit : CodeUnit) (below args : List Value) (r : Run Value) → goes prog s0 ≡ machine.enter prog.p prog.pool (answers prog) u s below args → s.store ≡ r.store
      → slice_get prog.pool.units u ≡ Some unit → accepts unit (length args) ≡ true
      → goes prog s0 ≡ after s (spend_from r.store.turns (bare r.store)) (λ _ q. choose (nat_lt (length q.callers + 1) greatest_depth) (begin u unit q below args) (over stack_overflow q.store))
  begins s0 s u unit below args r e store there len = e ∙ rw (there, len, store) refl

  -- A unit that takes these values is entered, spends its turn, and does what a frame of its own does.
  entered_as : (left u : ℕ) (unit : CodeUnit) → slice_get prog.pool.units u ≡ Some unit → (ws all : List Value) → accepts unit (length ws) ≡ true → filled_in unit ws ≡ all → (s0 s : State) (below : List Value) (r : Run Value)
      → goes prog s0 ≡ machine.enter prog.p prog.pool (answers prog) u s below ws → s.store ≡ r.store → length s.callers + 1 + suc left ≡ greatest_depth → (vars : List Value) (me : Value) (m : M Value Value)
      → ((k : ℕ) → r.store.turns ≡ suc k → length (waiting s) + 1 + left ≡ greatest_depth
      → BodyLeads prog k (begins_at u below (waiting s) (all ++ nulls unit) (spent r k).store) below (waiting s) (spent r k).store (m (record (spent r k) { vars = vars; this = me })))
      → CallLeads prog s0 s below r (and_then (spend r) (λ _. framed vars me m))
  entered_as left u unit there ws all len fills s0 s below r e store depth vars me m leads = turned (begins s0 s u unit below ws r e store there len) r.store.turns refl
    where
      turned : goes prog s0 ≡ after s (spend_from r.store.turns (bare r.store)) (λ _ q. choose (nat_lt (length q.callers + 1) greatest_depth) (begin u unit q below ws) (over stack_overflow q.store))
          → (k : ℕ) → r.store.turns ≡ k → CallLeads prog s0 s below r (and_then (spend_from k r) (λ _. framed vars me m))
      turned i zero turns = record { count = 1; ends = ends_one prog s0 out_of_turns r.store (i ∙ rw turns refl); bound = omega arith }
      turned i (suc k) turns =
          let s1 : State = begins_at u below (waiting s) (all ++ nulls unit) (spent r k).store in
          let deep_enough : nat_lt (length s.callers + 1) greatest_depth ≡ true = lt-ltb (length s.callers + 1) greatest_depth (omega (arith, depth)) in
          let first_step : goes prog s0 ≡ to s1 =
          i ∙ rw turns (rw (deep_enough, fills) (ap (λ l. to (record { frame = record { unit = u; place = 0; base = length below }; callers = waiting s; values = l; store = (spent r k).store })) (sym (append-nil (below ++ (all ++ nulls unit)))))) in
          let deeper : length (waiting s) + 1 + left ≡ greatest_depth = omega (arith, depth, length-append s.callers (record s.frame { place = s.frame.place + 1 } ∷ [])) in
          finish s0 s below r k s1 turns first_step (m (record (spent r k) { vars = vars; this = me })) (leads k turns deeper)

  -- With no level left the entry is a StackOverflow.
  overflow : (s0 s : State) (u : ℕ) (unit : CodeUnit) (below args : List Value) (r : Run Value)
      → goes prog s0 ≡ after s (spend_from r.store.turns (bare r.store)) (λ _ q. choose (nat_lt (length q.callers + 1) greatest_depth) (begin u unit q below args) (over stack_overflow q.store))
      → length s.callers + 1 + 0 ≡ greatest_depth → (k : ℕ) → r.store.turns ≡ k → CallLeads prog s0 s below r (and_then (spend_from k r) (λ _. stop stack_overflow))
  overflow s0 s u unit below args r e depth zero turns = record { count = 1; ends = ends_one prog s0 out_of_turns r.store (e ∙ rw turns refl); bound = omega arith }
  overflow s0 s u unit below args r e depth (suc k) turns =
      let deepest : nat_lt (length s.callers + 1) greatest_depth ≡ false = not_less (length s.callers + 1) greatest_depth (omega (arith, depth)) in
      record {
        count = 1;
        ends = ends_one prog s0 stack_overflow (spent r k).store (e ∙ rw turns (rw deepest refl));
        bound = omega (arith, worth_mono prog.pays k r.store.turns (omega (arith, turns)));
      }

-- with a turn less a run is as good
good_spent : {p : Parts} (r : Run Value) (k : ℕ) → laws.Runs p r → laws.Runs p (spent r k)
good_spent r k h = record { heap = h.heap; globals = h.globals }

module _ (p : Parts) (sound : IsSound p) (pool : Pool) (constant : Literal → ℕ) (code : IsCode p pool constant) (pays : ℕ) (w : Pays p pool constant pays) where
  abbrev prog : Loaded
  prog = loaded p sound pool constant code pays

  -- ---- what each unit takes

  takes_body : (of_this : Bool) (b : Body) (required : ℕ) (defaults : List Literal) (u : ℕ) (H : IsBody p pool constant of_this b required defaults u) → Takes of_this H.unit required defaults
  takes_body of_this b required defaults u H = record { params = H.is.takes; defaults_are = H.is.defaults_are; enough = omega (arith, H.is.takes, H.is.apart, H.is.spares, H.is.small) }

  takes_constructor : (class : ℕ) (o : Option Constructor) (u : ℕ) (H : IsConstructor p pool constant class o u) → Takes true H.unit (required_of o) (defaults_of o)
  takes_constructor class o u H = record { params = H.is.takes; defaults_are = H.is.defaults_are; enough = omega (arith, H.is.takes, H.is.apart, H.is.spares, H.is.small) }

  takes_list : (u : ℕ) (H : IsList p pool constant u) → Takes true H.unit 0 []
  takes_list u H = record { params = H.is.takes ∙ omega arith; defaults_are = H.is.defaults_are; enough = omega (arith, H.is.takes, H.is.three) }

  takes_within : (n_ : ℕ) (o : Option Constructor) → ConstructorAccepts n_ o → (required_of o ≤ n_) × (n_ ≤ required_of o + length (defaults_of o))
  takes_within n_ None h = (omega arith, omega (arith, h))
  takes_within n_ (Some b) h = h

  -- the unit of an entry, and that it accepts the values
  unit_is : {x : Entry n.Code} {u : ℕ} {args : List Value} → UnitOf prog x u args → (unit : CodeUnit) × (slice_get pool.units u ≡ Some unit) × (accepts unit (length args) ≡ true)
  unit_is (of_function {f = f} {k = k} {u = u} {me = me} {args = args} there static a) =
      let H = function_unit p sound pool constant code pays f k u there static in
      (H.unit, H.there, takes_them false H.unit k.required k.defaults (takes_body false k.body k.required k.defaults u.0 H) me args a.0 a.1)
  unit_is (of_method {m = m} {k = k} {b = b} {u = u} {me = me} {args = args} there is at a) =
      let H = method_unit p sound pool constant code pays m k b u there is at in
      (H.unit, H.there, takes_them true H.unit k.required k.defaults (takes_body true b k.required k.defaults u.0 H) me args a.0 a.1)
  unit_is (of_constructor {class = class} {k = k} {u = u} {me = me} {args = args} big there static a) =
      let H = constructor_unit p sound pool constant code pays class k u big there static in
      let fits = takes_within (length args) k.constructor a in
      (H.unit, H.there, takes_them true H.unit (required_of k.constructor) (defaults_of k.constructor) (takes_constructor class k.constructor u.0 H) me args fits.0 fits.1)
  unit_is (of_list {u = u} {v = v} at) =
      let H = list_unit p sound pool constant code pays u at in
      (H.unit, H.there, takes_them true H.unit 0 [] (takes_list u.0 H) v [] (omega arith) (omega arith))

  -- ---- what is entered, as the meaning says it

  -- a constructor, written or not
  constructs_as : (left class : ℕ) (me : Value) (args : List Value) (o : Option Constructor) → ConstructorAccepts (length args) o
      → n.build p (n.enter p left) class (sets_of o) (passes_of o) (body_of o) me (parameters (required_of o) (defaults_of o) args) ≡ n.construct p (n.enter p left) class o me args
  constructs_as left class me [] None h = refl
  constructs_as left class me (v ∷ args) None h = absurd (omega (arith, h))
  constructs_as left class me args (Some b) h = refl

  enters_body : (left : ℕ) → Enters prog left → (x : Entry n.Code) (u : ℕ) (args : List Value) → UnitOf prog x u args → (s0 s : State) (below : List Value) (r : Run Value) → goes prog s0 ≡ machine.enter p pool (answers prog) u s below args
      → s.store ≡ r.store → laws.Runs p r → Ready p r.store.heap x → length s.callers + 1 + suc left ≡ greatest_depth → CallLeads prog s0 s below r (and_then (spend r) (λ _. n.inside p (n.enter p left) x))
  enters_body left next x u ws (of_function {f = f} {k = k} {u = i} {me = me} {args = args} there static a) s0 s below r e store good ready depth =
      let H = function_unit p sound pool constant code pays f k i there static in
      let T = takes_body false k.body k.required k.defaults i.0 H in
      let vs : List Value = parameters k.required k.defaults args in
      subst (λ o. CallLeads prog s0 s below r (and_then (spend r) (λ _. n.run_coded p (n.enter p left) o me args))) (sym (ap (option_map function_coded) there))
      (entered_as prog left i.0 H.unit H.there args vs (takes_them false H.unit k.required k.defaults T me args a.0 a.1) (fills_them false H.unit k.required k.defaults T me args a.0 a.1) s0 s below r e store depth (reverse vs) me (n.body_value p (n.enter p left) k.body)
      (λ t turns deeper. body_leads p sound pool constant code pays left next false k.body k.required k.defaults i.0 H (w.functions f k i.0 there H) None (λ h. absurd (no_class h)) (subst (IsFunction p) there (sound.functions f)) me vs (parameters_length k.required k.defaults args a.1) below (waiting s) (spent r t) (good_spent r t good) tt deeper))
    where
      no_class : IsTrue (is_some {T = ℕ} None) → ⊥
      no_class h = cc
  enters_body left next x u ws (of_method {m = m} {k = k} {b = b} {u = i} {me = me} {args = args} there is at a) s0 s below r e store good ready depth =
      let H = method_unit p sound pool constant code pays m k b i there is at in
      let T = takes_body true b k.required k.defaults i.0 H in
      let vs : List Value = parameters k.required k.defaults args in
      let sc : SoundCode p m k (does.Code b) = subst (SoundCode p m k) is (method_facts p sound m k there).code in
      let me_of : IsOf p r.store.heap (Some k.owner.0) me = subst (λ (o : Option Method). IsOf p r.store.heap (option_map (λ (k : Method). k.owner.0) o) me) there ready in
      subst (λ o. CallLeads prog s0 s below r (and_then (spend r) (λ _. n.run_coded p (n.enter p left) o me args))) (sym (ap (option_and_then (λ (k : Method). with_code k.required k.defaults k.body)) there ∙ ap (with_code k.required k.defaults) is))
      (entered_as prog left i.0 H.unit H.there (me ∷ args) (me ∷ vs) (takes_them true H.unit k.required k.defaults T me args a.0 a.1) (fills_them true H.unit k.required k.defaults T me args a.0 a.1) s0 s below r e store depth (reverse vs) me (n.body_value p (n.enter p left) b)
      (λ t turns deeper. body_leads p sound pool constant code pays left next true b k.required k.defaults i.0 H (w.methods m k b i.0 there is H) (Some k.owner.0) (λ h. refl) sc.1 me vs (parameters_length k.required k.defaults args a.1) below (waiting s) (spent r t) (good_spent r t good) me_of deeper))
  enters_body left next x u ws (of_constructor {class = class} {k = k} {u = i} {me = me} {args = args} big there static a) s0 s below r e store good ready depth =
      let H = constructor_unit p sound pool constant code pays class k i big there static in
      let o : Option Constructor = k.constructor in
      let fits = takes_within (length args) o a in
      let T = takes_constructor class o i.0 H in
      let vs : List Value = parameters (required_of o) (defaults_of o) args in
      subst (λ m. CallLeads prog s0 s below r (and_then (spend r) (λ _. m)))
      (constructs_as left class me args o a ∙ ap (λ o. n.construct p (n.enter p left) class o me args) (sym (ap (option_and_then (λ (k : Class). k.constructor)) there)))
      (entered_as prog left i.0 H.unit H.there (me ∷ args) (me ∷ vs) (takes_them true H.unit (required_of o) (defaults_of o) T me args fits.0 fits.1) (fills_them true H.unit (required_of o) (defaults_of o) T me args fits.0 fits.1) s0 s below r e store depth (reverse vs) me
      (n.building p (n.enter p left) class (sets_of o) (passes_of o) (body_of o) me vs)
      (λ t turns deeper. constructor_leads p sound pool constant code pays left next class k i.0 big there H (w.constructors class k i.0 there H) me vs (parameters_length (required_of o) (defaults_of o) args fits.1) below (waiting s) (spent r t) (good_spent r t good) ready deeper))
  enters_body left next x u ws (of_list {u = i} {v = v} at) s0 s below r e store good ready depth =
      let H = list_unit p sound pool constant code pays i at in
      let T = takes_list i.0 H in
      entered_as prog left i.0 H.unit H.there (v ∷ []) (v ∷ []) (takes_them true H.unit 0 [] T v [] (omega arith) (omega arith)) (fills_them true H.unit 0 [] T v [] (omega arith) (omega arith)) s0 s below r e store depth [] v (calls.list_text (n.world p (n.enter p left)) v)
      (λ t turns deeper. list_leads p sound pool constant code pays left next i.0 H (w.lists i.0 H) v below (waiting s) (spent r t) (good_spent r t good) ready deeper)

  -- Each entry does what its unit does, with every number of levels left.
  pub deep : (left : ℕ) → Enters prog left
  unfolding n.enter
  deep zero = record {
    enters = λ x u args is s0 s below r e store good ready depth.
        let i = unit_is is in
        overflow prog s0 s u i.0 below args r (begins prog s0 s u i.0 below args r e store i.1 i.2) depth r.store.turns refl;
  }
  deep (suc left) = record { enters = λ x u args is s0 s below r e store good ready depth. enters_body left (deep left) x u args is s0 s below r e store good ready depth }

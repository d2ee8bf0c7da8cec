-- The units of a pool that is the code of a program, each from its beginning on.
use Rattle.std.proofs.Common.{◌≡◌, ℕ, suc, ◌+◌, ◌<◌, ◌≤◌, List, [], ◌∷◌, ◌++◌, length, reverse, map, refl, sym, ap, ◌∙◌, subst, arith}
use Rattle.std.specs.Prelude.{Bool, true, false, nat_eq, IsTrue, is_some, slice_get, unwrap_or, option_map, option_and_then, Option, Some, None}
use Rattle.std.proofs.lemmas.List.{length-map}
use Rattle.std.proofs.lemmas.Bool.{eqb-true}
use Rattle.std.proofs.lemmas.Option.{slice_get-map, slice_get_within}
use Rattle.program.specs.declared.ids.ClassId.{ClassId}
use Rattle.program.specs.declared.ids.UnitId.{UnitId}
use Rattle.program.specs.declared.literal.Literal.{Literal}
use Rattle.program.specs.declared.body.Body.{Body}
use Rattle.program.specs.declared.numbered.Class.{Class}
use Rattle.program.specs.declared.numbered.Constructor.{Constructor}
use Rattle.program.specs.declared.numbered.Function.{Function}
use Rattle.program.specs.declared.numbered.Method.{Method}
use Rattle.program.specs.declared.numbered.MethodBody.{MethodBody}
use Rattle.program.specs.declared.numbered.MethodBody.TheVariants as does
use Rattle.program.specs.Bodies as c
use Rattle.program.specs.Bodies.{Exp, Exps, Stas, count}
use Rattle.program.specs.BuiltIn.{is_open}
use Rattle.program.specs.Hierarchy.{parent_in, follows as is_placed}
use Rattle.program.specs.Parts.{Parts, parents}
use Rattle.program.specs.Sound.{AllSound, SoundStas, SoundBody, ConstructorAccepts}
use Rattle.program.specs.Whole.{IsSound, IsClass, SoundClass, IsNamed, HasSoundConstructor, SetsField, Declares, SuperAccepts, passed}
use Rattle.dart_values.specs.Values.{Value, class_of}
use Rattle.dart_meaning.specs.Calls as calls
use Rattle.dart_meaning.specs.Calls.{list_to_string}
use Rattle.dart_meaning.specs.Entry.{greatest_depth}
use Rattle.dart_meaning.specs.Numbered as n
use Rattle.dart_meaning.specs.Numbered.{constructor_of, class_above}
use Rattle.dart_meaning.specs.Run.{Run, Store}
use Rattle.meaning_laws.specs.Laws as laws
use Rattle.meaning_laws.specs.ThisLaws.{IsOf}
use Rattle.code_pool.specs.declared.pool.MethodBody as pooled
use Rattle.code_pool.specs.declared.pool.MethodBody.TheVariants.{Code}
use Rattle.code_pool.specs.Pool.{Pool}
use Rattle.code_pool.specs.Machine.{Frame, State}
use Rattle.program_code.specs.Code as d
use Rattle.program_code.specs.IsCode.{unit_id, first_of, selector_of, passes_of, body_of, sets_of, required_of, defaults_of, BodyCode, ListCode, ConstructorCode, HasUnit, MethodCode, IsCode}
use Rattle.machine_runs.proofs.Loaded.{Loaded, Tables, HasMember, constructor_number, built_in_at, parent_is}
use Rattle.machine_runs.proofs.Calls.{Enters}
use Rattle.machine_runs.proofs.Points.{Activation, stands_all}
use Rattle.code_meaning.proofs.Layouts.{Layout}
use Rattle.code_meaning.proofs.Bodies.{BodyLeads, does_body}
use Rattle.code_meaning.proofs.ConstructorBodies.{Constructs, does_constructor}
use Rattle.code_meaning.proofs.ListText.{ListBody, does_list_text}
use Rattle.code_meaning.proofs.Parameters.{slots_of, slot_of, nulls, starts}

-- the slot of the first variable, behind `this`
this_first : (t : Bool) → t ≡ true → 1 ≤ first_of t
this_first true h = omega arith
this_first false h = let no_this : ◌≡◌ {A = Bool} false true = h in cc

-- the number of the unit that a member is
unit_of_member : Option pooled.MethodBody → ℕ
unit_of_member (Some (Code u)) = u.0
unit_of_member _ = 0

same_unit : {o : Option UnitId} (a : UnitId) (u : ℕ) → o ≡ Some a → o ≡ Some (unit_id u) → u ≡ a.0
same_unit a u e h = ap (λ (o : Option UnitId). (unwrap_or o a).0) (sym h ∙ e)

same_member : {o : Option pooled.MethodBody} (a : UnitId) (u : ℕ) → o ≡ Some (Code a) → o ≡ Some (Code (unit_id u)) → u ≡ a.0
unfolding unit_of_member
same_member a u e h = ap unit_of_member (sym h ∙ e)

-- the state where unit u begins, with these slots
abbrev pub begins_at : ℕ → List Value → List Frame → List Value → Store → State
begins_at u below callers slots s = record { frame = record { unit = u; place = 0; base = length below }; callers = callers; values = (below ++ slots) ++ []; store = s }

count_exps : (xs : List Exp) → count (c.exps xs) ≡ length xs
count_exps [] = refl
count_exps (x ∷ xs) = ap suc (count_exps xs)

-- ---- what a unit is

module _ (p : Parts) (pool : Pool) (constant : Literal → ℕ) where
  -- the code of a body
  abbrev pub IsBody : Bool → Body → ℕ → List Literal → ℕ → Type 0
  IsBody of_this b required defaults u = HasUnit p pool constant u (BodyCode p pool.constants constant of_this b required defaults)

  -- the code of a constructor
  abbrev pub IsConstructor : ℕ → Option Constructor → ℕ → Type 0
  IsConstructor class o u = HasUnit p pool constant u (ConstructorCode p pool.constants constant class o)

  -- the code of the text of a list
  abbrev pub IsList : ℕ → Type 0
  IsList u = HasUnit p pool constant u (ListCode p pool.constants constant)

  -- No unit of the program has more instructions than a turn pays for.
  pub record Pays (pays : ℕ) : Type 0 where
    pub functions : (f : ℕ) (k : Function) (u : ℕ) → slice_get p.functions f ≡ Some k → (H : IsBody false k.body k.required k.defaults u) → length H.unit.code ≤ pays
    pub methods : (m : ℕ) (k : Method) (b : Body) (u : ℕ) → slice_get p.methods m ≡ Some k → k.body ≡ does.Code b → (H : IsBody true b k.required k.defaults u) → length H.unit.code ≤ pays
    pub constructors : (class : ℕ) (k : Class) (u : ℕ) → slice_get p.classes class ≡ Some k → (H : IsConstructor class k.constructor u) → length H.unit.code ≤ pays
    pub lists : (u : ℕ) (H : IsList u) → length H.unit.code ≤ pays

module _ (p : Parts) (sound : IsSound p) (pool : Pool) (constant : Literal → ℕ) (code : IsCode p pool constant) (pays : ℕ) where
  member_of : (m : ℕ) (k : Method) (b : MethodBody) → MethodCode p pool constant m k b → HasMember pool m b
  member_of m k (does.Native x) h = (h.0, λ e. let u = h.1 e in (unit_id u.0, u.1))
  member_of m k (does.ReadField field) h = h
  member_of m k (does.WriteField field) h = h
  member_of m k (does.Code b) h = (unit_id h.0, h.1)

  -- the pool's lists are those of the program
  pub tables : Tables p pool
  tables = record {
    sites = λ s x e. ap (λ l. slice_get l s) code.sites ∙ slice_get-map selector_of p.sites s ∙ ap (option_map selector_of) e;
    functions = λ f k e. let u = code.functions f k e in (unit_id u.0, u.1);
    constructors = λ class big lt. let u = code.constructors class big lt in (unit_id u.0, u.1);
    methods = λ m k e. member_of m k k.body (code.methods m k e);
  }

  abbrev pub loaded : Loaded
  loaded = record { p = p; pays = pays; sound = sound; pool = pool; tables = tables }

  -- ---- bodies

  pub function_unit : (f : ℕ) (k : Function) (u : UnitId) → slice_get p.functions f ≡ Some k → slice_get pool.statics f ≡ Some u → IsBody p pool constant false k.body k.required k.defaults u.0
  function_unit f k u there static = let x = code.functions f k there in subst (IsBody p pool constant false k.body k.required k.defaults) (same_unit u x.0 static x.1) x.2

  pub method_unit : (m : ℕ) (k : Method) (b : Body) (u : UnitId) → slice_get p.methods m ≡ Some k → k.body ≡ does.Code b → slice_get pool.methods m ≡ Some (Code u) → IsBody p pool constant true b k.required k.defaults u.0
  method_unit m k b u there is at =
      let x = subst (MethodCode p pool constant m k) is (code.methods m k there) in
      subst (IsBody p pool constant true b k.required k.defaults) (same_member u x.0 at x.1) x.2

  -- a body, with its parameters filled in
  pub body_leads : (left : ℕ) → Enters loaded left → (of_this : Bool) (b : Body) (required : ℕ) (defaults : List Literal) (u : ℕ) (H : IsBody p pool constant of_this b required defaults u) → length H.unit.code ≤ pays → (here : Option ℕ) → (IsTrue (is_some here) → of_this ≡ true)
      → SoundBody p here (required + length defaults) b → (me : Value) (args : List Value) → length args ≡ required + length defaults → (below : List Value) (callers : List Frame) (r : Run Value) → laws.Runs p r → IsOf p r.store.heap here me
      → length callers + 1 + left ≡ greatest_depth
      → BodyLeads loaded r.store.turns (begins_at u below callers (slots_of of_this me args ++ nulls H.unit) r.store) below callers r.store (n.body_value p (n.enter p left) b (record r { vars = reverse args; this = me }))
  body_leads left next of_this b required defaults u H paid here this_is body_sound me args len below callers r good me_of depth =
      let k = H.is in
      let f : Activation loaded = record {
        number = u;
        unit = H.unit;
        there = H.there;
        paid = paid;
        slot_count_is = omega (arith, k.takes, k.apart, k.spares, k.small);
        first = first_of of_this;
        scratch = k.scratch;
        of_this = of_this;
        this_first = this_first of_this;
        here = here;
        this_is = this_is;
        me = me;
        begun = r.store;
        me_of = me_of;
        runs = record { heap = good.heap; globals = good.globals };
        below = below;
        callers = callers;
        left = left;
        depth = depth;
        deep = next;
      } in
      let lay : Layout loaded f = record { constant = constant; null_known = code.literals_there.null; most = k.most; room = k.room; apart = k.apart; spares = k.spares; rooms = k.rooms } in
      does_body lay b (required + length defaults) k.small k.roomy body_sound k.covers (stands_all loaded f [] (d.body_code p constant (first_of of_this) k.scratch b (required + length defaults)) k.code)
      (slots_of of_this me args ++ nulls H.unit) (record r { vars = reverse args; this = me })
      (starts loaded f of_this args (required + length defaults) r refl refl refl len k.takes (omega (arith, k.takes, k.apart, k.spares, k.small)))

  -- ---- constructors

  pub constructor_unit : (class : ℕ) (k : Class) (u : UnitId) → 7 ≤ class → slice_get p.classes class ≡ Some k → slice_get pool.statics (constructor_number p class) ≡ Some u → IsConstructor p pool constant class k.constructor u.0
  constructor_unit class k u big there static =
      let x = code.constructors class big (slice_get_within p.classes class k there) in
      subst (λ o. IsConstructor p pool constant class o u.0) (ap (option_and_then (λ (k : Class). k.constructor)) there) (subst (IsConstructor p pool constant class (constructor_of p class)) (same_unit u x.0 static x.1) x.2)

  -- what soundness says of a constructor, written or not
  record Fine (class : ℕ) (o : Option Constructor) : Type 0 where
    each : length (sets_of o) ≡ required_of o + length (defaults_of o)
    sets : (j field : ℕ) → slice_get (sets_of o) j ≡ Some (Some field) → Declares p class field
    passes : AllSound p None (required_of o + length (defaults_of o)) (passes_of o)
    body : SoundStas p (Some class) false (required_of o + length (defaults_of o)) false (body_of o)
    counted : passed o ≡ count (passes_of o)

  fine : (class : ℕ) (o : Option Constructor) → HasSoundConstructor p class o → Fine class o
  fine class None h = record { each = refl; sets = λ j field e. absurd (cc); passes = tt; body = tt; counted = refl }
  fine class (Some b) h = record {
    each = h.each;
    sets = λ j field e. subst (SetsField p class) e (h.sets j);
    passes = subst (λ i. AllSound p None i (c.exps (map c.exp b.passes))) h.each h.passes;
    body = subst (λ i. SoundStas p (Some class) false i false (c.stas (map c.sta b.body))) h.each h.body;
    counted = sym (count_exps (map c.exp b.passes) ∙ length-map b.passes c.exp);
  }

  -- the superclass of a class of the user's
  parent_of : (class : ℕ) (k : Class) → 7 ≤ class → slice_get p.classes class ≡ Some k → (q : ClassId) × (k.parent ≡ Some q) × (parent_in (parents p.classes) class ≡ Some q.0)
  parent_of class k big there = by_parent (parent_in (parents p.classes) class) refl
    where
      in_up : class < length (parents p.classes)
      in_up = omega (arith, slice_get_within p.classes class k there, length-map p.classes (λ (k : Class). option_map (λ (i : ClassId). i.0) k.parent))

      named : (q : ℕ) (o : Option ClassId) → k.parent ≡ o → option_map (λ (i : ClassId). i.0) o ≡ Some q → parent_in (parents p.classes) class ≡ Some q → (i : ClassId) × (k.parent ≡ Some i) × (parent_in (parents p.classes) class ≡ Some i.0)
      named q (Some i) e h up = (i, e, up ∙ sym h)
      named q None e h up = absurd (cc)

      by_parent : (o : Option ℕ) → parent_in (parents p.classes) class ≡ o → (i : ClassId) × (k.parent ≡ Some i) × (parent_in (parents p.classes) class ≡ Some i.0)
      by_parent (Some q) e =
          let f = parent_is p sound class q e in
          let same : f.0 ≡ k = ap (λ (o : Option Class). unwrap_or o k) (sym f.1 ∙ there) in
          named q k.parent refl (ap (λ (k : Class). option_map (λ (i : ClassId). i.0) k.parent) (sym same) ∙ f.2) e
      by_parent None e =
          let f : IsTrue (nat_eq class 0) = subst (λ o. IsTrue (is_placed (parents p.classes) class o)) e (sound.order.each class in_up) in
          absurd (omega (arith, eqb-true class 0 f, big))

  -- a constructor, with its parameters filled in
  pub constructor_leads : (left : ℕ) → Enters loaded left → (class : ℕ) (k : Class) (u : ℕ) → 7 ≤ class → slice_get p.classes class ≡ Some k → (H : IsConstructor p pool constant class k.constructor u) → length H.unit.code ≤ pays → (me : Value) (args : List Value)
      → length args ≡ required_of k.constructor + length (defaults_of k.constructor) → (below : List Value) (callers : List Frame) (r : Run Value) → laws.Runs p r → IsOf p r.store.heap (Some class) me → length callers + 1 + left ≡ greatest_depth
      → BodyLeads loaded r.store.turns (begins_at u below callers ((me ∷ args) ++ nulls H.unit) r.store) below callers r.store
      (n.building p (n.enter p left) class (sets_of k.constructor) (passes_of k.constructor) (body_of k.constructor) me args (record r { vars = reverse args; this = me }))
  constructor_leads left next class k u big there H paid me args len below callers r good me_of depth =
      let x = H.is in
      let o : Option Constructor = k.constructor in
      let params : ℕ = required_of o + length (defaults_of o) in
      let sc : SoundClass p class k = subst (IsClass p class) there (sound.classes class) in
      let fi : Fine class o = fine class o sc.constructor in
      let pa = parent_of class k big there in
      let above : class_above p class ≡ pa.0.0 = ap (λ o. unwrap_or o 0) pa.2 in
      let is_named : IsNamed p (Some pa.0) = subst (IsNamed p) pa.1 sc.parent in
      let f : Activation loaded = record {
        number = u;
        unit = H.unit;
        there = H.there;
        paid = paid;
        slot_count_is = omega (arith, x.takes, x.apart, x.spares, x.small);
        first = 1;
        scratch = x.scratch;
        of_this = true;
        this_first = λ e. omega arith;
        here = Some class;
        this_is = λ e. refl;
        me = me;
        begun = r.store;
        me_of = me_of;
        runs = record { heap = good.heap; globals = good.globals };
        below = below;
        callers = callers;
        left = left;
        depth = depth;
        deep = next;
      } in
      let lay : Layout loaded f = record { constant = constant; null_known = code.literals_there.null; most = x.most; room = x.room; apart = x.apart; spares = x.spares; rooms = x.rooms } in
      let of_class : Constructs loaded f class = record {
        holder = refl;
        is_this = refl;
        above_open = subst (λ q. IsTrue (is_open q)) (sym above) is_named.1;
        above_there = subst (λ q. q < length p.classes) (sym above) is_named.0;
      } in
      does_constructor lay class of_class (sets_of o) (passes_of o) (body_of o) args params (len ∙ sym fi.each) x.small x.roomy fi.body x.covers
      (subst (λ q. ConstructorAccepts (count (passes_of o)) (constructor_of p q)) (sym above) (subst (λ i. ConstructorAccepts i (constructor_of p pa.0.0)) fi.counted (subst (SuperAccepts p (passed o)) pa.1 sc.above)))
      fi.passes x.passes_cover fi.sets (stands_all loaded f [] (d.constructor_code p constant 1 x.scratch (class_above p class) (sets_of o) (passes_of o) (body_of o) params) x.code)
      ((me ∷ args) ++ nulls H.unit) (record r { vars = reverse args; this = me }) (starts loaded f true args params r refl refl refl len x.takes (omega (arith, x.takes, x.apart, x.spares, x.small)))
      (λ j v e. slot_of true me args (nulls H.unit) j (slice_get_within args j v e) ∙ e)

  -- ---- the text of a list

  pub list_unit : (u : UnitId) → slice_get pool.methods list_to_string ≡ Some (Code u) → IsList p pool constant u.0
  list_unit u at =
      let x = (code.methods list_to_string _ (built_in_at p sound list_to_string (omega arith))).1 refl in
      subst (IsList p pool constant) (same_member u x.0 at x.1) x.2

  pub list_leads : (left : ℕ) → Enters loaded left → (u : ℕ) (H : IsList p pool constant u) → length H.unit.code ≤ pays → (v : Value) (below : List Value) (callers : List Frame) (r : Run Value) → laws.Runs p r → class_of r.store.heap v ≡ 5 → length callers + 1 + left ≡ greatest_depth
      → BodyLeads loaded r.store.turns (begins_at u below callers ((v ∷ []) ++ nulls H.unit) r.store) below callers r.store (calls.list_text (n.world p (n.enter p left)) v (record r { vars = []; this = v }))
  list_leads left next u H paid v below callers r good of_list depth =
      let k = H.is in
      let f : Activation loaded = record {
        number = u;
        unit = H.unit;
        there = H.there;
        paid = paid;
        slot_count_is = omega (arith, k.takes, k.three);
        first = 1;
        scratch = 1;
        of_this = true;
        this_first = λ e. omega arith;
        here = None;
        this_is = λ e. refl;
        me = v;
        begun = r.store;
        me_of = tt;
        runs = record { heap = good.heap; globals = good.globals };
        below = below;
        callers = callers;
        left = left;
        depth = depth;
        deep = next;
      } in
      let lay : Layout loaded f = record { constant = constant; null_known = code.literals_there.null; most = 0; room = 0; apart = omega arith; spares = omega (arith, k.three); rooms = omega (arith, k.three) } in
      let body : ListBody loaded f lay = record { is_this = refl; of_list = of_list; scratch_is = refl; three = k.three; code = k.code; literals = code.literals_there } in
      does_list_text lay body ((v ∷ []) ++ nulls H.unit) (record r { vars = []; this = v }) (starts loaded f true [] 0 r refl refl refl refl (k.takes ∙ omega arith) (omega (arith, k.takes, k.three)))

-- A call of the machine does what the call of the meaning does, where the entries one level deeper do.
use Rattle.std.proofs.Common.{◌≡◌, ℕ, ◌+◌, ◌<◌, ◌≤◌, List, [], ◌∷◌, ◌++◌, length, refl, sym, ap, ◌∙◌, subst, arith}
use Rattle.std.specs.Prelude.{Bool, true, false, nat_eq, slice_get, option_map, option_and_then, unwrap_or, Option, Some, None}
use Rattle.std.proofs.lemmas.Bool.{lt-ltb, eq-eqb, eqb-true}
use Rattle.program.specs.declared.ids.UnitId.{UnitId}
use Rattle.program.specs.declared.body.Body.{Body}
use Rattle.program.specs.declared.numbered.Class.{Class}
use Rattle.program.specs.declared.numbered.Function.{Function}
use Rattle.program.specs.declared.numbered.Method.{Method}
use Rattle.program.specs.declared.numbered.MethodBody.{MethodBody}
use Rattle.program.specs.declared.numbered.MethodBody.TheVariants as does
use Rattle.program.specs.declared.numbered.Selector.{Selector}
use Rattle.program.specs.declared.numbered.Site.{Site}
use Rattle.program.specs.declared.numbered.Target as numbers
use Rattle.program.specs.declared.numbered.Target.TheVariants as target
use Rattle.program.specs.BuiltIn.{built_in_members}
use Rattle.program.specs.Lookup as lookup
use Rattle.program.specs.Parts.{Parts, parents, selector_at}
use Rattle.program.specs.Sound.{Accepts, ConstructorAccepts}
use Rattle.program.specs.Whole.{SoundCode, TakesByRole, Declares}
use Rattle.program.proofs.Intervals.{above_le}
use Rattle.dart_values.specs.Natives.{thing_at}
use Rattle.dart_values.specs.Reads.{field_of, object_fields}
use Rattle.dart_values.specs.Values as values
use Rattle.dart_values.specs.Values.{Value, null, Heap, list, invocation, class_of}
use Rattle.dart_meaning.specs.Calls as calls
use Rattle.dart_meaning.specs.Calls.{list_to_string, told_name}
use Rattle.dart_meaning.specs.Entry.{greatest_depth}
use Rattle.dart_meaning.specs.Numbered as n
use Rattle.dart_meaning.specs.Numbered.{the_function, the_method, the_constructor, of_numbered, method_found, world}
use Rattle.dart_meaning.specs.Program as prog_
use Rattle.dart_meaning.specs.Program.{Entry, running, listing, Found}
use Rattle.dart_meaning.specs.Run.{Run, Store, Ending, Result, went, ended, M, ◌>>◌, pure, look, set_field}
use Rattle.meaning_laws.specs.Laws.{last, Runs, TargetAnswers, target_of}
use Rattle.meaning_laws.specs.BodyLaws.{Follows}
use Rattle.meaning_laws.specs.ThisLaws.{IsOf, MayEnter}
use Rattle.meaning_laws.proofs.Fields.{declared_fields_are_there}
use Rattle.meaning_laws.proofs.Follows.{follows}
use Rattle.meaning_laws.proofs.Lookups.{calls_go_by_numbers, targets_take_the_call}
use Rattle.meaning_laws.proofs.This.{class_stays}
use Rattle.code_pool.specs.declared.pool.MethodBody.TheVariants.{Native, ReadField, WriteField, Code}
use Rattle.code_pool.specs.Pool.{Pool}
use Rattle.code_pool.specs.Machine as machine
use Rattle.code_pool.specs.Machine.{State, Step, to, over, told, after, push}
use Rattle.machine_runs.proofs.Loaded.{Loaded, HasMember, Extends, answers, constructor_number, owned, list_alone, class_there, built_in_at, native_takes, method_facts}
use Rattle.machine_runs.proofs.Runs.{worth, worth_mono, goes, Comes, Ends, comes_one, ends_one, bare, within, Shared, shared_native, shared_look, shared_write}

-- The heap and the top-level variables are those of a run behind ones that were.
pub runs_on : (p : Parts) (r q : Run Value) → Runs p r → Follows p r.store q.store → Runs p q
runs_on p r q h f = record { heap = f.heap h.heap; globals = f.globals ∙ h.globals }

-- what an entry needs of its `this`: to be of the class that holds the code, or a list
abbrev pub Ready : Parts → Heap → Entry n.Code → Type 0
Ready p heap (running code me args) = MayEnter p heap code me
Ready p heap (listing v) = class_of heap v ≡ 5

module _ (prog : Loaded) where
  abbrev p : Parts
  p = prog.p

  abbrev pool : Pool
  pool = prog.pool

  -- where a caller goes on with an answer
  abbrev pub resumed : State → List Value → Value → Store → State
  resumed s below w t = record { frame = record s.frame { place = s.frame.place + 1 }; callers = s.callers; values = below ++ w ∷ []; store = t }

  -- A call answers: one instruction is its own, and its turns pay for the others.
  pub record Answered (s0 s : State) (below : List Value) (r : Run Value) (w : Value) (q : Run Value) : Type 0 where
    pub count : ℕ
    pub comes : Comes prog count s0 (resumed s below w q.store)
    pub bound : count + worth prog.pays q.store.turns ≤ 1 + worth prog.pays r.store.turns
    pub vars : q.vars ≡ r.vars
    pub this : q.this ≡ r.this
    pub follows : Follows p r.store q.store

  -- A call ends the run.
  pub record Stopped (s0 : State) (r : Run Value) (e : Ending) (q : Run Value) : Type 0 where
    pub count : ℕ
    pub ends : Ends prog count s0 (told e q.store)
    pub bound : count + worth prog.pays q.store.turns ≤ 1 + worth prog.pays r.store.turns

  -- From s0, where a call is met, the machine does what the evaluation came to; s with these values below is where it goes on.
  abbrev pub CallLeads : State → State → List Value → Run Value → Result Value Value → Type 0
  CallLeads s0 s below r (went w q) = Answered s0 s below r w q
  CallLeads s0 s below r (ended e q) = Stopped s0 r e q

  -- The unit of an entry, and the values that it takes.
  pub data UnitOf : Entry n.Code → ℕ → List Value → Type 0 where
    of_function : {f : ℕ} {k : Function} {u : UnitId} {me : Value} {args : List Value} → slice_get p.functions f ≡ Some k → slice_get pool.statics f ≡ Some u
        → Accepts k.required (length k.defaults) (length args) → UnitOf (running (the_function f) me args) u.0 args
    of_method : {m : ℕ} {k : Method} {b : Body} {u : UnitId} {me : Value} {args : List Value} → slice_get p.methods m ≡ Some k → k.body ≡ does.Code b → slice_get pool.methods m ≡ Some (Code u)
        → Accepts k.required (length k.defaults) (length args) → UnitOf (running (the_method m) me args) u.0 (me ∷ args)
    of_constructor : {class : ℕ} {k : Class} {u : UnitId} {me : Value} {args : List Value} → 7 ≤ class → slice_get p.classes class ≡ Some k → slice_get pool.statics (constructor_number p class) ≡ Some u
        → ConstructorAccepts (length args) k.constructor → UnitOf (running (the_constructor class) me args) u.0 (me ∷ args)
    of_list : {u : UnitId} {v : Value} → slice_get pool.methods list_to_string ≡ Some (Code u) → UnitOf (listing v) u.0 (v ∷ [])

  -- With so many levels left, each entry does what its unit does, met by any instruction of any state.
  pub record Enters (left : ℕ) : Type 0 where
    pub enters : (x : Entry n.Code) (u : ℕ) (args : List Value) → UnitOf x u args → (s0 s : State) (below : List Value) (r : Run Value)
        → goes prog s0 ≡ machine.enter p pool (answers prog) u s below args → s.store ≡ r.store → Runs p r → Ready p r.store.heap x → length s.callers + 1 + left ≡ greatest_depth
        → CallLeads s0 s below r (n.enter p left x r)

  -- one instruction that does a shared step, and pushes its answer
  pub call_by : (m : M Value Value) → Shared p m → (s0 s : State) (below : List Value) (r : Run Value)
      → goes prog s0 ≡ after s (m (bare r.store)) (λ w q. push q below w) → CallLeads s0 s below r (m r)
  call_by m shared s0 s below r e =
      subst (λ y. CallLeads s0 s below r y) (sym (shared.same r))
      (leads (m (bare r.store)) (subst (λ y. Follows p r.store (last y).store) (shared.same r) (shared.follows r)) e)
    where
      leads : (y : Result Value Value) → Follows p r.store (last (within r y)).store → goes prog s0 ≡ after s y (λ w q. push q below w) → CallLeads s0 s below r (within r y)
      leads (went w q) f e = record {
        count = 1;
        comes = comes_one prog s0 (resumed s below w q.store) e;
        bound = omega (arith, worth_mono prog.pays q.store.turns r.store.turns f.goes.turns);
        vars = refl;
        this = refl;
        follows = f;
      }
      leads (ended d q) f e = record { count = 1; ends = ends_one prog s0 d q.store e; bound = omega (arith, worth_mono prog.pays q.store.turns r.store.turns f.goes.turns) }

  module _ (left : ℕ) (deep : Enters left) where
    abbrev calling : calls.World Value n.Code
    calling = world p (n.enter p left)

    -- method m, which the class c has or one above it
    record Called (m c : ℕ) (k : Method) (s0 s : State) (below : List Value) (v : Value) (args : List Value) (r : Run Value) : Type 0 where
      there : slice_get p.methods m ≡ Some k
      extends : Extends p c k.owner.0
      accepts : Accepts k.required (length k.defaults) (length args)
      -- where c is no Object, it is the receiver's class still
      class : 1 ≤ c → class_of r.store.heap v ≡ c
      meets : goes prog s0 ≡ machine.call_method p pool (answers prog) m c s below v args
      store : s.store ≡ r.store
      good : Runs p r
      depth : length s.callers + 1 + left ≡ greatest_depth

    module _ (m c : ℕ) (k : Method) (s0 s : State) (below : List Value) (v : Value) (args : List Value) (r : Run Value) (h : Called m c k s0 s below v args r) where
      owned_here : machine.is_owned p pool (answers prog) c k.owner.0 ≡ true
      owned_here = owned p prog.sound c k.owner.0 h.extends

      least : k.owner.0 ≤ c
      least = above_le (parents p.classes) prog.sound.order k.owner.0 c h.extends

      -- of a member of the user's the receiver is an object
      of_owner : 7 ≤ k.owner.0 → IsOf p r.store.heap (Some k.owner.0) v
      of_owner big = (big, subst (λ x. Extends p x k.owner.0) (sym (h.class (omega (arith, big, least)))) h.extends)

      by_native : (x : ℕ) → x ≡ m → m < 49 → (b : Bool) → nat_eq x list_to_string ≡ b
          → (nat_eq x list_to_string ≡ false → slice_get pool.methods m ≡ Some (Native (record { 0 = x }))) → (nat_eq x list_to_string ≡ true → (u : UnitId) × (slice_get pool.methods m ≡ Some (Code u)))
          → CallLeads s0 s below r (calls.do_member calling (prog_.built_in x) v args r)
      by_native x same lt false e one two =
          let takes : nat_eq (length args) k.required ≡ true = eq-eqb (length args) k.required (native_takes p prog.sound m (length args) k lt h.there h.accepts) in
          let at : slice_get built_in_members x ≡ Some k = ap (slice_get built_in_members) same ∙ sym (built_in_at p prog.sound m lt) ∙ h.there in
          rw e (call_by (calls.natively (of_numbered p) x v args) (shared_native x v args) s0 s below r
          (h.meets ∙ rw (one e, h.there, owned_here) (rw (e, at, owned_here, takes, h.store) refl)))
      by_native x same lt true e one two =
          let u = two e in
          let m_is : m ≡ 43 = sym same ∙ eqb-true x 43 e in
          let at : slice_get built_in_members 43 ≡ Some k = sym (built_in_at p prog.sound 43 (omega arith)) ∙ ap (slice_get p.methods) (sym m_is) ∙ h.there in
          let owner : k.owner.0 ≡ 5 = sym (ap (λ (o : Option Method). (unwrap_or o k).owner.0) at) in
          let c_is : c ≡ 5 = list_alone p prog.sound c (subst (Extends p c) owner h.extends) in
          let required : k.required ≡ 0 = sym (ap (λ (o : Option Method). (unwrap_or o k).required) at) in
          let none : length args ≡ 0 = native_takes p prog.sound m (length args) k lt h.there h.accepts ∙ required in
          rw e (deep.enters (listing v) u.0.0 (v ∷ []) (of_list (ap (slice_get pool.methods) (sym m_is) ∙ u.1)) s0 s below r
          (h.meets ∙ rw (u.1, h.there, owned_here) (ap (λ l. machine.enter p pool (answers prog) u.0.0 s below (v ∷ l)) (no_items args none))) h.store h.good
          (h.class (omega (arith, c_is)) ∙ c_is) h.depth)
        where
          no_items : (xs : List Value) → length xs ≡ 0 → xs ≡ []
          no_items [] e = refl
          no_items (x ∷ xs) e = absurd (omega (arith, e))

      has : (field : ℕ) → 7 ≤ k.owner.0 → Declares p k.owner.0 field → machine.has_field r.store.heap v field ≡ true
      has field big d = lt-ltb field (length (object_fields (thing_at r.store.heap v))) (declared_fields_are_there p prog.sound r.store.heap v k.owner.0 field h.good.heap (of_owner big) d)

      by_read : (field : ℕ) (xs : List Value) → xs ≡ args → length xs ≡ 0 → machine.has_field r.store.heap v field ≡ true → slice_get pool.methods m ≡ Some (ReadField field)
          → CallLeads s0 s below r (look (λ (r : Run Value). field_of r.store.heap v field) r)
      by_read field [] same none there is =
          call_by (look (λ (q : Run Value). field_of q.store.heap v field)) (shared_look (λ t. field_of t.heap v field)) s0 s below r
          (h.meets ∙ ap (λ l. machine.call_method p pool (answers prog) m c s below v l) (sym same) ∙ rw (is, h.there, owned_here, h.store, there) refl)
      by_read field (x ∷ xs) same none there is = absurd (omega (arith, none))

      by_write : (field : ℕ) (xs : List Value) → xs ≡ args → length xs ≡ 1 → machine.has_field r.store.heap v field ≡ true → slice_get pool.methods m ≡ Some (WriteField field)
          → CallLeads s0 s below r ((set_field v field (calls.argument 0 xs) >> pure null) r)
      by_write field (w ∷ []) same none there is =
          call_by (set_field v field w >> pure null) (shared_write v field w) s0 s below r
          (h.meets ∙ ap (λ l. machine.call_method p pool (answers prog) m c s below v l) (sym same) ∙ rw (is, h.there, owned_here, h.store, there) refl)
      by_write field [] same none there is = absurd (omega (arith, none))
      by_write field (w ∷ x ∷ xs) same none there is = absurd (omega (arith, none))

      by_body : (b : MethodBody) → k.body ≡ b → SoundCode p m k b → HasMember pool m b → CallLeads s0 s below r (calls.do_member calling (method_found m b) v args r)
      by_body (does.Native x) e sound has = by_native x.0 sound.0 sound.1 (nat_eq x.0 list_to_string) refl has.0 has.1
      by_body (does.ReadField field) e sound there =
          let facts = method_facts p prog.sound m k h.there in
          let takes = subst (λ role. TakesByRole role k.required (length k.defaults)) sound.1 facts.takes in
          by_read field args refl (omega (arith, takes.0, takes.1, h.accepts.1)) (has field (facts.of_user sound.0) sound.2) there
      by_body (does.WriteField field) e sound there =
          let facts = method_facts p prog.sound m k h.there in
          let takes = subst (λ role. TakesByRole role k.required (length k.defaults)) sound.1 facts.takes in
          by_write field args refl (omega (arith, takes.0, takes.1, h.accepts.0, h.accepts.1)) (has field (facts.of_user sound.0) sound.2) there
      by_body (does.Code b) e sound there =
          let facts = method_facts p prog.sound m k h.there in
          let owner = of_owner (facts.of_user sound.0) in
          deep.enters (running (the_method m) v args) there.0.0 (v ∷ args) (of_method h.there e there.1 h.accepts) s0 s below r (h.meets ∙ rw (there.1, h.there, owned_here) refl) h.store h.good
          (subst (λ (o : Option Method). IsOf p r.store.heap (option_map (λ (k : Method). k.owner.0) o) v) (sym h.there) owner) h.depth

      -- The machine calls the member as the meaning does.
      member_leads : CallLeads s0 s below r (calls.do_member calling (method_found m k.body) v args r)
      member_leads = by_body k.body refl (method_facts p prog.sound m k h.there).code (prog.tables.methods m k h.there)

    -- a member by its number, on a receiver whose class has it or one above it
    pub method_leads : (m c : ℕ) (k : Method) → slice_get p.methods m ≡ Some k → Extends p c k.owner.0 → (s0 s : State) (below : List Value) (v : Value) (args : List Value) (r : Run Value)
        → Accepts k.required (length k.defaults) (length args) → (1 ≤ c → class_of r.store.heap v ≡ c) → goes prog s0 ≡ machine.call_method p pool (answers prog) m c s below v args
        → s.store ≡ r.store → Runs p r → length s.callers + 1 + left ≡ greatest_depth → CallLeads s0 s below r (calls.do_member calling (method_found m k.body) v args r)
    method_leads m c k there extends s0 s below v args r accepts class meets store good depth =
        member_leads m c k s0 s below v args r (record { there = there; extends = extends; accepts = accepts; class = class; meets = meets; store = store; good = good; depth = depth })

    -- steps that came before the call, in the same instruction
    repack : (s0 s s1 : State) (below : List Value) (r r1 : Run Value) → s1.frame ≡ s.frame → s1.callers ≡ s.callers → r1.store.turns ≡ r.store.turns → r1.vars ≡ r.vars → r1.this ≡ r.this → Follows p r.store r1.store
        → (y : Result Value Value) → CallLeads s0 s1 below r1 y → CallLeads s0 s below r y
    repack s0 s s1 below r r1 fr ca tu va th f (went w q) l = record {
      count = l.count;
      comes = subst (λ t. Comes prog l.count s0 t) (λ i. record { frame = record (fr i) { place = (fr i).place + 1 }; callers = ca i; values = below ++ w ∷ []; store = q.store }) l.comes;
      bound = omega (arith, l.bound, ap (worth prog.pays) tu);
      vars = l.vars ∙ va;
      this = l.this ∙ th;
      follows = (follows p).on r.store r1.store q.store f l.follows;
    }
    repack s0 s s1 below r r1 fr ca tu va th f (ended e q) l = record { count = l.count; ends = l.ends; bound = omega (arith, l.bound, ap (worth prog.pays) tu) }

    abbrev asked : ℕ → Value → Run Value → Run Value
    asked site v r = record r { store = record r.store { asked = r.store.asked ++ (site, class_of r.store.heap v) ∷ [] } }

    abbrev invoked_store : Selector → List Value → Store → Store
    invoked_store sel args t = record t { heap = (t.heap ++ list args ∷ []) ++ invocation (told_name sel.kind sel.name) (values.at (length t.heap)) sel.kind ∷ [] }

    invoked_follows : (sel : Selector) (args : List Value) (t : Store) → Follows p t (invoked_store sel args t)
    invoked_follows sel args t =
        let t1 : Store = record t { heap = t.heap ++ list args ∷ [] } in
        (follows p).on t t1 (invoked_store sel args t) ((follows p).makes t (list args) tt) ((follows p).makes t1 (invocation (told_name sel.kind sel.name) (values.at (length t.heap)) sel.kind) tt)

    -- where a call of a class goes, once its cell was asked
    reach_leads : (go : numbers.Target) (to_ : prog_.Target n.Code) (c : ℕ) (sel : Selector) → target_of p go ≡ Some to_ → TargetAnswers p c sel go
        → (s0 s : State) (below : List Value) (v : Value) (args : List Value) (r : Run Value) → sel.count ≡ length args → class_of r.store.heap v ≡ c
        → goes prog s0 ≡ machine.reach p pool (answers prog) go sel c s below v args → s.store ≡ r.store → Runs p r → length s.callers + 1 + left ≡ greatest_depth
        → CallLeads s0 s below r (calls.reach calling to_ sel v args r)
    reach_leads (target.Method m) to_ c sel is a s0 s below v args r count class meets store good depth =
        let meant : prog_.member (method_found m.0 a.method.body) ≡ to_ = ap (λ o. unwrap_or o to_) (sym (ap (option_map prog_.member) (ap (option_map (λ (k : Method). method_found m.0 k.body)) a.there)) ∙ is) in
        subst (λ t. CallLeads s0 s below r (calls.reach calling t sel v args r)) meant
        (method_leads m.0 c a.method a.there a.owner s0 s below v args r (subst (Accepts a.method.required (length a.method.defaults)) count a.takes) (λ _. class) meets store good depth)
    reach_leads (target.Nsm m) to_ c sel is a s0 s below v args r count class meets store good depth =
        let meant : prog_.missing (method_found m.0 a.method.body) ≡ to_ = ap (λ o. unwrap_or o to_) (sym (ap (option_map prog_.missing) (ap (option_map (λ (k : Method). method_found m.0 k.body)) a.there)) ∙ is) in
        let r1 : Run Value = record r { store = invoked_store sel args r.store } in
        let s1 : State = record s { store = r1.store } in
        let i : Value = values.at (length (r.store.heap ++ list args ∷ [])) in
        let f : Follows p r.store r1.store = invoked_follows sel args r.store in
        subst (λ t. CallLeads s0 s below r (calls.reach calling t sel v args r)) meant
        (repack s0 s s1 below r r1 refl refl refl refl refl f (calls.do_member calling (method_found m.0 a.method.body) v (i ∷ []) r1)
        (method_leads m.0 c a.method a.there a.owner s0 s1 below v (i ∷ []) r1 a.takes
        (λ big. class_stays r.store.heap r1.store.heap v f.classes (subst (λ k. 1 ≤ k) (sym class) big) ∙ class) (meets ∙ rw store refl) refl (runs_on p r r1 good f) depth))

    -- the number of a site's selector
    pub site_selector : (site : ℕ) (sel : Selector) → selector_at p site ≡ Some sel → (x : Site) × (slice_get p.sites site ≡ Some x) × (slice_get p.selectors x.selector.0 ≡ Some sel)
    site_selector site sel e = by_site (slice_get p.sites site) refl
      where
        by_site : (o : Option Site) → slice_get p.sites site ≡ o → (x : Site) × (slice_get p.sites site ≡ Some x) × (slice_get p.selectors x.selector.0 ≡ Some sel)
        by_site (Some x) there = (x, there, sym (ap (option_and_then (λ (site : Site). slice_get p.selectors site.selector.0)) there) ∙ e)
        by_site None there = let none = sym (ap (option_and_then (λ (site : Site). slice_get p.selectors site.selector.0)) there) ∙ e in absurd (cc)

    -- a call through a site
    pub send_leads : (site : ℕ) (sel : Selector) → selector_at p site ≡ Some sel → (s0 s : State) (below : List Value) (v : Value) (args : List Value) (r : Run Value) → sel.count ≡ length args
        → goes prog s0 ≡ machine.send p pool (answers prog) site s below v args → s.store ≡ r.store → Runs p r → length s.callers + 1 + left ≡ greatest_depth
        → CallLeads s0 s below r (calls.send calling site sel v args r)
    send_leads site sel is s0 s below v args r count meets store good depth =
        let x = site_selector site sel is in
        let k : ℕ = x.0.selector.0 in
        let c : ℕ = class_of r.store.heap v in
        let r1 : Run Value = asked site v r in
        let s1 : State = record s { store = r1.store } in
        repack s0 s s1 below r r1 refl refl refl refl refl ((follows p).asks r.store site v) (calls.reach calling (prog_.resolve (of_numbered p) c sel) sel v args r1)
        (reach_leads (lookup.resolve p c k) (prog_.resolve (of_numbered p) c sel) c sel (calls_go_by_numbers p prog.sound c k sel x.2)
        (targets_take_the_call p prog.sound c k sel (class_there p prog.sound r.store.heap v good.heap) x.2)
        s0 s1 below v args r1 count refl (meets ∙ rw (prog.tables.sites site x.0 x.1, x.2, store) refl) refl (runs_on p r r1 good ((follows p).asks r.store site v)) depth)

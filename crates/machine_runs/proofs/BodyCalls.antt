-- Calls of a body that runs: through a site, of a function, of a member of the superclass, and constructions.
use Rattle.std.proofs.Common.{◌≡◌, ℕ, suc, ◌+◌, ◌-◌, ◌<◌, List, [], ◌∷◌, ◌++◌, length, refl, sym, ap, ◌∙◌, subst}
use Rattle.std.specs.Prelude.{Bool, true, false, ◌&&◌, ◌||◌, nat_eq, IsTrue, slice_get, unwrap_or, option_map, Some}
use Rattle.std.specs.List.{list_any}
use Rattle.program.specs.declared.ids.MethodId.{MethodId}
use Rattle.program.specs.declared.ids.SiteId.{SiteId}
use Rattle.program.specs.declared.ids.UnitId.{UnitId}
use Rattle.program.specs.declared.numbered.Function.{Function}
use Rattle.program.specs.declared.numbered.Method.{Method}
use Rattle.program.specs.declared.numbered.Selector.{Selector}
use Rattle.program.specs.Hierarchy.{above_chain}
use Rattle.program.specs.Parts.{parents, selector_at}
use Rattle.program.specs.Sound.{Accepts, AboveAccepts}
use Rattle.program.proofs.Always.{kind_and_name}
use Rattle.program.proofs.Intervals.{Above, above_trans, chain_step}
use Rattle.dart_values.specs.Values.{Value, null, bool, class_of}
use Rattle.dart_meaning.specs.Calls as calls
use Rattle.dart_meaning.specs.Calls.{is_null}
use Rattle.dart_meaning.specs.Numbered as n
use Rattle.dart_meaning.specs.Numbered.{the_function, the_constructor, constructor_at, method_at, method_found, fields, world}
use Rattle.dart_meaning.specs.Program.{Entry, running}
use Rattle.dart_meaning.specs.Run.{Run, Result, went, ended, M, pure, choose}
use Rattle.meaning_laws.specs.ThisLaws.{IsOf}
use Rattle.meaning_laws.proofs.Follows.{follows}
use Rattle.meaning_laws.proofs.Lookups.{walk_finds}
use Rattle.meaning_laws.proofs.This.{of_stays}
use Rattle.code_unit.specs.declared.instr.Instr.TheVariants.{Call, Equal, CallStatic, CallMethod}
use Rattle.code_pool.specs.Machine as machine
use Rattle.code_pool.specs.Machine.{State, Step, some, when, no_number, push}
use Rattle.machine_runs.proofs.Loaded.{Loaded, Extends, answers}
use Rattle.machine_runs.proofs.Runs.{goes, Comes, shared_pure}
use Rattle.machine_runs.proofs.Calls.{Ready, CallLeads, call_by, UnitOf, of_function, method_leads, send_leads}
use Rattle.machine_runs.proofs.Points.{Open, Point, point, Activation, lands, Fits, good_of, Leads, Does, act_is, pushed, top_at, top_two_at}

-- what a body enters, one level deeper
abbrev pub entered : (prog : Loaded) → Activation prog → Entry n.Code → M Value Value
entered prog f = n.enter prog.p f.left

-- the calls of a body
abbrev pub calling : (prog : Loaded) → Activation prog → calls.World Value n.Code
calling prog f = world prog.p (n.enter prog.p f.left)

-- what `super` names stands above the class that holds the body
pub super_above : (prog : Loaded) (class m count : ℕ) (k : Method) → slice_get prog.p.methods m ≡ Some k → AboveAccepts prog.p (Some class) m count (Some k) → Extends prog.p class k.owner.0
super_above prog class m count k there a =
    let up = parents prog.p.classes in
    let walk = walk_finds prog.p.methods k.role k.name (above_chain up class) m a.0 in
    let same : walk.1 ≡ k = ap (λ o. unwrap_or o k) (sym walk.2 ∙ there) in
    let owner : k.owner.0 ≡ walk.0 = ap (λ (m : Method). m.owner.0) (sym same) ∙ (kind_and_name walk.0 k.role k.name walk.1 walk.3).0 in
    subst (λ d. Above up d class) (sym owner) (subst (λ xs. IsTrue (list_any (nat_eq walk.0) xs)) (sym (chain_step up prog.sound.order class)) (behind (nat_eq walk.0 class) _ walk.4))
  where
    behind : (a b : Bool) → IsTrue b → IsTrue (a || b)
    behind true b h = refl
    behind false b h = h

module _ {prog : Loaded} {f : Activation prog} where
  -- a call that was met on top of these operands comes back with its answer there
  pub from_call : (n : Open) (t : ℕ) (ops ws : List Value) (slots : List Value) (r : Run Value) → Fits prog f n slots r → (y : Result Value Value)
      → CallLeads prog (lands prog f (point n t ws) slots r.store) (lands prog f (point n t ws) slots r.store) ((f.below ++ slots) ++ ops) r y
      → Leads prog f 1 r.store.turns (lands prog f (point n t ws) slots r.store) (λ w. point n (t + 1) (ops ++ w ∷ [])) y
  from_call n t ops ws slots r h (went w q) l = record {
    slots = slots;
    count = l.count;
    fits = record {
      size = h.size;
      count = ap length l.vars ∙ h.count;
      vars = subst (λ vs. (k : ℕ) → k < n.vars → slice_get slots (f.first + k) ≡ slice_get vs (n.vars - suc k)) (sym l.vars) h.vars;
      kept = h.kept;
      this = h.this;
      self = l.this ∙ h.self;
      follows = (follows prog.p).on f.begun r.store q.store h.follows l.follows;
    };
    comes = subst (λ vs. Comes prog l.count (lands prog f (point n t ws) slots r.store) (record { frame = record { unit = f.number; place = t + 1; base = length f.below }; callers = f.callers; values = vs; store = q.store }))
        (pushed prog f slots ops w) l.comes;
    bound = l.bound;
    fewer = l.follows.goes.turns;
  }
  from_call n t ops ws slots r h (ended e q) l = record { count = l.count; ends = l.ends; bound = l.bound }

  -- a call through a site
  pub does_send : (o : Open) (t : ℕ) (ops : List Value) (v : Value) (args : List Value) (site : SiteId) (sel : Selector) (count : ℕ) → selector_at prog.p site.0 ≡ Some sel → sel.count ≡ count → length args ≡ count
      → slice_get f.unit.code t ≡ Some (Call site count) → Does prog f 1 (point o t (ops ++ v ∷ args)) (calls.send (calling prog f) site.0 sel v args) (λ w. point o (t + 1) (ops ++ w ∷ []))
  does_send o t ops v args site sel count is of_count len code = record {
    does = λ slots r h.
        let x : Point = point o t (ops ++ v ∷ args) in
        let s : State = lands prog f x slots r.store in
        from_call o t ops (ops ++ v ∷ args) slots r h (calls.send (calling prog f) site.0 sel v args r)
        (send_leads prog f.left f.deep site.0 sel is s s ((f.below ++ slots) ++ ops) v args r (of_count ∙ sym len)
        (act_is prog f x slots r.store (Call site count) code
        ∙ top_at prog f x slots r.store (suc count) ops (v ∷ args) (λ below vs. machine.receiver vs (machine.send prog.p prog.pool (answers prog) site.0 s below)) h.size refl (ap suc len))
        refl (good_of prog f h) f.depth);
  }

  -- `==`, with its rule for null; that the answer is a bool is tested behind it
  pub does_equal : (o : Open) (t : ℕ) (ops : List Value) (v u : Value) (site : SiteId) (sel : Selector) → selector_at prog.p site.0 ≡ Some sel → sel.count ≡ 1 → slice_get f.unit.code t ≡ Some (Equal site)
      → Does prog f 1 (point o t (ops ++ v ∷ u ∷ [])) (choose (is_null v || is_null u) (pure (bool (is_null v && is_null u))) (calls.send (calling prog f) site.0 sel v (u ∷ []))) (λ w. point o (t + 1) (ops ++ w ∷ []))
  does_equal o t ops v u site sel is one code = record {
    does = λ slots r h.
        let x : Point = point o t (ops ++ v ∷ u ∷ []) in
        let s : State = lands prog f x slots r.store in
        let below : List Value = (f.below ++ slots) ++ ops in
        from_call o t ops (ops ++ v ∷ u ∷ []) slots r h _
        (by_null (is_null v || is_null u) slots r h
        (act_is prog f x slots r.store (Equal site) code
        ∙ top_two_at prog f x slots r.store ops v u (λ below v w. choose (is_null v || is_null w) (push s below (bool (is_null v && is_null w))) (machine.send prog.p prog.pool (answers prog) site.0 s below v (w ∷ []))) h.size refl));
  }
    where
      by_null : (b : Bool) (slots : List Value) (r : Run Value) → Fits prog f o slots r
          → goes prog (lands prog f (point o t (ops ++ v ∷ u ∷ [])) slots r.store)
          ≡ choose b (push (lands prog f (point o t (ops ++ v ∷ u ∷ [])) slots r.store) ((f.below ++ slots) ++ ops) (bool (is_null v && is_null u)))
          (machine.send prog.p prog.pool (answers prog) site.0 (lands prog f (point o t (ops ++ v ∷ u ∷ [])) slots r.store) ((f.below ++ slots) ++ ops) v (u ∷ []))
          → CallLeads prog (lands prog f (point o t (ops ++ v ∷ u ∷ [])) slots r.store) (lands prog f (point o t (ops ++ v ∷ u ∷ [])) slots r.store) ((f.below ++ slots) ++ ops) r
          (choose b (pure (bool (is_null v && is_null u))) (calls.send (calling prog f) site.0 sel v (u ∷ [])) r)
      by_null true slots r h e = call_by prog (pure (bool (is_null v && is_null u))) (shared_pure (bool (is_null v && is_null u))) _ _ ((f.below ++ slots) ++ ops) r e
      by_null false slots r h e = send_leads prog f.left f.deep site.0 sel is _ _ ((f.below ++ slots) ++ ops) v (u ∷ []) r one e refl (good_of prog f h) f.depth

  -- an entry by its static number
  pub enter_leads : (o : Open) (t : ℕ) (ops ws : List Value) (k count : ℕ) (u : UnitId) (x : Entry n.Code) → slice_get f.unit.code t ≡ Some (CallStatic k count) → length ws ≡ count
      → slice_get prog.pool.statics k ≡ Some u → UnitOf prog x u.0 ws → (slots : List Value) (r : Run Value) → Fits prog f o slots r → Ready prog.p r.store.heap x
      → Leads prog f 1 r.store.turns (lands prog f (point o t (ops ++ ws)) slots r.store) (λ w. point o (t + 1) (ops ++ w ∷ [])) (entered prog f x r)
  enter_leads o t ops ws k count u x at len is unit slots r h ready =
      let y : Point = point o t (ops ++ ws) in
      let s : State = lands prog f y slots r.store in
      from_call o t ops (ops ++ ws) slots r h (entered prog f x r)
      (f.deep.enters x u.0 ws unit s s ((f.below ++ slots) ++ ops) r
      (act_is prog f y slots r.store (CallStatic k count) at
      ∙ top_at prog f y slots r.store count ops ws (λ below vs. some no_number (slice_get prog.pool.statics k) (λ u. machine.enter prog.p prog.pool (answers prog) u.0 s below vs)) h.size refl len
      ∙ rw is refl)
      refl (good_of prog f h) ready f.depth)

  -- a call of a function
  pub does_function : (o : Open) (t : ℕ) (ops args : List Value) (g count : ℕ) (k : Function) → slice_get f.unit.code t ≡ Some (CallStatic g count) → length args ≡ count
      → slice_get prog.p.functions g ≡ Some k → Accepts k.required (length k.defaults) count → Does prog f 1 (point o t (ops ++ args)) (entered prog f (running (the_function g) null args)) (λ w. point o (t + 1) (ops ++ w ∷ []))
  does_function o t ops args g count k at len there accepts = record {
    does = λ slots r h. let u = prog.tables.functions g k there in
        enter_leads o t ops args g count u.0 (running (the_function g) null args) at len u.1 (of_function there u.1 (subst (Accepts k.required (length k.defaults)) (sym len) accepts)) slots r h tt;
  }

  -- a member of the superclass, on `this`
  pub does_above : (o : Open) (t : ℕ) (ops vs : List Value) (m : MethodId) (count class : ℕ) (k : Method) → slice_get f.unit.code t ≡ Some (CallMethod m (suc count)) → length vs ≡ count
      → f.here ≡ Some class → slice_get prog.p.methods m.0 ≡ Some k → AboveAccepts prog.p (Some class) m.0 count (Some k)
      → Does prog f 1 (point o t (ops ++ f.me ∷ vs)) (n.above prog.p (entered prog f) m.0 vs) (λ w. point o (t + 1) (ops ++ w ∷ []))
  does_above o t ops vs m count class k at len holder there a = record {
    does = λ slots r h.
        let x : Point = point o t (ops ++ f.me ∷ vs) in
        let s : State = lands prog f x slots r.store in
        let below : List Value = (f.below ++ slots) ++ ops in
        let me_of : IsOf prog.p r.store.heap (Some class) f.me =
        of_stays prog.p prog.sound (Some class) f.begun.heap r.store.heap f.me h.follows.classes (subst (λ x. IsOf prog.p f.begun.heap x f.me) holder f.me_of) in
        let extends : Extends prog.p (class_of r.store.heap f.me) k.owner.0 = above_trans (parents prog.p.classes) prog.sound.order k.owner.0 class (class_of r.store.heap f.me) (super_above prog class m.0 count k there a) me_of.1 in
        let found : method_at prog.p m.0 ≡ Some (method_found m.0 k.body) = ap (option_map (λ (k : Method). method_found m.0 k.body)) there in
        let meant : calls.do_member (calling prog f) (method_found m.0 k.body) f.me vs r ≡ n.above prog.p (entered prog f) m.0 vs r =
        ap (λ me. calls.do_member (calling prog f) (method_found m.0 k.body) me vs r) (sym h.self) ∙ ap (λ o. n.member_if prog.p (entered prog f) o vs r) (sym found) in
        subst (λ y. Leads prog f 1 r.store.turns s (λ w. point o (t + 1) (ops ++ w ∷ [])) y) meant
        (from_call o t ops (ops ++ f.me ∷ vs) slots r h (calls.do_member (calling prog f) (method_found m.0 k.body) f.me vs r)
        (method_leads prog f.left f.deep m.0 (class_of r.store.heap f.me) k there extends s s below f.me vs r (subst (Accepts k.required (length k.defaults)) (sym len) a.1) (λ _. refl)
        (act_is prog f x slots r.store (CallMethod m (suc count)) at
        ∙ top_at prog f x slots r.store (suc count) ops (f.me ∷ vs) (λ below vs. machine.receiver vs (λ v. machine.call_method prog.p prog.pool (answers prog) m.0 (class_of s.store.heap v) s below v)) h.size refl (ap suc len))
        refl (good_of prog f h) f.depth));
  }

-- A construction: the object is made behind its arguments, and goes below them into its class's constructor.
use Rattle.std.proofs.Common.{◌≡◌, ℕ, zero, suc, ◌+◌, ◌≤◌, List, [], ◌∷◌, ◌++◌, length, map, reverse, refl, sym, ap, ◌∙◌, subst, arith, append_assoc, append-nil}
use Rattle.std.specs.Prelude.{Bool, true, false, ◌||◌, nat_eq, nat_le, IsTrue, slice_get, unwrap_or, Option, Some, None}
use Rattle.std.proofs.lemmas.Bool.{eqb-true, leb-true}
use Rattle.std.proofs.lemmas.List.{reverse-reverse, length-reverse}
use Rattle.std.proofs.lemmas.Option.{slice_get_within}
use Rattle.program.specs.declared.ids.ClassId.{ClassId}
use Rattle.program.specs.declared.ids.UnitId.{UnitId}
use Rattle.program.specs.declared.numbered.Class.{Class}
use Rattle.program.specs.declared.numbered.Constructor.{Constructor}
use Rattle.program.specs.Bodies as c
use Rattle.program.specs.Bodies.{Exps, Stas}
use Rattle.program.specs.BuiltIn.{is_open, built_in_classes}
use Rattle.program.specs.Parts.{Parts}
use Rattle.program.specs.Sound.{MakeAccepts, ConstructorAccepts}
use Rattle.dart_values.specs.Values.{Value, null, object}
use Rattle.dart_meaning.specs.Calls as calls
use Rattle.dart_meaning.specs.Numbered as n
use Rattle.dart_meaning.specs.Numbered.{Code, the_constructor, constructor_at, constructor_of, parameters, fields}
use Rattle.dart_meaning.specs.Program.{Entry, running}
use Rattle.dart_meaning.specs.Run.{Run, M, ◌>>◌, pure, stop, stack_overflow, choose, spend}
use Rattle.meaning_laws.specs.ThisLaws.{MayEnter}
use Rattle.meaning_laws.proofs.Closed.{IsNew}
use Rattle.meaning_laws.proofs.Receivers.{new_objects_may_enter}
use Rattle.code_unit.specs.declared.instr.Instr.{Instr}
use Rattle.code_unit.specs.declared.instr.Instr.TheVariants.{CallStatic, New}
use Rattle.code_pool.specs.Machine as machine
use Rattle.machine_runs.proofs.Loaded.{Loaded, answers, constructor_number, class_at}
use Rattle.machine_runs.proofs.Calls.{of_constructor}
use Rattle.machine_runs.proofs.Points.{Open, opens, point, same_point, Activation, lands, Reaches, Does, Stands, Post, post_then, post_where, stands_front, stands_back, leads_on, leads_where, ends_at, does_bind, does_then, does_from, does_to, does_when, given_at, known_to, forgets}
use Rattle.machine_runs.proofs.Instructions.{does_new}
use Rattle.machine_runs.proofs.Slots.{keeping, stash, fetch, stash_length, fetch_length, does_stash, does_fetch}
use Rattle.machine_runs.proofs.BodyCalls.{entered, calling, enter_leads}

-- ---- a constructor answers its object

module _ (p : Parts) where
  building_itself : (enter : Entry Code → M Value Value) (class : ℕ) (sets : List (Option ℕ)) (passes : Exps) (all : Stas) (v : Value) (vars : List Value) (r : Run Value)
      → Post (λ w. w ≡ v) (n.build p enter class sets passes all v vars r)
  building_itself enter class sets passes all v vars r =
      let inside : Run Value = record r { vars = reverse vars; this = v } in
      post_where (λ w. w ≡ v) (λ w. w ≡ v) (n.building p enter class sets passes all v vars inside) _
      (post_then (λ w. w ≡ v) (n.set_fields p enter v sets vars inside) _
      (λ a q. post_then (λ w. w ≡ v) (n.values p enter passes q) _
      (λ vs q. post_then (λ w. w ≡ v) (calls.construct (n.world p enter) (constructor_at (n.class_above p class)) v vs q) _
      (λ a q. post_then (λ w. w ≡ v) (n.doing_all p enter all q) _ (λ a q. refl)))))
      (λ a q h. h)

  pub itself : (left class : ℕ) (v : Value) (vs : List Value) (r : Run Value) → Post (λ w. w ≡ v) (n.enter p left (running (the_constructor class) v vs) r)
  unfolding n.enter
  itself zero class v vs r = post_then (λ w. w ≡ v) (spend r) (λ _. stop stack_overflow) (λ _ q. tt)
  itself (suc left) class v vs r = post_then (λ w. w ≡ v) (spend r) (λ _. n.construct p (n.enter p left) class (constructor_of p class) v vs) (λ _ q. constructed (constructor_of p class) q)
    where
      constructed : (o : Option Constructor) (q : Run Value) → Post (λ w. w ≡ v) (n.construct p (n.enter p left) class o v vs q)
      constructed None q = building_itself (n.enter p left) class [] c.no_more c.end_of v [] q
      constructed (Some b) q = building_itself (n.enter p left) class b.sets (c.exps (map c.exp b.passes)) (c.stas (map c.sta b.body)) v (parameters b.required b.defaults vs) q

  -- ---- a class that may be constructed

  true_is : (b : Bool) → IsTrue b → b ≡ true
  true_is true h = refl
  true_is false h = h

  class_of_make : (class count : ℕ) (o : Option Class) → slice_get p.classes class ≡ o → MakeAccepts count o → (k : Class) × (slice_get p.classes class ≡ Some k) × MakeAccepts count (Some k)
  class_of_make class count (Some k) e h = (k, e, h)
  class_of_make class count None e h = absurd h

-- the class is there, is one that objects are made of, and its constructor takes so many arguments
pub record Makes (prog : Loaded) (class count : ℕ) : Type 0 where
  pub k : Class
  pub there : slice_get prog.p.classes class ≡ Some k
  pub is_made : machine.may_make prog.p prog.pool (answers prog) class ≡ true
  pub accepts : ConstructorAccepts count k.constructor
  pub is_new : IsNew prog.p (object class (fields prog.p class))

pub makes : (prog : Loaded) (class count : ℕ) → IsTrue (is_open class) → MakeAccepts count (slice_get prog.p.classes class) → Makes prog class count
makes prog class count is_user h =
    let k = class_of_make prog.p class count (slice_get prog.p.classes class) refl h in
    record {
      k = k.0;
      there = k.1;
      is_made = rw (true_is prog.p (is_open class) is_user, k.1, k.2.0) refl;
      accepts = k.2.1;
      is_new = (refl, is_user, slice_get_within prog.p.classes class k.0 k.1);
    }

-- Object's constructor takes nothing.
object_takes : (prog : Loaded) (class count : ℕ) (k : Class) → slice_get prog.p.classes class ≡ Some k → ConstructorAccepts count k.constructor → class ≡ 0 → count ≡ 0
object_takes prog class count k there accepts zero_class =
    let at : slice_get built_in_classes 0 ≡ Some k = sym (class_at prog.p prog.sound 0 (omega arith)) ∙ ap (slice_get prog.p.classes) (sym zero_class) ∙ there in
    let none : k.constructor ≡ None = sym (ap (λ (o : Option Class). (unwrap_or o k).constructor) at) in
    subst (ConstructorAccepts count) none accepts

of_user : (class : ℕ) → nat_eq class 0 ≡ false → IsTrue (is_open class) → 7 ≤ class
of_user class e h = by (nat_le 7 class) refl (subst (λ b. IsTrue (b || nat_le 7 class)) e h)
  where
    by : (b : Bool) → nat_le 7 class ≡ b → IsTrue b → 7 ≤ class
    by true e h = leb-true 7 class e
    by false e h = absurd (cc)

no_values : (vs : List Value) → length vs ≡ 0 → vs ≡ []
no_values [] e = refl
no_values (v ∷ vs) e = absurd (omega (arith, e))

-- ---- the code of a construction

-- beside its arguments
abbrev pub make_size : Bool → ℕ → ℕ
make_size is_object count = choose is_object 1 (count + count + 2)

-- of an object of Object the constructor is not entered
abbrev pub make_code : ℕ → Bool → ℕ → ClassId → ℕ → List Instr
make_code scratch is_object number class count =
    choose is_object (New class ∷ []) (stash scratch 0 count ++ (New class ∷ (fetch scratch count ++ CallStatic number (suc count) ∷ [])))

module _ {prog : Loaded} {f : Activation prog} where
  -- The object is made behind its arguments, and its constructor entered with it below them.
  does_enter : (m t : ℕ) (ops vs : List Value) (class : ClassId) (u : UnitId) → Stands prog f t (stash f.scratch 0 (length vs) ++ (New class ∷ (fetch f.scratch (length vs) ++ CallStatic (constructor_number prog.p class.0) (suc (length vs)) ∷ [])))
      → f.first + m ≤ f.scratch → f.scratch + length vs ≤ f.unit.locals → (k : Makes prog class.0 (length vs)) → 7 ≤ class.0 → slice_get prog.pool.statics (constructor_number prog.p class.0) ≡ Some u
      → IsTrue (is_open class.0) → constructor_at class.0 ≡ Some (the_constructor class.0)
      → Does prog f (length vs + (1 + (length vs + 1))) (point (opens m) t (ops ++ vs)) (calls.make (calling prog f) class.0 vs) (λ v. point (opens m) (t + length vs + 1 + length vs + 1) (ops ++ v ∷ []))
  does_enter m t ops vs class u h apart room k of_user static is_user there =
      let ws : List Value = reverse vs in
      let len : length ws ≡ length vs = length-reverse vs in
      let kept : Open = keeping m ws in
      let t1 : ℕ = t + length vs in
      let t2 : ℕ = t1 + 1 + length vs in
      let behind : Stands prog f t1 (New class ∷ (fetch f.scratch (length vs) ++ CallStatic (constructor_number prog.p class.0) (suc (length vs)) ∷ [])) =
      stands_back prog f t t1 _ _ (ap (λ n. t + n) (stash_length f.scratch 0 (length vs))) h in
      let last = stands_back prog f (t1 + 1) t2 _ _ (ap (λ n. t1 + 1 + n) (fetch_length f.scratch (length vs))) behind.1 in
      let stashed : Does prog f (length vs) (point (opens m) t (ops ++ vs)) (pure null) (λ _. point kept t1 ops) =
      subst (λ n. Does prog f n (point (opens m) t (ops ++ vs)) (pure null) (λ _. point kept (t + n) ops)) len
      (subst (λ l. Does prog f (length ws) (point (opens m) t (ops ++ l)) (pure null) (λ _. point kept (t + length ws) ops)) (reverse-reverse vs)
      (does_stash m t ops [] ws null (subst (λ n. Stands prog f t (stash f.scratch 0 n)) (sym len) (stands_front prog f t _ _ h)) apart (omega (arith, room, len)))) in
      let fetched : (v : Value) → Does prog f (length vs) (point kept (t1 + 1) (ops ++ v ∷ [])) (pure null) (λ _. point kept t2 (ops ++ v ∷ vs)) =
      λ v. does_to (λ _. same_point kept refl (append_assoc ops (v ∷ []) vs))
      (subst (λ ks. Does prog f (length vs) (point (keeping m ks) (t1 + 1) (ops ++ v ∷ [])) (pure null) (λ _. point (keeping m ks) t2 ((ops ++ v ∷ []) ++ vs))) (append-nil ws)
      (does_fetch m (t1 + 1) (ops ++ v ∷ []) vs [] null (stands_front prog f (t1 + 1) _ _ behind.1))) in
      does_then stashed
      (λ _. does_when (λ v r. MayEnter prog.p r.store.heap (the_constructor class.0) v) (length vs + 1) (λ v. calls.construct (calling prog f) (constructor_at class.0) v vs >> pure v)
      (does_from (λ i. point kept t1 (append-nil ops i)) (does_new kept t1 ops class behind.0 k.is_made k.is_new))
      (λ r. new_objects_may_enter prog.p prog.sound r.store.heap class.0 (the_constructor class.0) is_user there)
      (λ v slots r fits is. rw there
      (let l : Reaches prog f (length vs) r.store.turns (lands prog f (point kept (t1 + 1) (ops ++ v ∷ [])) slots r.store) (point kept t2 (ops ++ v ∷ vs)) r = (fetched v).does slots r fits in
      leads_on (length vs) 1 r.store.turns (lands prog f (point kept (t1 + 1) (ops ++ v ∷ [])) slots r.store) (point kept t2 (ops ++ v ∷ vs)) r (λ w. point (opens m) (t2 + 1) (ops ++ w ∷ [])) l _
      (leads_where (λ w. w ≡ v) 1 0 r.store.turns (lands prog f (point kept t2 (ops ++ v ∷ vs)) l.slots r.store) (λ w. point kept (t2 + 1) (ops ++ w ∷ [])) (λ _. pure v) (λ w. point (opens m) (t2 + 1) (ops ++ w ∷ []))
      (λ w e. known_to v refl (does_from (same_point kept {t = t2 + 1} refl (ap (λ x. ops ++ x ∷ []) (sym e))) (forgets m (t2 + 1) ws (ops ++ v ∷ []) v)))
      (entered prog f (running (the_constructor class.0) v vs) r) (itself prog.p f.left class.0 v vs r)
      (enter_leads kept t2 ops (v ∷ vs) (constructor_number prog.p class.0) (suc (length vs)) u (running (the_constructor class.0) v vs) last.0 refl static (of_constructor of_user k.there static k.accepts) l.slots r l.fits is)))))

  -- a construction, with its arguments on the stack
  pub does_make : (class : ClassId) (m t : ℕ) (ops vs : List Value) (count : ℕ) (is_object : Bool) → nat_eq class.0 0 ≡ is_object → length vs ≡ count → f.first + m ≤ f.scratch → f.scratch + count ≤ f.unit.locals
      → IsTrue (is_open class.0) → MakeAccepts count (slice_get prog.p.classes class.0) → Stands prog f t (make_code f.scratch is_object (constructor_number prog.p class.0) class count)
      → Does prog f (make_size is_object count) (point (opens m) t (ops ++ vs)) (calls.make (calling prog f) class.0 vs) (λ v. point (opens m) (t + make_size is_object count) (ops ++ v ∷ []))
  does_make class m t ops vs count true e len apart room is_user accepts h =
      let k = makes prog class.0 count is_user accepts in
      let none : length vs ≡ 0 = len ∙ object_takes prog class.0 count k.k k.there k.accepts (eqb-true class.0 0 e) in
      rw e (does_bind {g = λ v. pure null >> pure v} (does_from (same_point (opens m) refl (ap (λ l. ops ++ l) (sym (no_values vs none)))) (does_new (opens m) t ops class h.0 k.is_made k.is_new)) (λ v. given_at (opens m) (t + 1) ops v))
  does_make class m t ops vs count false e len apart room is_user accepts h =
      let k = makes prog class.0 (length vs) is_user (subst (λ i. MakeAccepts i (slice_get prog.p.classes class.0)) (sym len) accepts) in
      let big : 7 ≤ class.0 = of_user class.0 e is_user in
      let u = prog.tables.constructors class.0 big (slice_get_within prog.p.classes class.0 k.k k.there) in
      let there : constructor_at class.0 ≡ Some (the_constructor class.0) = rw e refl in
      ends_at (omega (arith, len)) (λ v. same_point (opens m) {t = t + length vs + 1 + length vs + 1} {u = t + (count + count + 2)} (omega (arith, len)) refl)
      (does_enter m t ops vs class u.0
      (subst (λ k. Stands prog f t (stash f.scratch 0 k ++ (New class ∷ (fetch f.scratch k ++ CallStatic (constructor_number prog.p class.0) (suc k) ∷ [])))) (sym len) h)
      apart (omega (arith, room, len)) k big u.1 is_user there)

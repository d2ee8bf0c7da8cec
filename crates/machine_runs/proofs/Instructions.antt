-- The instructions that take operands and push values, in a body that runs.
use Rattle.std.proofs.Common.{◌≡◌, ℕ, suc, ◌+◌, ◌-◌, ◌<◌, List, [], ◌∷◌, ◌++◌, length, map, refl, sym, ap, ◌∙◌, subst, arith, length-append, append_assoc, append-nil}
use Rattle.std.specs.Prelude.{Bool, true, false, not, nat_lt, slice_get, slice_set, slice_index_or, Some}
use Rattle.std.proofs.lemmas.Bool.{lt-ltb}
use Rattle.std.proofs.lemmas.Option.{slice_get_within, slice_get-get_or}
use Rattle.program.specs.declared.ids.ClassId.{ClassId}
use Rattle.program.specs.declared.literal.Literal.{Literal}
use Rattle.dart_values.specs.Reads.{text_in}
use Rattle.dart_values.specs.Values as values
use Rattle.dart_values.specs.Values.{Value, null, bool, list, object}
use Rattle.dart_meaning.specs.Calls as calls
use Rattle.dart_meaning.specs.Literals.{literal}
use Rattle.dart_meaning.specs.Numbered.{of_numbered, fields, place_of_slot}
use Rattle.dart_meaning.specs.Run.{Run, Store, Result, went, ended, M, pure, choose, look, change, in_store, need_bool, need_text, new, add_line, spend}
use Rattle.meaning_laws.proofs.Closed.{IsNew}
use Rattle.meaning_laws.proofs.Follows.{follows}
use Rattle.code_unit.specs.declared.instr.Instr.{Instr}
use Rattle.code_unit.specs.declared.instr.Instr.TheVariants.{Const, Local, Global, SetGlobal, Pop, Dup, Dup2, Jump, JumpIfFalse, ExpectBool, Not, LoopTurn, Throw, New, MakeList, Concat, ExpectString, IsClass, Emit}
use Rattle.code_pool.specs.Machine as machine
use Rattle.code_pool.specs.Machine.{State, Step, to, stuck, after, by, some, when, no_number, wrong_kind, on, jump, push}
use Rattle.machine_runs.proofs.Lists.{get_left, get_right}
use Rattle.machine_runs.proofs.Loaded.{Loaded, answers}
use Rattle.machine_runs.proofs.Runs.{goes, ends_one, bare, Shared, shared_pure, shared_bool, shared_text, shared_line, shared_is, shared_new, shared_spend}
use Rattle.machine_runs.proofs.Points.{Open, Point, point, Activation, lands, Fits, good_of, Leads, Does, acts, act_is, does_move, does_one, pushed, top_at, top_one_at, top_two_at}

-- the texts as one
abbrev pub flat : List (List ℕ) → List ℕ
flat [] = []
flat (a ∷ more) = a ++ flat more

texts_are : (us : List (List ℕ)) → machine.texts (map values.text us) ≡ Some (flat us)
texts_are [] = refl
texts_are (a ∷ more) = rw (texts_are more) refl

bool_step : (v : Value) (s : State) (go other : Bool → State → Step) → ((b : Bool) → go b s ≡ other b s)
    → after s (need_bool v (bare s.store)) go ≡ after s (need_bool v (bare s.store)) other
bool_step (bool b) s go other k = k b
bool_step null s go other k = refl
bool_step (values.num z) s go other k = refl
bool_step (values.text u) s go other k = refl
bool_step (values.at a) s go other k = refl

module _ (prog : Loaded) (f : Activation prog) where
  pub on_is : (x : Point) (slots : List Value) (s : Store) (values ops : List Value) → values ≡ (f.below ++ slots) ++ ops
      → on (lands prog f x slots s) values ≡ to (lands prog f (point x.open_vars (x.place + 1) ops) slots s)
  on_is x slots s values ops e = rw e refl

  -- where a value is pushed
  pub push_is : (x : Point) (slots : List Value) (s : Store) (v : Value) → push (lands prog f x slots s) ((f.below ++ slots) ++ x.ops) v ≡ to (lands prog f (point x.open_vars (x.place + 1) (x.ops ++ v ∷ [])) slots s)
  push_is x slots s v = on_is x slots s _ (x.ops ++ v ∷ []) (pushed prog f slots x.ops v)

  -- a slot, among all values
  pub slot_is : (slots ops : List Value) (i : ℕ) (v : Value) → slice_get slots i ≡ Some v → slice_get ((f.below ++ slots) ++ ops) (length f.below + i) ≡ Some v
  slot_is slots ops i v e =
      let h : i < length slots = slice_get_within slots i v e in
      let w : length f.below + i < length (f.below ++ slots) = omega (arith, length-append f.below slots) in
      get_left (f.below ++ slots) ops (length f.below + i) w ∙ get_right f.below slots i ∙ e

  -- `Local` pushes the slot's value
  pub local_is : (x : Point) (slots : List Value) (s : Store) (i : ℕ) (v : Value) → length slots ≡ f.unit.locals → slice_get f.unit.code x.place ≡ Some (Local i) → slice_get slots i ≡ Some v
      → goes prog (lands prog f x slots s) ≡ to (lands prog f (point x.open_vars (x.place + 1) (x.ops ++ v ∷ [])) slots s)
  local_is x slots s i v size at is =
      let inside : nat_lt i f.unit.locals ≡ true = lt-ltb i f.unit.locals (subst (λ k. i < k) size (slice_get_within slots i v is)) in
      act_is prog f x slots s (Local i) at ∙ rw (inside, slot_is slots x.ops i v is) (push_is x slots s v)

module _ {prog : Loaded} {f : Activation prog} where
  -- ---- values that are pushed

  pub does_const : (n : Open) (t : ℕ) (ops : List Value) (k : ℕ) (l : Literal) → slice_get f.unit.code t ≡ Some (Const k) → slice_get prog.pool.constants k ≡ Some l
      → Does prog f 1 (point n t ops) (pure (literal l)) (λ v. point n (t + 1) (ops ++ v ∷ []))
  does_const n t ops k l at is =
      does_move (λ r. literal l) (λ r. r)
      (λ slots r h. (slots, h, act_is prog f (point n t ops) slots r.store (Const k) at ∙ rw is (push_is prog f (point n t ops) slots r.store (literal l)), refl))

  -- the value of a slot
  pub does_slot : (n : Open) (t : ℕ) (ops : List Value) (i : ℕ) (g : Run Value → Value) → slice_get f.unit.code t ≡ Some (Local i)
      → ((slots : List Value) (r : Run Value) → Fits prog f n slots r → slice_get slots i ≡ Some (g r))
      → Does prog f 1 (point n t ops) (look g) (λ v. point n (t + 1) (ops ++ v ∷ []))
  does_slot n t ops i g at is =
      does_move g (λ r. r)
      (λ slots r h. (slots, h, local_is prog f (point n t ops) slots r.store i (g r) h.size at (is slots r h), refl))

  -- a variable
  pub does_local : (n : Open) (t : ℕ) (ops : List Value) (k : ℕ) → slice_get f.unit.code t ≡ Some (Local (f.first + k)) → k < n.vars
      → Does prog f 1 (point n t ops) (look (λ (r : Run Value). slice_index_or r.vars (place_of_slot r.vars k) null)) (λ v. point n (t + 1) (ops ++ v ∷ []))
  does_local n t ops k at less =
      does_slot n t ops (f.first + k) (λ r. slice_index_or r.vars (place_of_slot r.vars k) null) at
      (λ slots r h.
      let e : length r.vars - suc k ≡ n.vars - suc k = ap (λ m. m - suc k) h.count in
      let w : length r.vars - suc k < length r.vars = omega (arith, h.count) in
      h.vars k less ∙ ap (slice_get r.vars) (sym e) ∙ slice_get-get_or r.vars (length r.vars - suc k) null w)

  pub does_this : (n : Open) (t : ℕ) (ops : List Value) → slice_get f.unit.code t ≡ Some (Local 0) → f.of_this ≡ true
      → Does prog f 1 (point n t ops) (look (λ (r : Run Value). r.this)) (λ v. point n (t + 1) (ops ++ v ∷ []))
  does_this n t ops at is = does_slot n t ops 0 (λ r. r.this) at (λ slots r h. h.this is ∙ ap Some (sym h.self))

  -- `this`, whose value is known
  pub does_me : (o : Open) (t : ℕ) (ops : List Value) → slice_get f.unit.code t ≡ Some (Local 0) → f.of_this ≡ true
      → Does prog f 1 (point o t ops) (pure f.me) (λ _. point o (t + 1) (ops ++ f.me ∷ []))
  does_me o t ops at is =
      does_move (λ r. f.me) (λ r. r)
      (λ slots r h. (slots, h, local_is prog f (point o t ops) slots r.store 0 f.me h.size at (h.this is), refl))

  global_less : {n : Open} {slots : List Value} {r : Run Value} (k : ℕ) → k < length prog.p.globals → Fits prog f n slots r → k < length r.store.globals
  global_less k less h = subst (λ m. k < m) (sym (good_of prog f h).globals) less

  -- a top-level variable
  pub does_global : (n : Open) (t : ℕ) (ops : List Value) (k : ℕ) → slice_get f.unit.code t ≡ Some (Global k) → k < length prog.p.globals
      → Does prog f 1 (point n t ops) (look (λ (r : Run Value). slice_index_or r.store.globals k null)) (λ v. point n (t + 1) (ops ++ v ∷ []))
  does_global n t ops k at less =
      does_move (λ r. slice_index_or r.store.globals k null) (λ r. r)
      (λ slots r h. (
        slots,
        h,
        act_is prog f (point n t ops) slots r.store (Global k) at
            ∙ rw (slice_get-get_or r.store.globals k null (global_less k less h)) (push_is prog f (point n t ops) slots r.store (slice_index_or r.store.globals k null)),
        refl,
      ))

  -- an assignment to a top-level variable
  pub does_set_global : (o : Open) (t : ℕ) (ops : List Value) (k : ℕ) (w : Value) → slice_get f.unit.code t ≡ Some (SetGlobal k) → k < length prog.p.globals
      → Does prog f 1 (point o t (ops ++ w ∷ [])) (change (in_store (λ s. record s { globals = slice_set s.globals k w }))) (λ _. point o (t + 1) ops)
  does_set_global o t ops k w at less =
      does_move (λ r. tt) (λ r. in_store (λ s. record s { globals = slice_set s.globals k w }) r)
      (λ slots r h. (
        slots,
        record {
          size = h.size;
          count = h.count;
          vars = h.vars;
          kept = h.kept;
          this = h.this;
          self = h.self;
          follows = (follows prog.p).on f.begun r.store (record r.store { globals = slice_set r.store.globals k w }) h.follows ((follows prog.p).globals r.store k w);
        },
        act_is prog f (point o t (ops ++ w ∷ [])) slots r.store (SetGlobal k) at
            ∙ top_one_at prog f (point o t (ops ++ w ∷ [])) slots r.store ops w
            (λ below v. when no_number (nat_lt k (length r.store.globals)) (on (record (lands prog f (point o t (ops ++ w ∷ [])) slots r.store) { store = record r.store { globals = slice_set r.store.globals k v } }) below)) h.size refl
            ∙ rw (lt-ltb k (length r.store.globals) (global_less k less h)) refl,
        refl,
      ))

  -- ---- operands and places alone

  -- an instruction that only changes the operands and the place
  pub does_shift : {A : Type 0} (n : Open) (t u : ℕ) (old new : List Value) (i : Instr) (v : A) → slice_get f.unit.code t ≡ Some i
      → ((slots : List Value) (s : Store) → length slots ≡ f.unit.locals → acts prog f i (lands prog f (point n t old) slots s) ≡ to (lands prog f (point n u new) slots s))
      → Does prog f 1 (point n t old) (pure v) (λ _. point n u new)
  does_shift n t u old new i v at is = does_move (λ r. v) (λ r. r) (λ slots r h. (slots, h, act_is prog f (point n t old) slots r.store i at ∙ is slots r.store h.size, refl))

  pub does_jump : {A : Type 0} (n : Open) (t u : ℕ) (ops : List Value) (v : A) → slice_get f.unit.code t ≡ Some (Jump u) → Does prog f 1 (point n t ops) (pure v) (λ _. point n u ops)
  does_jump n t u ops v at = does_shift n t u ops ops (Jump u) v at (λ slots s size. refl)

  pub does_pop : {A : Type 0} (n : Open) (t : ℕ) (ops : List Value) (w : Value) (v : A) → slice_get f.unit.code t ≡ Some Pop
      → Does prog f 1 (point n t (ops ++ w ∷ [])) (pure v) (λ _. point n (t + 1) ops)
  does_pop n t ops w v at = does_shift n t (t + 1) (ops ++ w ∷ []) ops Pop v at
      (λ slots s size. top_one_at prog f (point n t (ops ++ w ∷ [])) slots s ops w (λ below v. on (lands prog f (point n t (ops ++ w ∷ [])) slots s) below) size refl)

  pub does_dup : {A : Type 0} (n : Open) (t : ℕ) (ops : List Value) (w : Value) (v : A) → slice_get f.unit.code t ≡ Some Dup
      → Does prog f 1 (point n t (ops ++ w ∷ [])) (pure v) (λ _. point n (t + 1) ((ops ++ w ∷ []) ++ w ∷ []))
  does_dup n t ops w v at = does_shift n t (t + 1) (ops ++ w ∷ []) ((ops ++ w ∷ []) ++ w ∷ []) Dup v at
      (λ slots s size.
      let q : State = lands prog f (point n t (ops ++ w ∷ [])) slots s in
      top_one_at prog f (point n t (ops ++ w ∷ [])) slots s ops w (λ below v. on q (q.values ++ v ∷ [])) size refl
      ∙ on_is prog f (point n t (ops ++ w ∷ [])) slots s _ ((ops ++ w ∷ []) ++ w ∷ []) (pushed prog f slots (ops ++ w ∷ []) w))

  pub does_dup2 : {A : Type 0} (n : Open) (t : ℕ) (ops : List Value) (w u : Value) (v : A) → slice_get f.unit.code t ≡ Some Dup2
      → Does prog f 1 (point n t (ops ++ w ∷ u ∷ [])) (pure v) (λ _. point n (t + 1) ((ops ++ w ∷ u ∷ []) ++ w ∷ u ∷ []))
  does_dup2 n t ops w u v at = does_shift n t (t + 1) (ops ++ w ∷ u ∷ []) ((ops ++ w ∷ u ∷ []) ++ w ∷ u ∷ []) Dup2 v at
      (λ slots s size.
      let q : State = lands prog f (point n t (ops ++ w ∷ u ∷ [])) slots s in
      top_two_at prog f (point n t (ops ++ w ∷ u ∷ [])) slots s ops w u (λ below v w. on q (q.values ++ v ∷ w ∷ [])) size refl
      ∙ on_is prog f (point n t (ops ++ w ∷ u ∷ [])) slots s _ ((ops ++ w ∷ u ∷ []) ++ w ∷ u ∷ []) (append_assoc (f.below ++ slots) (ops ++ w ∷ u ∷ []) (w ∷ u ∷ [])))

  -- ---- steps of the meaning

  -- a test, and the jump that it decides
  pub does_test : (n : Open) (t other : ℕ) (ops : List Value) (v : Value) → slice_get f.unit.code t ≡ Some (JumpIfFalse other)
      → Does prog f 1 (point n t (ops ++ v ∷ [])) (need_bool v) (λ b. choose b (point n (t + 1) ops) (point n other ops))
  does_test n t other ops v at =
      does_one (shared_bool v) (λ b. same_vars b)
      (λ slots r h.
      let s : State = lands prog f (point n t (ops ++ v ∷ [])) slots r.store in
      let vs : List Value = (f.below ++ slots) ++ ops in (
        s,
        act_is prog f (point n t (ops ++ v ∷ [])) slots r.store (JumpIfFalse other) at
            ∙ top_one_at prog f (point n t (ops ++ v ∷ [])) slots r.store ops v (λ below v. by (need_bool v) s (λ b q. choose b (on q below) (jump other q below))) h.size refl
            ∙ bool_step v s (λ b q. choose b (on q vs) (jump other q vs)) (λ b q. to (lands prog f (choose b (point n (t + 1) ops) (point n other ops)) slots q.store)) (λ b. lands_by slots r b),
      ))
    where
      same_vars : (b : Bool) → (choose b (point n (t + 1) ops) (point n other ops)).open_vars ≡ n
      same_vars true = refl
      same_vars false = refl

      lands_by : (slots : List Value) (r : Run Value) (b : Bool)
          → choose b (on (lands prog f (point n t (ops ++ v ∷ [])) slots r.store) ((f.below ++ slots) ++ ops)) (jump other (lands prog f (point n t (ops ++ v ∷ [])) slots r.store) ((f.below ++ slots) ++ ops))
          ≡ to (lands prog f (choose b (point n (t + 1) ops) (point n other ops)) slots r.store)
      lands_by slots r true = refl
      lands_by slots r false = refl

  -- An instruction that takes the last values, does a shared step, and pushes what it answers.
  pub does_by : {A : Type 0} (n : Open) (t : ℕ) (ops ws : List Value) (i : Instr) (m : M Value A) (shown : A → Value) → Shared prog.p m → slice_get f.unit.code t ≡ Some i
      → ((slots : List Value) (s : Store) → length slots ≡ f.unit.locals
      → acts prog f i (lands prog f (point n t (ops ++ ws)) slots s) ≡ by m (lands prog f (point n t (ops ++ ws)) slots s) (λ a q. push q ((f.below ++ slots) ++ ops) (shown a)))
      → Does prog f 1 (point n t (ops ++ ws)) m (λ a. point n (t + 1) (ops ++ shown a ∷ []))
  does_by {A = A} n t ops ws i m shown shared at is =
      does_one shared (λ a. refl)
      (λ slots r h.
      let s : State = lands prog f (point n t (ops ++ ws)) slots r.store in (
        s,
        act_is prog f (point n t (ops ++ ws)) slots r.store i at ∙ is slots r.store h.size
            ∙ ap (λ go. after s (m (bare r.store)) go)
            (λ j a q. to (record { frame = record q.frame { place = q.frame.place + 1 }; callers = q.callers; values = pushed prog f slots ops (shown a) j; store = q.store }))
            ∙ same_after slots r (m (bare r.store)),
      ))
    where
      same_after : (slots : List Value) (r : Run Value) (y : Result Value A)
          → after (lands prog f (point n t (ops ++ ws)) slots r.store) y (λ a q. to (record { frame = record q.frame { place = q.frame.place + 1 }; callers = q.callers; values = (f.below ++ slots) ++ (ops ++ shown a ∷ []); store = q.store }))
          ≡ after (lands prog f (point n t (ops ++ ws)) slots r.store) y (λ a q. to (lands prog f (point n (t + 1) (ops ++ shown a ∷ [])) slots q.store))
      same_after slots r (went a q) = refl
      same_after slots r (ended e q) = refl

  pub does_not : (n : Open) (t : ℕ) (ops : List Value) (v : Value) → slice_get f.unit.code t ≡ Some Not
      → Does prog f 1 (point n t (ops ++ v ∷ [])) (need_bool v) (λ b. point n (t + 1) (ops ++ bool (not b) ∷ []))
  does_not n t ops v at = does_by n t ops (v ∷ []) Not (need_bool v) (λ b. bool (not b)) (shared_bool v) at
      (λ slots s size. let q : State = lands prog f (point n t (ops ++ v ∷ [])) slots s in
      top_one_at prog f (point n t (ops ++ v ∷ [])) slots s ops v (λ below v. by (need_bool v) q (λ b q. push q below (bool (not b)))) size refl)

  pub does_expect_bool : (n : Open) (t : ℕ) (ops : List Value) (v : Value) → slice_get f.unit.code t ≡ Some ExpectBool
      → Does prog f 1 (point n t (ops ++ v ∷ [])) (need_bool v) (λ b. point n (t + 1) (ops ++ bool b ∷ []))
  does_expect_bool n t ops v at = does_by n t ops (v ∷ []) ExpectBool (need_bool v) bool (shared_bool v) at
      (λ slots s size. let q : State = lands prog f (point n t (ops ++ v ∷ [])) slots s in
      top_one_at prog f (point n t (ops ++ v ∷ [])) slots s ops v (λ below v. by (need_bool v) q (λ b q. push q below (bool b))) size refl)

  pub does_expect_text : (n : Open) (t : ℕ) (ops : List Value) (v : Value) → slice_get f.unit.code t ≡ Some ExpectString
      → Does prog f 1 (point n t (ops ++ v ∷ [])) (need_text v) (λ s. point n (t + 1) (ops ++ values.text s ∷ []))
  does_expect_text n t ops v at = does_by n t ops (v ∷ []) ExpectString (need_text v) (λ s. values.text s) (shared_text v) at
      (λ slots s size. let q : State = lands prog f (point n t (ops ++ v ∷ [])) slots s in
      top_one_at prog f (point n t (ops ++ v ∷ [])) slots s ops v (λ below v. by (need_text v) q (λ u q. push q below (values.text u))) size refl)

  pub does_emit : (n : Open) (t : ℕ) (ops : List Value) (u : List ℕ) → slice_get f.unit.code t ≡ Some Emit
      → Does prog f 1 (point n t (ops ++ values.text u ∷ [])) (add_line u) (λ _. point n (t + 1) ops)
  does_emit n t ops u at = does_one {x = point n t (ops ++ values.text u ∷ [])} {t = λ _. point n (t + 1) ops} (shared_line u) (λ _. refl)
      (λ slots r h. let s : State = lands prog f (point n t (ops ++ values.text u ∷ [])) slots r.store in (
        s,
        act_is prog f (point n t (ops ++ values.text u ∷ [])) slots r.store Emit at
            ∙ top_one_at prog f (point n t (ops ++ values.text u ∷ [])) slots r.store ops (values.text u) (λ below v. some wrong_kind (text_in v) (λ l. by (add_line l) s (λ _ q. on q below))) h.size refl,
      ))

  pub does_is_class : (n : Open) (t : ℕ) (ops : List Value) (v : Value) (c : ClassId) → slice_get f.unit.code t ≡ Some (IsClass c) → c.0 < length prog.p.classes
      → Does prog f 1 (point n t (ops ++ v ∷ [])) (calls.is_of (of_numbered prog.p) v c.0) (λ b. point n (t + 1) (ops ++ bool b ∷ []))
  does_is_class n t ops v c at less = does_by n t ops (v ∷ []) (IsClass c) (calls.is_of (of_numbered prog.p) v c.0) bool (shared_is v c.0) at
      (λ slots s size. let q : State = lands prog f (point n t (ops ++ v ∷ [])) slots s in
      top_one_at prog f (point n t (ops ++ v ∷ [])) slots s ops v
      (λ below v. when no_number (nat_lt c.0 (length prog.p.classes)) (by (calls.is_of (of_numbered prog.p) v c.0) q (λ b q. push q below (bool b)))) size refl
      ∙ rw (lt-ltb c.0 (length prog.p.classes) less) refl)

  pub does_concat : (n : Open) (t : ℕ) (ops : List Value) (us : List (List ℕ)) (count : ℕ) → slice_get f.unit.code t ≡ Some (Concat count) → length (map values.text us) ≡ count
      → Does prog f 1 (point n t (ops ++ map values.text us)) (pure (flat us)) (λ s. point n (t + 1) (ops ++ values.text s ∷ []))
  does_concat n t ops us count at len = does_by n t ops (map values.text us) (Concat count) (pure (flat us)) (λ s. values.text s) (shared_pure (flat us)) at
      (λ slots s size. let q : State = lands prog f (point n t (ops ++ map values.text us)) slots s in
      top_at prog f (point n t (ops ++ map values.text us)) slots s count ops (map values.text us) (λ below vs. some wrong_kind (machine.texts vs) (λ u. push q below (values.text u))) size refl len
      ∙ rw (texts_are us) refl)

  pub does_list : (n : Open) (t : ℕ) (ops vs : List Value) (count : ℕ) → slice_get f.unit.code t ≡ Some (MakeList count) → length vs ≡ count
      → Does prog f 1 (point n t (ops ++ vs)) (new (list vs)) (λ v. point n (t + 1) (ops ++ v ∷ []))
  does_list n t ops vs count at len = does_by n t ops vs (MakeList count) (new (list vs)) (λ v. v) (shared_new (list vs) tt) at
      (λ slots s size. let q : State = lands prog f (point n t (ops ++ vs)) slots s in
      top_at prog f (point n t (ops ++ vs)) slots s count ops vs (λ below vs. by (new (list vs)) q (λ v q. push q below v)) size refl len)

  -- a new object of a class that may be made
  pub does_new : (n : Open) (t : ℕ) (ops : List Value) (c : ClassId) → slice_get f.unit.code t ≡ Some (New c) → machine.may_make prog.p prog.pool (answers prog) c.0 ≡ true → IsNew prog.p (object c.0 (fields prog.p c.0))
      → Does prog f 1 (point n t (ops ++ [])) (new (object c.0 (fields prog.p c.0))) (λ v. point n (t + 1) (ops ++ v ∷ []))
  does_new n t ops c at may is = does_by n t ops [] (New c) (new (object c.0 (fields prog.p c.0))) (λ v. v) (shared_new (object c.0 (fields prog.p c.0)) is) at
      (λ slots s size. rw may (ap (λ l. by (new (object c.0 (fields prog.p c.0))) (lands prog f (point n t (ops ++ [])) slots s) (λ v q. push q ((f.below ++ slots) ++ l) v)) (append-nil ops)))

  -- a turn of a loop
  pub does_turn : (n : Open) (t : ℕ) (ops : List Value) → slice_get f.unit.code t ≡ Some LoopTurn → Does prog f 1 (point n t ops) spend (λ _. point n (t + 1) ops)
  does_turn n t ops at = does_one {prog = prog} {f = f} {x = point n t ops} {t = λ _. point n (t + 1) ops} shared_spend (λ _. refl)
      (λ slots r h. (lands prog f (point n t ops) slots r.store, act_is prog f (point n t ops) slots r.store LoopTurn at ∙ goes_on slots r (spend (bare r.store))))
    where
      goes_on : (slots : List Value) (r : Run Value) (y : Result Value (Unit {0}))
          → after (lands prog f (point n t ops) slots r.store) y (λ _ q. on q q.values) ≡ after (lands prog f (point n t ops) slots r.store) y (λ _ q. to (lands prog f (point n (t + 1) ops) slots q.store))
      goes_on slots r (went a q) = refl
      goes_on slots r (ended e q) = refl

  -- `throw` goes nowhere.
  pub does_throw : (n : Open) (t : ℕ) (ops : List Value) (v : Value) (w : Value → Point) → slice_get f.unit.code t ≡ Some Throw → Does prog f 1 (point n t (ops ++ v ∷ [])) (calls.throw (of_numbered prog.p) v) w
  does_throw n t ops v w at = record {
    does = λ slots r h.
        let x : Point = point n t (ops ++ v ∷ []) in
        let s : State = lands prog f x slots r.store in
        thrown v slots r s (act_is prog f x slots r.store Throw at ∙ top_one_at prog f x slots r.store ops v (λ below v. by (calls.throw (of_numbered prog.p) v) s (λ _ s. stuck wrong_kind)) h.size refl);
  }
    where
      thrown : (v : Value) (slots : List Value) (r : Run Value) (s : State) → goes prog s ≡ after s (calls.throw (of_numbered prog.p) v (bare r.store)) (λ _ s. stuck wrong_kind)
          → Leads prog f 1 r.store.turns s w (calls.throw (of_numbered prog.p) v r)
      thrown null slots r s e = record { count = 1; ends = ends_one prog s _ r.store e; bound = omega arith }
      thrown (bool b) slots r s e = record { count = 1; ends = ends_one prog s _ r.store e; bound = omega arith }
      thrown (values.num z) slots r s e = record { count = 1; ends = ends_one prog s _ r.store e; bound = omega arith }
      thrown (values.text u) slots r s e = record { count = 1; ends = ends_one prog s _ r.store e; bound = omega arith }
      thrown (values.at a) slots r s e = record { count = 1; ends = ends_one prog s _ r.store e; bound = omega arith }

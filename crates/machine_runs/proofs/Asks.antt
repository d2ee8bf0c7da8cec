-- An instruction asks a cell at most once.
use Rattle.std.proofs.Common.{◌≡◌, ℕ, zero, suc, ◌+◌, ◌-◌, ◌≤◌, List, [], ◌∷◌, ◌++◌, length, map, take, drop, refl, arith, length-append}
use Rattle.std.specs.Prelude.{Bool, true, false, not, ◌&&◌, ◌||◌, nat_lt, nat_eq, slice_get, slice_set, slice_index_or, Option, Some, None, pos, negsuc}
use Rattle.program.specs.declared.numbered.Method.{Method}
use Rattle.program.specs.declared.numbered.Selector.{Selector}
use Rattle.program.specs.declared.numbered.Target as numbers
use Rattle.program.specs.declared.numbered.Target.TheVariants as target
use Rattle.program.specs.BuiltIn.{built_in_members}
use Rattle.program.specs.Parts.{Parts}
use Rattle.dart_values.specs.Natives.{native, thing_at}
use Rattle.dart_values.specs.Reads.{field_of, text_in}
use Rattle.dart_values.specs.Values as values
use Rattle.dart_values.specs.Values.{Value, null, Thing, object, list, invocation, class_of}
use Rattle.dart_meaning.specs.Calls as calls
use Rattle.dart_meaning.specs.Entry.{first_store, greatest_depth}
use Rattle.dart_meaning.specs.Literals.{literal}
use Rattle.dart_meaning.specs.Numbered.{of_numbered, fields}
use Rattle.dart_meaning.specs.Run.{Store, Ending, Result, went, ended, M, stack_overflow, choose, spend, spend_from, need_bool, need_text, new, set_field, add_line}
use Rattle.meaning_laws.specs.Laws.{last}
use Rattle.code_unit.specs.declared.instr.Instr.{Instr}
use Rattle.code_unit.specs.declared.instr.Instr.TheVariants.{Const, Local, SetLocal, Global, SetGlobal, Pop, Dup, Dup2, Jump, JumpIfFalse, ExpectBool, Not, LoopTurn, Call, Equal, CallStatic, CallMethod, Return, Throw, New, SetField, MakeList, Concat, ExpectString, IsClass, Emit, ElementOr}
use Rattle.code_unit.specs.declared.unit.Unit.{Unit as CodeUnit}
use Rattle.code_pool.specs.declared.pool.MethodBody.{MethodBody}
use Rattle.code_pool.specs.declared.pool.MethodBody.TheVariants.{Native, ReadField, WriteField, Code}
use Rattle.code_pool.specs.Pool.{Pool}
use Rattle.code_pool.specs.Machine as m
use Rattle.code_pool.specs.Machine.{Frame, State, Lack, Step, to, over, stuck, Outcome, ends, unfinished, is_stuck, by, after, exec, started, resume}
use Rattle.machine_runs.proofs.Runs.{bare}

-- A step leads to at most so many calls that asked more than this store has.
data Adds (k : ℕ) (t : Store) : Step → Type 0 where
  goes_on : {s : State} → length s.store.asked ≤ k + length t.asked → Adds k t (to s)
  is_over : {e : Ending} {s : Store} → length s.asked ≤ k + length t.asked → Adds k t (over e s)
  lacks : {lack : Lack} → Adds k t (stuck lack)

-- A step of the meaning that asks no cell.
abbrev Quiet : {A : Type 0} → M Value A → Type 0
Quiet m = (s : Store) → length (last (m (bare s))).store.asked ≡ length s.asked

quiet_bool : (v : Value) → Quiet (need_bool v)
quiet_bool (values.bool b) s = refl
quiet_bool null s = refl
quiet_bool (values.num z) s = refl
quiet_bool (values.text u) s = refl
quiet_bool (values.at a) s = refl

quiet_text : (v : Value) → Quiet (need_text v)
quiet_text (values.text u) s = refl
quiet_text null s = refl
quiet_text (values.bool b) s = refl
quiet_text (values.num z) s = refl
quiet_text (values.at a) s = refl

quiet_spend : Quiet spend
quiet_spend s = by_turns s.turns
  where
    by_turns : (k : ℕ) → length (last (spend_from k (bare s))).store.asked ≡ length s.asked
    by_turns zero = refl
    by_turns (suc k) = refl

quiet_native : (p : Parts) (n : ℕ) (v : Value) (args : List Value) → Quiet (calls.natively (of_numbered p) n v args)
quiet_native p n v args s = by_given (native (of_numbered p).class_name n s.heap v args)
  where
    by_given : (g : values.Given) → length (last (calls.given g (bare s))).store.asked ≡ length s.asked
    by_given (values.gives heap w) = refl
    by_given (values.traps t) = refl

quiet_throw : (p : Parts) (v : Value) → Quiet (calls.throw (of_numbered p) v)
quiet_throw p null s = refl
quiet_throw p (values.bool b) s = refl
quiet_throw p (values.num z) s = refl
quiet_throw p (values.text u) s = refl
quiet_throw p (values.at a) s = refl

quiet_is : (p : Parts) (v : Value) (c : ℕ) → Quiet (calls.is_of (of_numbered p) v c)
quiet_is p null c s = refl
quiet_is p (values.bool b) c s = refl
quiet_is p (values.num z) c s = refl
quiet_is p (values.text u) c s = refl
quiet_is p (values.at a) c s = refl

-- ---- steps put together

module _ (k : ℕ) (t : Store) where
  some_adds : {A : Type 0} (lack : Lack) (o : Option A) (go : A → Step) → ((a : A) → Adds k t (go a)) → Adds k t (m.some lack o go)
  some_adds lack None go h = lacks
  some_adds lack (Some a) go h = h a

  when_adds : (lack : Lack) (b : Bool) (x : Step) → Adds k t x → Adds k t (m.when lack b x)
  when_adds lack true x h = h
  when_adds lack false x h = lacks

  unless_adds : (lack : Lack) (b : Bool) (x : Step) → Adds k t x → Adds k t (m.unless lack b x)
  unless_adds lack true x h = lacks
  unless_adds lack false x h = h

  choose_adds : (b : Bool) (x y : Step) → Adds k t x → Adds k t y → Adds k t (choose b x y)
  choose_adds true x y h i = h
  choose_adds false x y h i = i

  one_adds : (vs : List Value) (go : Value → Step) → ((v : Value) → Adds k t (go v)) → Adds k t (m.one vs go)
  one_adds [] go h = lacks
  one_adds (v ∷ []) go h = h v
  one_adds (v ∷ w ∷ more) go h = lacks

  two_adds : (vs : List Value) (go : Value → Value → Step) → ((v w : Value) → Adds k t (go v w)) → Adds k t (m.two vs go)
  two_adds [] go h = lacks
  two_adds (v ∷ []) go h = lacks
  two_adds (v ∷ w ∷ []) go h = h v w
  two_adds (v ∷ w ∷ x ∷ more) go h = lacks

  receiver_adds : (vs : List Value) (go : Value → List Value → Step) → ((v : Value) (args : List Value) → Adds k t (go v args)) → Adds k t (m.receiver vs go)
  receiver_adds [] go h = lacks
  receiver_adds (v ∷ args) go h = h v args

  top_adds : (n : ℕ) (unit : CodeUnit) (s : State) (go : List Value → List Value → Step) → ((below vs : List Value) → Adds k t (go below vs)) → Adds k t (m.top n unit s go)
  top_adds n unit s go h = when_adds m.no_operand _ _ (h (take (length s.values - n) s.values) (drop (length s.values - n) s.values))

  top_one_adds : (unit : CodeUnit) (s : State) (go : List Value → Value → Step) → ((below : List Value) (v : Value) → Adds k t (go below v)) → Adds k t (m.top_one unit s go)
  top_one_adds unit s go h = top_adds 1 unit s _ (λ below vs. one_adds vs (go below) (h below))

  top_two_adds : (unit : CodeUnit) (s : State) (go : List Value → Value → Value → Step) → ((below : List Value) (v w : Value) → Adds k t (go below v w)) → Adds k t (m.top_two unit s go)
  top_two_adds unit s go h = top_adds 2 unit s _ (λ below vs. two_adds vs (go below) (h below))

  after_adds : {A : Type 0} (s : State) (y : Result Value A) (go : A → State → Step) → length (last y).store.asked ≤ k + length t.asked → ((a : A) (store : Store) → length store.asked ≡ length (last y).store.asked → Adds k t (go a (record s { store = store })))
      → Adds k t (after s y go)
  after_adds s (went a r) go le h = h a r.store refl
  after_adds s (ended e r) go le h = is_over le

  -- behind a step that asks none
  by_adds : {A : Type 0} (x : M Value A) (s : State) (go : A → State → Step) → Quiet x → length s.store.asked ≤ k + length t.asked
      → ((a : A) (store : Store) → length store.asked ≤ k + length t.asked → Adds k t (go a (record s { store = store }))) → Adds k t (by x s go)
  by_adds x s go quiet le h = after_adds s (x (bare s.store)) go (omega (arith, quiet s.store, le)) (λ a store e. h a store (omega (arith, e, quiet s.store, le)))

module _ (p : Parts) (pool : Pool) (answers : ℕ → ℕ → numbers.Target) where
  -- ---- calls, behind the cell that was asked

  module _ (k : ℕ) (t : Store) where
    enter_adds : (u : ℕ) (s : State) (below args : List Value) → length s.store.asked ≤ k + length t.asked → Adds k t (m.enter p pool answers u s below args)
    enter_adds u s below args le =
        some_adds k t m.no_number (slice_get pool.units u) _ (λ (unit : CodeUnit). when_adds k t m.wrong_count (m.accepts unit (length args)) _
        (by_adds k t spend s (λ _ q. choose (nat_lt (length q.callers + 1) greatest_depth) (m.begin u unit q below args) (over stack_overflow q.store)) quiet_spend le
        (λ _ store h. choose_adds k t (nat_lt (length s.callers + 1) greatest_depth) (m.begin u unit (record s { store = store }) below args) (over stack_overflow store) (goes_on h) (is_over h))))

    natively_adds : (n c : ℕ) (s : State) (below : List Value) (v : Value) (args : List Value) → length s.store.asked ≤ k + length t.asked → Adds k t (m.natively p pool answers n c s below v args)
    natively_adds n c s below v args le =
        unless_adds k t m.wrong_kind (nat_eq n calls.list_to_string) _ (some_adds k t m.no_number (slice_get built_in_members n) _ (λ (j : Method).
        when_adds k t m.wrong_receiver (m.is_owned p pool answers c j.owner.0) _ (when_adds k t m.wrong_count (nat_eq (length args) j.required) _
        (by_adds k t (calls.natively (of_numbered p) n v args) s (λ w q. m.push q below w) (quiet_native p n v args) le (λ w store h. goes_on h)))))

    perform_adds : (does : MethodBody) (c : ℕ) (s : State) (below : List Value) (v : Value) (args : List Value) → length s.store.asked ≤ k + length t.asked → Adds k t (m.perform p pool answers does c s below v args)
    perform_adds (Native n) c s below v args le = natively_adds n.0 c s below v args le
    perform_adds (ReadField j) c s below v [] le = when_adds k t m.wrong_receiver (m.has_field s.store.heap v j) (m.push s below (field_of s.store.heap v j)) (goes_on le)
    perform_adds (ReadField j) c s below v (a ∷ args) le = lacks
    perform_adds (WriteField j) c s below v [] le = lacks
    perform_adds (WriteField j) c s below v (w ∷ []) le =
        when_adds k t m.wrong_receiver (m.has_field s.store.heap v j) _ (by_adds k t (set_field v j w) s (λ _ q. m.push q below null) (λ s. refl) le (λ _ store h. goes_on h))
    perform_adds (WriteField j) c s below v (w ∷ a ∷ args) le = lacks
    perform_adds (Code u) c s below v args le = enter_adds u.0 s below (v ∷ args) le

    method_adds : (i c : ℕ) (s : State) (below : List Value) (v : Value) (args : List Value) → length s.store.asked ≤ k + length t.asked → Adds k t (m.call_method p pool answers i c s below v args)
    method_adds i c s below v args le =
        some_adds k t m.no_number (slice_get pool.methods i) _ (λ does. some_adds k t m.no_number (slice_get p.methods i) _ (λ (j : Method).
        when_adds k t m.wrong_receiver (m.is_owned p pool answers c j.owner.0) _ (perform_adds does c s below v args le)))

    reach_adds : (go : numbers.Target) (sel : Selector) (c : ℕ) (s : State) (below : List Value) (v : Value) (args : List Value) → length s.store.asked ≤ k + length t.asked → Adds k t (m.reach p pool answers go sel c s below v args)
    reach_adds (target.Method i) sel c s below v args le = method_adds i.0 c s below v args le
    reach_adds (target.Nsm i) sel c s below v args le =
        by_adds k t (calls.invoked sel args) s (λ w q. m.call_method p pool answers i.0 c q below v (w ∷ [])) (λ s. refl) le (λ w store h. method_adds i.0 c (record s { store = store }) below v (w ∷ []) h)

  -- ---- each instruction

  module _ (s : State) where
    abbrev One : Step → Type 0
    One x = Adds 1 s.store x

    same : length s.store.asked ≤ 1 + length s.store.asked
    same = omega arith

    send_adds : (site : ℕ) (below : List Value) (v : Value) (args : List Value) → One (m.send p pool answers site s below v args)
    send_adds site below v args =
        some_adds 1 s.store m.no_number (slice_get pool.sites site) _ (λ j. some_adds 1 s.store m.no_number (slice_get p.selectors j.0) _ (λ (sel : Selector).
        reach_adds 1 s.store (answers (class_of s.store.heap v) j.0) sel (class_of s.store.heap v) (record s { store = record s.store { asked = s.store.asked ++ (site, class_of s.store.heap v) ∷ [] } }) below v args
        (omega (arith, length-append s.store.asked ((site, class_of s.store.heap v) ∷ [])))))

    -- behind a step that asks none, on with other values
    quietly : {A : Type 0} (x : M Value A) (go : A → State → Step) → Quiet x → ((a : A) (store : Store) → length store.asked ≤ 1 + length s.store.asked → One (go a (record s { store = store }))) → One (by x s go)
    quietly x go quiet h = by_adds 1 s.store x s go quiet same h

    back_adds : (vs : List Value) (o : Option Frame) → One (m.back s vs o)
    back_adds vs None = is_over same
    back_adds vs (Some f) = goes_on same

    element_adds : (t : ℕ) (below : List Value) (i : ℕ) (o : Option Thing) → One (m.element_in p pool answers t s below i o)
    element_adds t below i (Some (list items)) =
        choose_adds 1 s.store (nat_lt i (length items)) (m.on s (below ++ slice_index_or items i null ∷ values.num (pos (i + 1)) ∷ [])) (m.jump t s below) (goes_on same) (goes_on same)
    element_adds t below i (Some (object c held)) = lacks
    element_adds t below i (Some (invocation name args kind)) = lacks
    element_adds t below i None = lacks

    number_adds : (t : ℕ) (below : List Value) (v i : Value) → One (m.element p pool answers t s below v i)
    number_adds t below v (values.num (pos i)) = element_adds t below i (thing_at s.store.heap v)
    number_adds t below v (values.num (negsuc i)) = lacks
    number_adds t below v null = lacks
    number_adds t below v (values.bool b) = lacks
    number_adds t below v (values.text u) = lacks
    number_adds t below v (values.at a) = lacks

    act_adds : (unit : CodeUnit) (i : Instr) → One (m.act p pool answers unit i s)
    act_adds unit (Const j) = some_adds 1 s.store m.no_number (slice_get pool.constants j) _ (λ c. goes_on same)
    act_adds unit (Local j) = when_adds 1 s.store m.no_slot (nat_lt j unit.locals) _ (some_adds 1 s.store m.no_slot (slice_get s.values (s.frame.base + j)) _ (λ v. goes_on same))
    act_adds unit (SetLocal j) = top_one_adds 1 s.store unit s _ (λ below v. when_adds 1 s.store m.no_slot (nat_lt j unit.locals && nat_lt (s.frame.base + j) (length below)) (m.on s (slice_set below (s.frame.base + j) v)) (goes_on same))
    act_adds unit (Global g) = some_adds 1 s.store m.no_number (slice_get s.store.globals g) _ (λ v. goes_on same)
    act_adds unit (SetGlobal g) = top_one_adds 1 s.store unit s _ (λ below v. when_adds 1 s.store m.no_number (nat_lt g (length s.store.globals)) (m.on (record s { store = record s.store { globals = slice_set s.store.globals g v } }) below) (goes_on same))
    act_adds unit Pop = top_one_adds 1 s.store unit s (λ below v. m.on s below) (λ below v. goes_on same)
    act_adds unit Dup = top_one_adds 1 s.store unit s (λ below v. m.on s (s.values ++ v ∷ [])) (λ below v. goes_on same)
    act_adds unit Dup2 = top_two_adds 1 s.store unit s (λ below v w. m.on s (s.values ++ v ∷ w ∷ [])) (λ below v w. goes_on same)
    act_adds unit (Jump t) = goes_on same
    act_adds unit (JumpIfFalse t) = top_one_adds 1 s.store unit s _ (λ below v. quietly (need_bool v) (λ b q. choose b (m.on q below) (m.jump t q below)) (quiet_bool v) (λ b store h. choose_adds 1 s.store b (m.on (record s { store = store }) below) (m.jump t (record s { store = store }) below) (goes_on h) (goes_on h)))
    act_adds unit ExpectBool = top_one_adds 1 s.store unit s _ (λ below v. quietly (need_bool v) (λ b q. m.push q below (values.bool b)) (quiet_bool v) (λ b store h. goes_on h))
    act_adds unit Not = top_one_adds 1 s.store unit s _ (λ below v. quietly (need_bool v) (λ b q. m.push q below (values.bool (not b))) (quiet_bool v) (λ b store h. goes_on h))
    act_adds unit LoopTurn = quietly spend (λ _ q. m.on q q.values) quiet_spend (λ _ store h. goes_on h)
    act_adds unit (Call site n) = top_adds 1 s.store (suc n) unit s _ (λ below vs. receiver_adds 1 s.store vs (m.send p pool answers site.0 s below) (λ v args. send_adds site.0 below v args))
    act_adds unit (Equal site) =
        top_two_adds 1 s.store unit s _ (λ below v w. choose_adds 1 s.store (calls.is_null v || calls.is_null w) (m.push s below (values.bool (calls.is_null v && calls.is_null w))) (m.send p pool answers site.0 s below v (w ∷ [])) (goes_on same) (send_adds site.0 below v (w ∷ [])))
    act_adds unit (CallStatic j n) = top_adds 1 s.store n unit s _ (λ below vs. some_adds 1 s.store m.no_number (slice_get pool.statics j) _ (λ u. enter_adds 1 s.store u.0 s below vs same))
    act_adds unit (CallMethod j n) =
        top_adds 1 s.store n unit s _ (λ below vs. receiver_adds 1 s.store vs (λ v. m.call_method p pool answers j.0 (class_of s.store.heap v) s below v) (λ v args. method_adds 1 s.store j.0 (class_of s.store.heap v) s below v args same))
    act_adds unit Return = top_one_adds 1 s.store unit s (λ below v. m.leave s v) (λ below v. back_adds (take s.frame.base s.values ++ v ∷ []) (slice_get s.callers (length s.callers - 1)))
    act_adds unit Throw = top_one_adds 1 s.store unit s _ (λ below v. quietly (calls.throw (of_numbered p) v) (λ _ q. stuck m.wrong_kind) (quiet_throw p v) (λ _ store h. lacks))
    act_adds unit (New c) = when_adds 1 s.store m.wrong_class (m.may_make p pool answers c.0) _ (quietly (new (object c.0 (fields p c.0))) (λ v q. m.push q q.values v) (λ s. refl) (λ v store h. goes_on h))
    act_adds unit (SetField j) =
        top_two_adds 1 s.store unit s _ (λ below v w. when_adds 1 s.store m.wrong_receiver (m.has_field s.store.heap v j) _ (quietly (set_field v j w) (λ _ q. m.on q below) (λ s. refl) (λ _ store h. goes_on h)))
    act_adds unit (MakeList n) = top_adds 1 s.store n unit s _ (λ below vs. quietly (new (list vs)) (λ v q. m.push q below v) (λ s. refl) (λ v store h. goes_on h))
    act_adds unit (Concat n) = top_adds 1 s.store n unit s _ (λ below vs. some_adds 1 s.store m.wrong_kind (m.texts vs) (λ u. m.push s below (values.text u)) (λ u. goes_on same))
    act_adds unit ExpectString = top_one_adds 1 s.store unit s _ (λ below v. quietly (need_text v) (λ u q. m.push q below (values.text u)) (quiet_text v) (λ u store h. goes_on h))
    act_adds unit (IsClass c) =
        top_one_adds 1 s.store unit s _ (λ below v. when_adds 1 s.store m.no_number (nat_lt c.0 (length p.classes)) _ (quietly (calls.is_of (of_numbered p) v c.0) (λ b q. m.push q below (values.bool b)) (quiet_is p v c.0) (λ b store h. goes_on h)))
    act_adds unit Emit = top_one_adds 1 s.store unit s _ (λ below v. some_adds 1 s.store m.wrong_kind (text_in v) _ (λ u. quietly (add_line u) (λ _ q. m.on q below) (λ s. refl) (λ _ store h. goes_on h)))
    act_adds unit (ElementOr t) = top_two_adds 1 s.store unit s _ (λ below v i. number_adds t below v i)

    step_adds : One (m.step p pool answers s)
    step_adds = some_adds 1 s.store m.no_place (slice_get pool.units s.frame.unit) _ (λ (unit : CodeUnit). some_adds 1 s.store m.no_place (slice_get unit.code s.frame.place) _ (λ i. act_adds unit i))

  -- ---- runs

  -- what ended has asked at most so many cells more
  abbrev pub Few : ℕ → ℕ → Outcome → Type 0
  Few k before (ends x) = length x.asked ≤ k + before
  Few k before unfinished = Unit {0}
  Few k before (is_stuck lack) = Unit {0}

  few_more : (k before after_ : ℕ) (o : Outcome) → after_ ≤ 1 + before → Few k after_ o → Few (suc k) before o
  few_more k before after_ (ends x) le h = omega (arith, le, h)
  few_more k before after_ unfinished le h = tt
  few_more k before after_ (is_stuck lack) le h = tt

  exec_few : (k : ℕ) (s : State) → Few k (length s.store.asked) (exec p pool answers k s)
  unfolding exec
  exec_few zero s = tt
  exec_few (suc k) s = by_step (λ q. exec_few k q) (m.step p pool answers s) (step_adds s)
    where
      by_step : ((q : State) → Few k (length q.store.asked) (exec p pool answers k q)) → (x : Step) → Adds 1 s.store x → Few (suc k) (length s.store.asked) (resume x (exec p pool answers k))
      by_step next (to q) (goes_on le) = few_more k (length s.store.asked) (length q.store.asked) (exec p pool answers k q) le (next q)
      by_step next (over e q) (is_over le) = omega (arith, le)
      by_step next (stuck lack) lacks = tt

  -- From an entry point, within so many instructions, at most so many cells are asked.
  pub asks_few : (e turns k : ℕ) → Few k 0 (resume (started p pool answers e turns) (exec p pool answers k))
  asks_few e turns k =
      resumed (started p pool answers e turns)
      (some_adds 0 (first_store (map literal p.globals) turns) m.no_number (slice_get pool.entries e) _ (λ u. some_adds 0 (first_store (map literal p.globals) turns) m.no_number (slice_get pool.units u.0) _ (λ (unit : CodeUnit).
      when_adds 0 (first_store (map literal p.globals) turns) m.wrong_count (nat_eq unit.params 0) _ (by_adds 0 (first_store (map literal p.globals) turns) spend (m.opening u.0 unit (first_store (map literal p.globals) turns)) (λ _ q. to q) quiet_spend (omega arith) (λ _ store h. goes_on h)))))
    where
      weaker : (n_ : ℕ) (o : Outcome) → n_ ≤ 0 → Few k n_ o → Few k 0 o
      weaker n_ (ends x) le h = omega (arith, le, h)
      weaker n_ unfinished le h = tt
      weaker n_ (is_stuck lack) le h = tt

      resumed : (x : Step) → Adds 0 (first_store (map literal p.globals) turns) x → Few k 0 (resume x (exec p pool answers k))
      resumed (to q) (goes_on le) = weaker (length q.store.asked) (exec p pool answers k q) (omega (arith, le)) (exec_few k q)
      resumed (over e q) (is_over le) = omega (arith, le)
      resumed (stuck lack) lacks = tt

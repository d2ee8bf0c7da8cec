-- A run over sound units has its parts: places, operands and slots are there at each step.
use Rattle.std.proofs.Common.{◌≡◌, ℕ, zero, suc, ◌+◌, ◌-◌, ◌<◌, ◌≤◌, Bool, true, false, not, ◌&&◌, ◌||◌, nat_le, nat_lt, nat_eq, List, [], ◌∷◌, ◌++◌, length, map, take, drop, replicate, slice_get, slice_set, refl, sym, ◌∙◌, ap, subst, arith, length-append}
use Rattle.std.specs.Prelude.{⊤, Option, Some, None, pos, negsuc}
use Rattle.dart_values.specs.Natives.{thing_at}
use Rattle.dart_values.specs.Reads.{text_in}
use Rattle.std.proofs.lemmas.Bool.Decides.{nat_tests}
use Rattle.std.proofs.lemmas.Option.{slice_get_within}
use Rattle.program.specs.declared.ids.UnitId.{UnitId}
use Rattle.program.specs.declared.ids.SelectorId.{SelectorId}
use Rattle.program.specs.declared.numbered.Method.{Method}
use Rattle.program.specs.declared.numbered.Selector.{Selector}
use Rattle.program.specs.declared.numbered.Target.{Target}
use Rattle.program.specs.declared.numbered.Target.TheVariants as target
use Rattle.program.specs.Parts.{Parts}
use Rattle.program.specs.BuiltIn.{built_in_members}
use Rattle.dart_meaning.specs.Calls as calls
use Rattle.dart_meaning.specs.Calls.{list_to_string}
use Rattle.dart_meaning.specs.Numbered.{of_numbered, fields}
use Rattle.dart_values.specs.Values.{Value, null, bool, num, text, at, Thing, object, list, invocation, class_of}
use Rattle.dart_meaning.specs.Run.{Store, Ending, Result, went, ended, stack_overflow, M, choose, spend, set_field, ask, need_bool, need_text, new, add_line}
use Rattle.dart_meaning.specs.Literals.{literal}
use Rattle.dart_meaning.specs.Entry.{greatest_depth, first_store}
use Rattle.code_unit.specs.declared.instr.Instr.{Instr}
use Rattle.code_unit.specs.declared.instr.Instr.TheVariants.{Const, Local, SetLocal, Global, SetGlobal, Pop, Dup, Dup2, Jump, JumpIfFalse, ExpectBool, Not, LoopTurn, Call, Equal, CallStatic, CallMethod, Return, Throw, New, SetField, MakeList, Concat, ExpectString, IsClass, Emit, ElementOr}
use Rattle.code_unit.specs.declared.unit.Unit.{Unit}
use Rattle.code_unit.specs.Effects.{effect}
use Rattle.code_unit.specs.Sound.{IsDepth, HasSlot, DepthsAgreeAt}
use Rattle.code_pool.specs.declared.pool.MethodBody.{MethodBody}
use Rattle.code_pool.specs.declared.pool.MethodBody.TheVariants.{Native, ReadField, WriteField, Code}
use Rattle.code_pool.specs.Pool.{Pool}
use Rattle.code_pool.specs.Machine as m
use Rattle.code_pool.specs.Machine.{Frame, State, Lack, Step, to, over, stuck, Outcome, slot_count, accepts, filled_in, slots}
use Rattle.code_pool.specs.Laws.{AllSound, IsOwed, HasItsParts}

-- ---- lists and tests

le_true : (n k : ℕ) → n ≤ k → nat_le n k ≡ true
le_true n k h = grind (arith, nat_tests)

true_le : (n k : ℕ) → nat_le n k ≡ true → n ≤ k
true_le n k h = grind (arith, nat_tests)

lt_true : (n k : ℕ) → n < k → nat_lt n k ≡ true
lt_true n k h = grind (arith, nat_tests)

both_true : (a b : Bool) → a ≡ true → b ≡ true → (a && b) ≡ true
both_true true b e f = f
both_true false b e f = e

left_true : (a b : Bool) → (a && b) ≡ true → a ≡ true
left_true true b e = refl
left_true false b e = e

right_true : (a b : Bool) → (a && b) ≡ true → b ≡ true
right_true true b e = e
right_true false b e = absurd cc

some_eq : {A : Type 0} {a b : A} → Some a ≡ Some b → a ≡ b
some_eq e = cc

length_take : {A : Type 0} (n : ℕ) (xs : List A) → n ≤ length xs → length (take n xs) ≡ n
length_take zero xs h = refl
length_take (suc n) [] h = absurd (omega arith)
length_take (suc n) (x ∷ xs) h = ap suc (length_take n xs (omega arith))

length_drop : {A : Type 0} (n : ℕ) (xs : List A) → length (drop n xs) ≡ length xs - n
length_drop zero xs = omega arith
length_drop (suc n) [] = omega arith
length_drop (suc n) (x ∷ xs) = let more = length_drop n xs in omega (arith, more)

length_map : {A B : Type 0} (f : A → B) (xs : List A) → length (map f xs) ≡ length xs
length_map f [] = refl
length_map f (x ∷ xs) = ap suc (length_map f xs)

length_replicate : {A : Type 0} (n : ℕ) (x : A) → length (replicate n x) ≡ n
length_replicate zero x = refl
length_replicate (suc n) x = ap suc (length_replicate n x)

length_set : {A : Type 0} (xs : List A) (i : ℕ) (x : A) → length (slice_set xs i x) ≡ length xs
length_set [] i x = refl
length_set (y ∷ xs) zero x = refl
length_set (y ∷ xs) (suc i) x = ap suc (length_set xs i x)

item_at : {A : Type 0} (xs : List A) (t : ℕ) → t < length xs → (x : A) × (slice_get xs t ≡ Some x)
item_at [] t lt = absurd (omega arith)
item_at (x ∷ xs) zero lt = (x, refl)
item_at (x ∷ xs) (suc t) lt = item_at xs t (omega arith)

-- ---- the slots of a unit

filled_length : (u : Unit) (args : List Value) → accepts u (length args) ≡ true → length (filled_in u args) ≡ u.params
filled_length u args h =
    let least = true_le (length args) u.params (left_true _ (nat_le u.params (length args + length u.defaults)) h) in
    let most = true_le u.params (length args + length u.defaults) (right_true (nat_le (length args) u.params) _ h) in
    let joined = length-append args (drop (length args + length u.defaults - u.params) (map literal u.defaults)) in
    let dropped = length_drop (length args + length u.defaults - u.params) (map literal u.defaults) in
    let mapped = length_map literal u.defaults in
    omega (arith, least, most, joined, dropped, mapped)

slots_length : (u : Unit) (args : List Value) → accepts u (length args) ≡ true → length (slots u args) ≡ slot_count u
slots_length u args h =
    let joined = length-append (filled_in u args) (replicate (u.locals - u.params) null) in
    let filled = filled_length u args h in
    let rest = length_replicate (u.locals - u.params) null in
    omega (arith, joined, filled, rest)

takes_none : (u : Unit) → nat_eq u.params 0 ≡ true → accepts u 0 ≡ true
takes_none u h =
    let none : u.params ≡ 0 = grind (arith, nat_tests) in
    both_true (nat_le 0 u.params) (nat_le u.params (0 + length u.defaults)) (le_true 0 u.params (omega arith)) (le_true u.params (0 + length u.defaults) (omega (arith, none)))

-- ---- steps

module _ (p : Parts) (pool : Pool) (answers : ℕ → ℕ → Target) (sound : AllSound pool) where
  -- A frame waits behind its call: the answer comes on top of so many values, and is an operand at its place.
  pub record Waits (f : Frame) (below : ℕ) : Type 0 where
    unit : Unit
    is : slice_get pool.units f.unit ≡ Some unit
    depth : ℕ
    stated : IsDepth unit f.place depth
    height : below + 1 ≡ f.base + slot_count unit + depth

  -- where the slots of the frame behind begin
  abbrev pub base_of : List Frame → ℕ → ℕ
  base_of [] b = b
  base_of (f ∷ more) b = f.base

  -- each caller waits below the slots of the frame behind it
  abbrev pub Waiting : List Frame → ℕ → Type 0
  Waiting [] b = ⊤
  Waiting (f ∷ more) b = Waits f (base_of more b) × Waiting more b

  -- A frame runs with its slots and as many operands as its place states.
  pub record Fits (f : Frame) (callers : List Frame) (count : ℕ) : Type 0 where
    unit : Unit
    is : slice_get pool.units f.unit ≡ Some unit
    depth : ℕ
    stated : IsDepth unit f.place depth
    height : count ≡ f.base + slot_count unit + depth
    waiting : Waiting callers f.base

  -- what a step may come to
  pub data Good : Step → Type 0 where
    goes : (s : State) → Fits s.frame s.callers (length s.values) → Good (to s)
    comes_over : {e : Ending} {store : Store} → Good (over e store)
    lacks : {lack : Lack} → IsOwed lack → Good (stuck lack)

  fits_count : (f : Frame) (callers : List Frame) {m n : ℕ} → m ≡ n → Fits f callers m → Fits f callers n
  fits_count f callers e h = subst (Fits f callers) e h

  some_owed : {A : Type 0} (lack : Lack) (o : Option A) (go : A → Step) → IsOwed lack → ((a : A) → o ≡ Some a → Good (go a)) → Good (m.some lack o go)
  some_owed lack None go owed h = lacks owed
  some_owed lack (Some a) go owed h = h a refl

  some_there : {A : Type 0} (lack : Lack) (o : Option A) (go : A → Step) (a : A) → o ≡ Some a → Good (go a) → Good (m.some lack o go)
  some_there lack o go a e h = subst (λ x. Good (m.some lack x go)) (sym e) h

  when_owed : (lack : Lack) (b : Bool) (x : Step) → IsOwed lack → (b ≡ true → Good x) → Good (m.when lack b x)
  when_owed lack true x owed h = h refl
  when_owed lack false x owed h = lacks owed

  unless_owed : (lack : Lack) (b : Bool) (x : Step) → IsOwed lack → (b ≡ false → Good x) → Good (m.unless lack b x)
  unless_owed lack true x owed h = lacks owed
  unless_owed lack false x owed h = h refl

  when_true : (lack : Lack) (b : Bool) (x : Step) → b ≡ true → Good x → Good (m.when lack b x)
  when_true lack b x e h = subst (λ c. Good (m.when lack c x)) (sym e) h

  choose_good : (b : Bool) (x y : Step) → Good x → Good y → Good (choose b x y)
  choose_good true x y f g = f
  choose_good false x y f g = g

  after_good : {A : Type 0} (s : State) (r : Result Value A) (go : A → State → Step) → ((a : A) (store : Store) → Good (go a (record s { store = store }))) → Good (m.after s r go)
  after_good s (went a r) go h = h a r.store
  after_good s (ended e r) go h = comes_over

  by_good : {A : Type 0} (x : M Value A) (s : State) (go : A → State → Step) → ((a : A) (store : Store) → Good (go a (record s { store = store }))) → Good (m.by x s go)
  by_good x s go h = after_good s (x (record { vars = []; this = null; store = s.store })) go h

  -- ---- operands

  one_good : (vs : List Value) (go : Value → Step) → length vs ≡ 1 → ((v : Value) → Good (go v)) → Good (m.one vs go)
  one_good [] go e h = absurd (omega (arith, e))
  one_good (v ∷ []) go e h = h v
  one_good (v ∷ w ∷ more) go e h = absurd (omega (arith, e))

  two_good : (vs : List Value) (go : Value → Value → Step) → length vs ≡ 2 → ((v w : Value) → Good (go v w)) → Good (m.two vs go)
  two_good [] go e h = absurd (omega (arith, e))
  two_good (v ∷ []) go e h = absurd (omega (arith, e))
  two_good (v ∷ w ∷ []) go e h = h v w
  two_good (v ∷ w ∷ x ∷ more) go e h = absurd (omega (arith, e))

  receiver_good : (vs : List Value) (go : Value → List Value → Step) → ((v : Value) (args : List Value) → Good (go v args)) → Good (m.receiver vs go)
  receiver_good [] go h = lacks tt
  receiver_good (v ∷ args) go h = h v args

  top_good : (n : ℕ) (unit : Unit) (s : State) (go : List Value → List Value → Step) → s.frame.base + slot_count unit + n ≤ length s.values
      → ((below vs : List Value) → length below + n ≡ length s.values → length vs ≡ n → Good (go below vs)) → Good (m.top n unit s go)
  top_good n unit s go le h =
      let taken = length_take (length s.values - n) s.values (omega arith) in
      let dropped = length_drop (length s.values - n) s.values in
      when_true m.no_operand _ _ (le_true (s.frame.base + slot_count unit + n) (length s.values) le)
      (h (take (length s.values - n) s.values) (drop (length s.values - n) s.values) (omega (arith, taken, le)) (omega (arith, dropped, le)))

  top_one_good : (unit : Unit) (s : State) (go : List Value → Value → Step) → s.frame.base + slot_count unit + 1 ≤ length s.values
      → ((below : List Value) (v : Value) → length below + 1 ≡ length s.values → Good (go below v)) → Good (m.top_one unit s go)
  top_one_good unit s go le h = top_good 1 unit s _ le (λ below vs e count. one_good vs (go below) count (λ v. h below v e))

  top_two_good : (unit : Unit) (s : State) (go : List Value → Value → Value → Step) → s.frame.base + slot_count unit + 2 ≤ length s.values
      → ((below : List Value) (v w : Value) → length below + 2 ≡ length s.values → Good (go below v w)) → Good (m.top_two unit s go)
  top_two_good unit s go le h = top_good 2 unit s _ le (λ below vs e count. two_good vs (go below) count (λ v w. h below v w e))

  -- ---- calls

  -- the frame behind its instruction
  abbrev next : Frame → Frame
  next f = record f { place = f.place + 1 }

  -- an answer on top of so many values fits behind the instruction
  abbrev Ready : State → List Value → Type 0
  Ready s below = Fits (next s.frame) s.callers (length below + 1)

  push_good : (s : State) (below : List Value) (v : Value) → Ready s below → Good (m.push s below v)
  push_good s below v h = let joined = length-append below (v ∷ []) in goes _ (fits_count (next s.frame) s.callers (omega (arith, joined)) h)

  on_good : (s : State) (values : List Value) → Fits (next s.frame) s.callers (length values) → Good (m.on s values)
  on_good s values h = goes _ h

  jump_good : (t : ℕ) (s : State) (values : List Value) → Fits (record s.frame { place = t }) s.callers (length values) → Good (m.jump t s values)
  jump_good t s values h = goes _ h

  push_waits : (cs : List Frame) (f : Frame) (b : ℕ) → Waiting cs f.base → Waits f b → Waiting (cs ++ f ∷ []) b
  push_waits [] f b h w = (w, tt)
  push_waits (c ∷ []) f b h w = (h.0, (w, tt))
  push_waits (c ∷ d ∷ more) f b h w = (h.0, push_waits (d ∷ more) f b h.1 w)

  waits : (f : Frame) (callers : List Frame) (n : ℕ) → Fits f callers (n + 1) → Waits f n
  waits f callers n h = record { unit = h.unit; is = h.is; depth = h.depth; stated = h.stated; height = h.height }

  begin_good : (u : ℕ) (unit : Unit) (s : State) (below args : List Value) → slice_get pool.units u ≡ Some unit → accepts unit (length args) ≡ true → Ready s below
      → Good (m.begin u unit s below args)
  begin_good u unit s below args is ok h =
      let joined = length-append below (slots unit args) in
      let count = slots_length unit args ok in
      goes _ (record {
        unit = unit;
        is = is;
        depth = 0;
        stated = (sound u unit is).depths.first;
        height = omega (arith, joined, count);
        waiting = push_waits s.callers (next s.frame) (length below) h.waiting (waits (next s.frame) s.callers (length below) h);
      })

  enter_good : (u : ℕ) (s : State) (below args : List Value) → Ready s below → Good (m.enter p pool answers u s below args)
  enter_good u s below args h = some_owed m.no_number _ _ tt (λ unit is. when_owed m.wrong_count _ _ tt (λ ok.
      by_good spend s _ (λ _ store. choose_good (nat_lt (length s.callers + 1) greatest_depth) (m.begin u unit (record s { store = store }) below args) (over stack_overflow store) (begin_good u unit (record s { store = store }) below args is ok h) comes_over)))

  native_as_good : (n c : ℕ) (s : State) (below : List Value) (v : Value) (args : List Value) (k : Method) → Ready s below → Good (m.native_as p pool answers n c s below v args k)
  native_as_good n c s below v args k h =
      let go : Step = m.by (calls.natively (of_numbered p) n v args) s (λ w s. m.push s below w) in
      when_owed m.wrong_receiver (m.is_owned p pool answers c k.owner.0) (m.when m.wrong_count (nat_eq (length args) k.required) go) tt
      (λ _. when_owed m.wrong_count (nat_eq (length args) k.required) go tt (λ _. by_good (calls.natively (of_numbered p) n v args) s _ (λ w store. push_good (record s { store = store }) below w h)))

  natively_good : (n c : ℕ) (s : State) (below : List Value) (v : Value) (args : List Value) → Ready s below → Good (m.natively p pool answers n c s below v args)
  natively_good n c s below v args h =
      let go : (Method → Step) = m.native_as p pool answers n c s below v args in
      unless_owed m.wrong_kind (nat_eq n list_to_string) (m.some m.no_number (slice_get built_in_members n) go) tt
      (λ _. some_owed m.no_number (slice_get built_in_members n) go tt (λ k _. native_as_good n c s below v args k h))

  perform_good : (does : MethodBody) (c : ℕ) (s : State) (below : List Value) (v : Value) (args : List Value) → Ready s below → Good (m.perform p pool answers does c s below v args)
  perform_good (Native n) c s below v args h = natively_good n.0 c s below v args h
  perform_good (ReadField k) c s below v [] h = when_owed m.wrong_receiver _ _ tt (λ _. push_good s below _ h)
  perform_good (ReadField k) c s below v (w ∷ more) h = lacks tt
  perform_good (WriteField k) c s below v [] h = lacks tt
  perform_good (WriteField k) c s below v (w ∷ []) h =
      when_owed m.wrong_receiver (m.has_field s.store.heap v k) (m.by (set_field v k w) s (λ _ s. m.push s below null)) tt
      (λ _. by_good (set_field v k w) s (λ _ s. m.push s below null) (λ _ store. push_good (record s { store = store }) below null h))
  perform_good (WriteField k) c s below v (w ∷ x ∷ more) h = lacks tt
  perform_good (Code u) c s below v args h = enter_good u.0 s below (v ∷ args) h

  call_good : (k c : ℕ) (s : State) (below : List Value) (v : Value) (args : List Value) → Ready s below → Good (m.call_method p pool answers k c s below v args)
  call_good k c s below v args h =
      let owned : (MethodBody → Method → Step) = (λ does x. m.when m.wrong_receiver (m.is_owned p pool answers c x.owner.0) (m.perform p pool answers does c s below v args)) in
      let found : (MethodBody → Step) = (λ does. m.some m.no_number (slice_get p.methods k) (owned does)) in
      some_owed m.no_number (slice_get pool.methods k) found tt (λ does _. some_owed m.no_number (slice_get p.methods k) (owned does) tt (λ x _.
      when_owed m.wrong_receiver (m.is_owned p pool answers c x.owner.0) (m.perform p pool answers does c s below v args) tt (λ _. perform_good does c s below v args h)))

  reach_good : (t : Target) (sel : Selector) (c : ℕ) (s : State) (below : List Value) (v : Value) (args : List Value) → Ready s below → Good (m.reach p pool answers t sel c s below v args)
  reach_good (target.Method k) sel c s below v args h = call_good k.0 c s below v args h
  reach_good (target.Nsm k) sel c s below v args h = by_good (calls.invoked sel args) s (λ i s. m.call_method p pool answers k.0 c s below v (i ∷ [])) (λ i store. call_good k.0 c (record s { store = store }) below v (i ∷ []) h)

  send_good : (site : ℕ) (s : State) (below : List Value) (v : Value) (args : List Value) → Ready s below → Good (m.send p pool answers site s below v args)
  send_good site s below v args h =
      let go : (SelectorId → Selector → ℕ → State → Step) = (λ k sel c s. m.reach p pool answers (answers c k.0) sel c s below v args) in
      let asked : (SelectorId → Selector → Step) = (λ k sel. m.by (ask site v) s (go k sel)) in
      let found : (SelectorId → Step) = (λ k. m.some m.no_number (slice_get p.selectors k.0) (asked k)) in
      some_owed m.no_number (slice_get pool.sites site) found tt (λ k _. some_owed m.no_number (slice_get p.selectors k.0) (asked k) tt (λ sel _.
      by_good (ask site v) s (go k sel) (λ c store. reach_good (answers c k.0) sel c (record s { store = store }) below v args h)))

  -- ---- the end of a frame

  base_same : (d : Frame) (more : List Frame) (n : ℕ) (f : Frame) → slice_get (d ∷ more) n ≡ Some f → d.base ≡ base_of (take n (d ∷ more)) f.base
  base_same d more zero f e = ap (λ (g : Frame). g.base) (some_eq e)
  base_same d more (suc n) f e = refl

  -- The last caller waits for the answer, and the others as before.
  last_waits : (cs : List Frame) (n b : ℕ) (f : Frame) → n + 1 ≡ length cs → slice_get cs n ≡ Some f → Waiting cs b → Waits f b × Waiting (take n cs) f.base
  last_waits [] n b f e is h = absurd (omega (arith, e))
  last_waits (c ∷ []) zero b f e is h = (subst (λ g. Waits g b) (some_eq is) h.0, tt)
  last_waits (c ∷ []) (suc n) b f e is h = absurd (omega (arith, e))
  last_waits (c ∷ d ∷ more) zero b f e is h = absurd (omega (arith, e))
  last_waits (c ∷ d ∷ more) (suc n) b f e is h =
      let rest = last_waits (d ∷ more) n b f (omega (arith, e)) is h.1 in
      (rest.0, (subst (Waits c) (base_same d more n f is) h.0, rest.1))

  back_good : (s : State) (values : List Value) (o : Option Frame) → slice_get s.callers (length s.callers - 1) ≡ o → length values ≡ s.frame.base + 1 → Waiting s.callers s.frame.base
      → Good (m.back s values o)
  back_good s values None is count h = comes_over
  back_good s values (Some f) is count h =
      let lt = slice_get_within s.callers (length s.callers - 1) f is in
      let last = last_waits s.callers (length s.callers - 1) s.frame.base f (omega (arith, lt)) is h in
      let w = last.0 in
      goes _ (record { unit = w.unit; is = w.is; depth = w.depth; stated = w.stated; height = count ∙ w.height; waiting = last.1 })

  leave_good : (s : State) (v : Value) → s.frame.base ≤ length s.values → Waiting s.callers s.frame.base → Good (m.leave s v)
  leave_good s v le h =
      let taken = length_take s.frame.base s.values le in
      let joined = length-append (take s.frame.base s.values) (v ∷ []) in
      back_good s _ _ refl (omega (arith, taken, joined)) h

  -- ---- one instruction

  module _ (s : State) (unit : Unit) (d : ℕ) (height : length s.values ≡ s.frame.base + slot_count unit + d) (is : slice_get pool.units s.frame.unit ≡ Some unit) (waiting : Waiting s.callers s.frame.base) where
    -- behind the instruction, so many values fit
    behind : (k n : ℕ) → IsDepth unit (s.frame.place + 1) k → n ≡ s.frame.base + slot_count unit + k → Fits (next s.frame) s.callers n
    behind k n stated e = record { unit = unit; is = is; depth = k; stated = stated; height = e; waiting = waiting }

    -- and at the place of a jump
    there : (t k n : ℕ) → IsDepth unit t k → n ≡ s.frame.base + slot_count unit + k → Fits (record s.frame { place = t }) s.callers n
    there t k n stated e = record { unit = unit; is = is; depth = k; stated = stated; height = e; waiting = waiting }

    act_good : (i : Instr) → HasSlot unit (effect i) → DepthsAgreeAt unit (s.frame.place + 1) d (effect i) → Good (m.act p pool answers unit i s)
    act_good (Const k) slot h = some_owed m.no_number _ _ tt (λ c _. push_good s s.values (literal c) (behind _ _ h.on (omega (arith, height))))
    act_good (Local i) slot h =
        let here = item_at s.values (s.frame.base + i) (omega (arith, height, slot)) in
        when_true m.no_slot _ _ (lt_true i unit.locals slot) (some_there m.no_slot _ _ here.0 here.1 (push_good s s.values here.0 (behind _ _ h.on (omega (arith, height)))))
    act_good (SetLocal i) slot h = top_one_good unit s _ (omega (arith, height, h.operands)) (λ below v e.
        let count = length_set below (s.frame.base + i) v in
        let inside : s.frame.base + i < length below = omega (arith, height, slot, e, h.operands) in
        when_true m.no_slot _ _ (both_true (nat_lt i unit.locals) (nat_lt (s.frame.base + i) (length below)) (lt_true i unit.locals slot) (lt_true (s.frame.base + i) (length below) inside))
        (on_good s (slice_set below (s.frame.base + i) v) (behind _ _ h.on (omega (arith, height, e, count, h.operands)))))
    act_good (Global g) slot h = some_owed m.no_number _ _ tt (λ v _. push_good s s.values v (behind _ _ h.on (omega (arith, height))))
    act_good (SetGlobal g) slot h = top_one_good unit s _ (omega (arith, height, h.operands)) (λ below v e. when_owed m.no_number (nat_lt g (length s.store.globals)) (m.on (record s { store = record s.store { globals = slice_set s.store.globals g v } }) below) tt (λ _.
        on_good (record s { store = record s.store { globals = slice_set s.store.globals g v } }) below (behind _ _ h.on (omega (arith, height, e, h.operands)))))
    act_good Pop slot h = top_one_good unit s _ (omega (arith, height, h.operands)) (λ below v e. on_good s below (behind _ _ h.on (omega (arith, height, e, h.operands))))
    act_good Dup slot h = top_one_good unit s _ (omega (arith, height, h.operands)) (λ below v e.
        let joined = length-append s.values (v ∷ []) in
        on_good s (s.values ++ v ∷ []) (behind _ _ h.on (omega (arith, height, joined, h.operands))))
    act_good Dup2 slot h = top_two_good unit s _ (omega (arith, height, h.operands)) (λ below v w e.
        let joined = length-append s.values (v ∷ w ∷ []) in
        on_good s (s.values ++ v ∷ w ∷ []) (behind _ _ h.on (omega (arith, height, joined, h.operands))))
    act_good (Jump t) slot h = jump_good t s s.values (there t _ _ h.jump (omega (arith, height)))
    act_good (JumpIfFalse t) slot h = top_one_good unit s _ (omega (arith, height, h.operands)) (λ below v e. by_good (need_bool v) s (λ b s. choose b (m.on s below) (m.jump t s below)) (λ b store.
        choose_good b (m.on (record s { store = store }) below) (m.jump t (record s { store = store }) below) (on_good (record s { store = store }) below (behind _ _ h.on (omega (arith, height, e, h.operands)))) (jump_good t (record s { store = store }) below (there t _ _ h.jump (omega (arith, height, e, h.operands))))))
    act_good ExpectBool slot h = top_one_good unit s _ (omega (arith, height, h.operands)) (λ below v e. by_good (need_bool v) s (λ b s. m.push s below (bool b)) (λ b store.
        push_good (record s { store = store }) below _ (behind _ _ h.on (omega (arith, height, e, h.operands)))))
    act_good Not slot h = top_one_good unit s _ (omega (arith, height, h.operands)) (λ below v e. by_good (need_bool v) s (λ b s. m.push s below (bool (not b))) (λ b store.
        push_good (record s { store = store }) below _ (behind _ _ h.on (omega (arith, height, e, h.operands)))))
    act_good LoopTurn slot h = by_good spend s (λ _ s. m.on s s.values) (λ _ store. on_good (record s { store = store }) s.values (behind _ _ h.on (omega (arith, height))))
    act_good (Call site n) slot h = top_good (suc n) unit s _ (omega (arith, height, h.operands)) (λ below vs e _. receiver_good vs _ (λ v args.
        send_good site.0 s below v args (behind _ _ h.on (omega (arith, height, e, h.operands)))))
    act_good (Equal site) slot h = top_two_good unit s _ (omega (arith, height, h.operands)) (λ below v w e.
        let ready : Ready s below = behind _ _ h.on (omega (arith, height, e, h.operands)) in
        choose_good (calls.is_null v || calls.is_null w) (m.push s below (bool (calls.is_null v && calls.is_null w))) (m.send p pool answers site.0 s below v (w ∷ [])) (push_good s below (bool (calls.is_null v && calls.is_null w)) ready) (send_good site.0 s below v (w ∷ []) ready))
    act_good (CallStatic k n) slot h = top_good n unit s _ (omega (arith, height, h.operands)) (λ below vs e _. some_owed m.no_number (slice_get pool.statics k) (λ u. m.enter p pool answers u.0 s below vs) tt (λ u _.
        enter_good u.0 s below vs (behind _ _ h.on (omega (arith, height, e, h.operands)))))
    act_good (CallMethod k n) slot h = top_good n unit s _ (omega (arith, height, h.operands)) (λ below vs e _. receiver_good vs _ (λ v args.
        call_good k.0 (class_of s.store.heap v) s below v args (behind _ _ h.on (omega (arith, height, e, h.operands)))))
    act_good Return slot h = top_one_good unit s _ (omega (arith, height, h.operands)) (λ below v e. leave_good s v (omega (arith, height)) waiting)
    act_good Throw slot h = top_one_good unit s _ (omega (arith, height, h.operands)) (λ below v e. by_good (calls.throw (of_numbered p) v) s (λ _ s. stuck m.wrong_kind) (λ _ store. lacks tt))
    act_good (New c) slot h = when_owed m.wrong_class (m.may_make p pool answers c.0) (m.by (new (object c.0 (fields p c.0))) s (λ v s. m.push s s.values v)) tt (λ _. by_good (new (object c.0 (fields p c.0))) s (λ v s. m.push s s.values v) (λ v store. push_good (record s { store = store }) s.values v (behind _ _ h.on (omega (arith, height)))))
    act_good (SetField k) slot h = top_two_good unit s _ (omega (arith, height, h.operands)) (λ below v w e. when_owed m.wrong_receiver (m.has_field s.store.heap v k) (m.by (set_field v k w) s (λ _ s. m.on s below)) tt (λ _. by_good (set_field v k w) s (λ _ s. m.on s below) (λ _ store.
        on_good (record s { store = store }) below (behind _ _ h.on (omega (arith, height, e, h.operands))))))
    act_good (MakeList n) slot h = top_good n unit s _ (omega (arith, height, h.operands)) (λ below vs e _. by_good (new (list vs)) s (λ v s. m.push s below v) (λ v store.
        push_good (record s { store = store }) below v (behind _ _ h.on (omega (arith, height, e, h.operands)))))
    act_good (Concat n) slot h = top_good n unit s _ (omega (arith, height, h.operands)) (λ below vs e _. some_owed m.wrong_kind (m.texts vs) (λ t. m.push s below (text t)) tt (λ t _.
        push_good s below (text t) (behind _ _ h.on (omega (arith, height, e, h.operands)))))
    act_good ExpectString slot h = top_one_good unit s _ (omega (arith, height, h.operands)) (λ below v e. by_good (need_text v) s (λ t s. m.push s below (text t)) (λ t store.
        push_good (record s { store = store }) below _ (behind _ _ h.on (omega (arith, height, e, h.operands)))))
    act_good (IsClass c) slot h = top_one_good unit s _ (omega (arith, height, h.operands)) (λ below v e.
        let go : (Bool → State → Step) = (λ holds s. m.push s below (bool holds)) in
        let asked : Step = m.by (calls.is_of (of_numbered p) v c.0) s go in
        when_owed m.no_number (nat_lt c.0 (length p.classes)) asked tt (λ _. by_good (calls.is_of (of_numbered p) v c.0) s go (λ holds store.
        push_good (record s { store = store }) below _ (behind _ _ h.on (omega (arith, height, e, h.operands))))))
    act_good Emit slot h = top_one_good unit s _ (omega (arith, height, h.operands)) (λ below v e. some_owed m.wrong_kind (text_in v) (λ t. m.by (add_line t) s (λ _ s. m.on s below)) tt (λ t _. by_good (add_line t) s (λ _ s. m.on s below) (λ _ store.
        on_good (record s { store = store }) below (behind _ _ h.on (omega (arith, height, e, h.operands))))))
    act_good (ElementOr t) slot h = top_two_good unit s _ (omega (arith, height, h.operands)) (λ below v i e.
        element_good t below v i (λ w x. let joined = length-append below (w ∷ x ∷ []) in behind _ _ h.on (omega (arith, height, e, joined, h.operands))) (there t _ _ h.jump (omega (arith, height, e, h.operands))))
      where
        element_in_good : (t : ℕ) (below : List Value) (i : ℕ) (o : Option Thing) → ((w x : Value) → Fits (next s.frame) s.callers (length (below ++ w ∷ x ∷ []))) → Fits (record s.frame { place = t }) s.callers (length below)
            → Good (m.element_in p pool answers t s below i o)
        element_in_good t below i None on jump = lacks tt
        element_in_good t below i (Some (object c held)) on jump = lacks tt
        element_in_good t below i (Some (list items)) on jump = choose_good (nat_lt i (length items)) _ _ (on_good s _ (on _ _)) (jump_good t s below jump)
        element_in_good t below i (Some (invocation name args kind)) on jump = lacks tt

        element_good : (t : ℕ) (below : List Value) (v i : Value) → ((w x : Value) → Fits (next s.frame) s.callers (length (below ++ w ∷ x ∷ []))) → Fits (record s.frame { place = t }) s.callers (length below)
            → Good (m.element p pool answers t s below v i)
        element_good t below v null on jump = lacks tt
        element_good t below v (bool b) on jump = lacks tt
        element_good t below v (num (pos i)) on jump = element_in_good t below i (thing_at s.store.heap v) on jump
        element_good t below v (num (negsuc i)) on jump = lacks tt
        element_good t below v (text u) on jump = lacks tt
        element_good t below v (at a) on jump = lacks tt

  -- A step leads to a state that fits, to the end, or to a lack that no unit shows.
  pub step_good : (s : State) → Fits s.frame s.callers (length s.values) → Good (m.step p pool answers s)
  step_good s h =
      let fine = sound s.frame.unit h.unit h.is in
      let stated = slice_get_within h.unit.depths s.frame.place h.depth h.stated in
      let here = item_at h.unit.code s.frame.place (omega (arith, stated, fine.depths.stated)) in
      some_there m.no_place _ _ h.unit h.is (some_there m.no_place _ _ here.0 here.1
      (act_good s h.unit h.depth h.height h.is h.waiting here.0 (fine.slots s.frame.place here.0 here.1) (fine.depths.steps s.frame.place here.0 h.depth here.1 h.stated)))

  -- ---- runs

  resume_good : (n : ℕ) (x : Step) → Good x → HasItsParts (m.resume x (m.exec p pool answers n))
  unfolding m.exec
  resume_good zero (to s) (goes _ h) = tt
  resume_good (suc n) (to s) (goes _ h) = resume_good n (m.step p pool answers s) (step_good s h)
  resume_good n (over e store) h = tt
  resume_good n (stuck lack) (lacks owed) = owed

  pub started_good : (e turns : ℕ) → Good (m.started p pool answers e turns)
  started_good e turns = some_owed {A = UnitId} m.no_number _ _ tt (λ u _. some_owed m.no_number _ _ tt (λ unit is. when_owed m.wrong_count _ _ tt (λ none.
      by_good spend (m.opening u.0 unit (first_store (map literal p.globals) turns)) (λ _ s. to s) (λ _ store. goes (m.opening u.0 unit store) (record {
        unit = unit;
        is = is;
        depth = 0;
        stated = (sound u.0 unit is).depths.first;
        height = (let count = slots_length unit [] (takes_none unit none) in omega (arith, count));
        waiting = tt;
      })))))

  pub has_its_parts : (e turns n : ℕ) → HasItsParts (m.resume (m.started p pool answers e turns) (m.exec p pool answers n))
  has_its_parts e turns n = resume_good n (m.started p pool answers e turns) (started_good e turns)

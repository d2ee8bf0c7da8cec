-- What holds of each step, and of steps put together, holds of all that a numbered program does. Here: of calls.
use Rattle.std.proofs.Common.{◌≡◌, ℕ, zero, suc, List, [], ◌∷◌, refl}
use Rattle.std.specs.Prelude.{◌-◌, ◌<◌, Bool, true, false, ◌||◌, not, nat_eq, IsTrue, length, slice_set, Option, Some, None, codes}
use Rattle.program.specs.declared.numbered.Selector.{Selector}
use Rattle.program.specs.declared.body.BinaryOperator.{BinaryOperator}
use Rattle.program.specs.declared.body.BinaryOperator.TheVariants as b
use Rattle.program.specs.declared.body.Joint.{Joint}
use Rattle.program.specs.declared.body.Joint.TheVariants as joint
use Rattle.program.specs.declared.body.OperatorCall.{OperatorCall}
use Rattle.program.specs.BuiltIn.{is_open}
use Rattle.program.specs.Parts.{Parts}
use Rattle.dart_values.specs.declared.fault.Trap.TheVariants as trap
use Rattle.dart_values.specs.Values.{Text, Value, null, bool, text, Thing, object, list, invocation, class_of}
use Rattle.dart_values.specs.Natives.{native}
use Rattle.dart_meaning.specs.Program.{Program, Found, built_in, reads, writes, coded, Target, member, missing, resolve, Entry, running, listing}
use Rattle.dart_meaning.specs.Run.{Run, Ending, threw, out_of_turns, M, ◌>>=◌, ◌>>◌, pure, stop, look, change, choose, spend, Next, again, leaves, on_again, loop, looping, need_bool, need_text, new, set_field, ask, note_test, add_line, in_store, Flow, onward, broke, continued, returned, if_onward, after_body, going, while_loop, do_loop}
use Rattle.dart_meaning.specs.Calls as calls
use Rattle.dart_meaning.specs.Calls.{World, given, is_null}
use Rattle.dart_meaning.specs.Numbered.{of_numbered, Code, fields, place_of_slot, world}

-- a list, an Invocation, or a new object of a class that has objects
abbrev pub IsNew : Parts → Thing → Type 0
IsNew p (object class held) = (held ≡ fields p class) × IsTrue (is_open class) × (class < length p.classes)
IsNew p _ = Unit {0}

-- P holds of each step of an expression, and of steps put together.
pub record Closed (p : Parts) (P : (A : Type 0) → M Value A → Type 0) : Type 1 where
  pub answers : {A : Type 0} (a : A) → P _ (pure {V = Value} a)
  pub stops : {A : Type 0} (e : Ending) → P A (stop e)
  pub binds : {A B : Type 0} {m : M Value A} {f : A → M Value B} → P _ m → ((a : A) → P _ (f a)) → P _ (m >>= f)
  pub looks : {A : Type 0} (f : Run Value → A) → P _ (look f)
  pub locals : (slot : ℕ) (w : Value) → P _ (change (λ r. record r { vars = slice_set r.vars (place_of_slot r.vars slot) w }))
  pub globals : (k : ℕ) (w : Value) → P _ (change {V = Value} (in_store (λ s. record s { globals = slice_set s.globals k w })))
  pub fields : (v : Value) (k : ℕ) (w : Value) → P _ (set_field v k w)
  pub lines : (line : Text) → P _ (add_line line)
  pub tests : (class named : ℕ) → P _ (note_test class named)
  pub spends : P _ (spend {V = Value})
  pub makes : (thing : Thing) → IsNew p thing → P _ (new thing)
  pub asks : (site : ℕ) (v : Value) → P _ (ask site v)
  pub natives : (names : ℕ → Text) (n : ℕ) (v : Value) (args : List Value) → P _ (λ r. given (native names n r.store.heap v args) r)

-- It holds of bodies too, with their variables and their `this`.
pub record ClosedFrames (p : Parts) (P : (A : Type 0) → M Value A → Type 0) : Type 1 where
  pub steps : Closed p P
  pub varies : (g : List Value → List Value) → P _ (change (λ r. record r { vars = g r.vars }))
  pub frames : (vars : List Value) (this : Value) → P _ (change (λ r. record r { vars = vars; this = this }))

-- an evaluation, by what enters a body
abbrev pub By : Type 0 → Type 0
By A = (Entry Code → M Value Value) → M Value A

-- The same where P says something of an evaluation by what enters a body: of two ways to enter one, for instance.
pub record ClosedBy (p : Parts) (P : (A : Type 0) → By A → Type 0) : Type 1 where
  pub answers : {A : Type 0} (a : A) → P _ (λ _. pure {V = Value} a)
  pub stops : {A : Type 0} (e : Ending) → P A (λ _. stop e)
  pub binds : {A B : Type 0} {m : By A} {f : A → By B} → P _ m → ((a : A) → P _ (f a)) → P _ (λ e. m e >>= (λ a. f a e))
  pub looks : {A : Type 0} (f : Run Value → A) → P _ (λ _. look f)
  pub locals : (slot : ℕ) (w : Value) → P _ (λ _. change (λ r. record r { vars = slice_set r.vars (place_of_slot r.vars slot) w }))
  pub globals : (k : ℕ) (w : Value) → P _ (λ _. change {V = Value} (in_store (λ s. record s { globals = slice_set s.globals k w })))
  pub fields : (v : Value) (k : ℕ) (w : Value) → P _ (λ _. set_field v k w)
  pub lines : (line : Text) → P _ (λ _. add_line line)
  pub tests : (class named : ℕ) → P _ (λ _. note_test class named)
  pub spends : P _ (λ _. spend {V = Value})
  pub makes : (thing : Thing) → IsNew p thing → P _ (λ _. new thing)
  pub asks : (site : ℕ) (v : Value) → P _ (λ _. ask site v)
  pub natives : (names : ℕ → Text) (n : ℕ) (v : Value) (args : List Value) → P _ (λ _ r. given (native names n r.store.heap v args) r)

-- one way to enter a body
pub at_one : {p : Parts} {P : (A : Type 0) → M Value A → Type 0} → Closed p P → (enter : Entry Code → M Value Value) → ClosedBy p (λ A m. P A (m enter))
at_one c enter = record {
  answers = λ a. c.answers a;
  stops = λ e. c.stops e;
  binds = λ {A} {B} {m} {f} h k. c.binds {m = m enter} {f = λ a. f a enter} h k;
  looks = λ f. c.looks f;
  locals = c.locals;
  globals = c.globals;
  fields = c.fields;
  lines = c.lines;
  tests = c.tests;
  spends = c.spends;
  makes = c.makes;
  asks = c.asks;
  natives = c.natives;
}

module _ {p : Parts} {P : (A : Type 0) → By A → Type 0} (c : ClosedBy p P) where
  pub then_holds : {A B : Type 0} {m : By A} {k : By B} → P _ m → P _ k → P _ (λ e. m e >> k e)
  then_holds h k = c.binds h (λ _. k)

  pub choose_holds : {A : Type 0} (b : Bool) {m k : By A} → P _ m → P _ k → P _ (λ e. choose b (m e) (k e))
  choose_holds true h k = h
  choose_holds false h k = k

  -- ---- loops

  module _ {S A : Type 0} {test turn : S → By (Next S A)} (tests : (s : S) → P _ (test s)) (turns : (s : S) → P _ (turn s)) where
    on_again_holds : {f : S → By A} → ((s : S) → P _ (f s)) → (x : Next S A) → P _ (λ e. on_again (λ s. f s e) x)
    on_again_holds h (again s) = h s
    on_again_holds h (leaves a) = c.answers a

    loop_holds : (n : ℕ) (s : S) → P _ (λ e. loop n (λ t. test t e) (λ t. turn t e) s)
    loop_holds zero s = c.binds (tests s) (on_again_holds (λ t. c.stops out_of_turns))
    loop_holds (suc n) s = c.binds (tests s) (on_again_holds (λ t. then_holds c.spends (c.binds (turns t) (on_again_holds (loop_holds n)))))

    pub looping_holds : (s : S) → P _ (λ e. looping (λ t. test t e) (λ t. turn t e) s)
    looping_holds s = c.binds (c.looks (λ r. r.store.turns)) (λ n. loop_holds n s)

  pub after_body_holds : (f : Flow) {m : By (Next (Unit {0}) Flow)} → P _ m → P _ (λ e. after_body f (m e))
  after_body_holds onward h = h
  after_body_holds continued h = h
  after_body_holds broke h = c.answers (leaves onward)
  after_body_holds (returned v) h = c.answers (leaves (returned v))

  pub while_holds : {test : By Bool} {body : By Flow} {last : By (Unit {0})} → P _ test → P _ body → P _ last → P _ (λ e. while_loop (test e) (body e) (last e))
  while_holds t b l =
      looping_holds (λ _. c.binds t (λ go. c.answers (going go))) (λ _. c.binds b (λ f. after_body_holds f (then_holds l (c.answers (again tt))))) tt

  pub do_holds : {body : By Flow} {test : By Bool} → P _ body → P _ test → P _ (λ e. do_loop (body e) (test e))
  do_holds b t = looping_holds (λ _. c.answers (again tt)) (λ _. c.binds b (λ f. after_body_holds f (c.binds t (λ go. c.answers (going go))))) tt

  pub if_onward_holds : (f : Flow) {m : By Flow} → P _ m → P _ (λ e. if_onward f (m e))
  if_onward_holds onward h = h
  if_onward_holds broke h = c.answers broke
  if_onward_holds continued h = c.answers continued
  if_onward_holds (returned v) h = c.answers (returned v)

  -- ---- values

  pub need_bool_holds : (v : Value) → P _ (λ _. need_bool v)
  need_bool_holds (bool x) = c.answers x
  need_bool_holds _ = c.stops (threw trap.TypeFault)

  pub need_text_holds : (v : Value) → P _ (λ _. need_text v)
  need_text_holds (text s) = c.answers s
  need_text_holds _ = c.stops (threw trap.TypeFault)

  pub is_of_holds : {Code : Type 0} (program : Program Code) (v : Value) (k : ℕ) → P _ (λ _. calls.is_of program v k)
  is_of_holds program v k =
      choose_holds (is_null v) (c.answers _)
      (c.binds (c.looks (λ r. class_of r.store.heap v)) (λ own. then_holds (c.tests own k) (c.answers (program.is_subtype own k))))

  pub throw_holds : {Code : Type 0} (program : Program Code) (v : Value) → P _ (λ _. calls.throw program v)
  throw_holds program v = choose_holds (is_null v) (c.stops (threw trap.TypeFault)) (c.binds (c.looks _) (λ s. c.stops (threw (trap.Thrown s))))

  -- ---- calls, where each call through a site has P

  module _ (sends : (site : ℕ) (sel : Selector) (v : Value) (args : List Value) → P _ (λ e. calls.send (world p e) site sel v args)) where
    pub to_text_holds : (site : ℕ) (v : Value) → P _ (λ e. calls.to_text (world p e) site v)
    to_text_holds site v = c.binds (sends site _ v []) need_text_holds

    pub equals_holds : (site : ℕ) (v u : Value) → P _ (λ e. calls.equals (world p e) site v u)
    equals_holds site v u = choose_holds (is_null v || is_null u) (c.answers _) (c.binds (sends site _ v (u ∷ [])) need_bool_holds)

    pub operate_holds : (k : OperatorCall) (v u : Value) → P _ (λ e. calls.operate (world p e) k v u)
    operate_holds k v u = sends k.site.0 _ v (u ∷ [])

    combine_by_holds : (op : BinaryOperator) (k : OperatorCall) (v u : Value) → P _ (λ e. calls.combine_by (world p e) op k v u)
    combine_by_holds b.Equal k v u = c.binds (equals_holds k.site.0 v u) (λ same. c.answers (bool same))
    combine_by_holds b.NotEqual k v u = c.binds (equals_holds k.site.0 v u) (λ same. c.answers (bool (not same)))
    combine_by_holds _ k v u = operate_holds k v u

    truth_holds : {m : By Value} → P _ m → P _ (λ e. calls.truth (world p e) (m e))
    truth_holds h = c.binds (c.binds h need_bool_holds) (λ x. c.answers (bool x))

    pub combine_holds : (op : Joint) (v : Value) {right : By Value} → P _ right → P _ (λ e. calls.combine (world p e) op v (right e))
    combine_holds joint.And v h = c.binds (need_bool_holds v) (λ go. choose_holds go (truth_holds h) (c.answers (bool false)))
    combine_holds joint.Or v h = c.binds (need_bool_holds v) (λ go. choose_holds go (c.answers (bool true)) (truth_holds h))
    combine_holds (joint.Operator k) v h = c.binds h (λ u. combine_by_holds k.operator k v u)

    pub print_holds : (v : Value) → P _ (λ e. calls.print (world p e) v)
    print_holds v = then_holds (c.binds (to_text_holds (length p.sites - 2) v) c.lines) (c.answers null)

    pub list_text_holds : (v : Value) → P _ (λ e. calls.list_text (world p e) v)
    list_text_holds v =
        looping_holds (λ s. c.looks _)
        (λ s. c.binds (c.binds (c.looks _) (λ x. to_text_holds (length p.sites - 1) x)) (λ shown. c.answers _)) (0, codes "[")

  -- ---- calls, where what enters a body has P

  module _ (enters : (x : Entry Code) → P _ (λ e. e x)) where
    pub do_member_holds : (found : Found Code) (v : Value) (args : List Value) → P _ (λ e. calls.do_member (world p e) found v args)
    do_member_holds (built_in n) v args = choose_holds (nat_eq n 43) (enters (listing v)) (c.natives (of_numbered p).class_name n v args)
    do_member_holds (reads k) v args = c.looks _
    do_member_holds (writes k) v args = then_holds (c.fields v k (calls.argument 0 args)) (c.answers null)
    do_member_holds (coded code) v args = enters (running code v args)

    reach_holds : (target : Target Code) (sel : Selector) (v : Value) (args : List Value) → P _ (λ e. calls.reach (world p e) target sel v args)
    reach_holds (member found) sel v args = do_member_holds found v args
    reach_holds (missing found) sel v args =
        c.binds (c.binds (c.makes (list args) tt) (λ all. c.makes (invocation (calls.told_name sel.kind sel.name) all sel.kind) tt)) (λ i. do_member_holds found v (i ∷ []))

    pub send_holds : (site : ℕ) (sel : Selector) (v : Value) (args : List Value) → P _ (λ e. calls.send (world p e) site sel v args)
    send_holds site sel v args = c.binds (c.asks site v) (λ k. reach_holds (resolve (of_numbered p) k sel) sel v args)

    pub construct_holds : (code : Option Code) (v : Value) (args : List Value) → P _ (λ e. calls.construct (world p e) code v args)
    construct_holds None v args = c.answers null
    construct_holds (Some code) v args = enters (running code v args)

    pub make_holds : (k : ℕ) (args : List Value) → IsTrue (is_open k) → k < length p.classes → P _ (λ e. calls.make (world p e) k args)
    make_holds k args h lt = c.binds (c.makes (object k (fields p k)) (refl, h, lt)) (λ v. then_holds (construct_holds ((of_numbered p).constructor k) v args) (c.answers v))

-- ---- one way to enter a body, and what it calls

module _ {p : Parts} {P : (A : Type 0) → M Value A → Type 0} (c : Closed p P) where
  pub then_of : {A B : Type 0} {m : M Value A} {k : M Value B} → P _ m → P _ k → P _ (m >> k)
  then_of h k = c.binds h (λ _. k)

  pub choose_of : {A : Type 0} (b : Bool) {m k : M Value A} → P _ m → P _ k → P _ (choose b m k)
  choose_of true h k = h
  choose_of false h k = k

  abbrev none : Entry Code → M Value Value
  none x = pure null

  pub while_of : {test : M Value Bool} {body : M Value Flow} {last : M Value (Unit {0})} → P _ test → P _ body → P _ last → P _ (while_loop test body last)
  while_of {test = test} {body = body} {last = last} t b l = while_holds (at_one c none) {test = λ _. test} {body = λ _. body} {last = λ _. last} t b l

  pub do_of : {body : M Value Flow} {test : M Value Bool} → P _ body → P _ test → P _ (do_loop body test)
  do_of {body = body} {test = test} b t = do_holds (at_one c none) {body = λ _. body} {test = λ _. test} b t

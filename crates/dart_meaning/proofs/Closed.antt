-- What holds of each step, and of steps put together, holds of all that a program does. Here: of calls, over any form of a program.
use Rattle.std.proofs.Common.{◌≡◌, ℕ, List, [], ◌∷◌, ◌++◌, refl, ap, sym, ◌∙◌, append-nil, zero, suc}
use Rattle.std.specs.Prelude.{◌-◌, Bool, true, false, ◌||◌, not, nat_eq, length, slice_get, slice_set, drop, Option, Some, None, codes}
use Rattle.program.specs.declared.numbered.Selector.{Selector}
use Rattle.program.specs.declared.body.BinaryOperator.{BinaryOperator}
use Rattle.program.specs.declared.body.BinaryOperator.TheVariants as b
use Rattle.program.specs.declared.body.Joint.{Joint}
use Rattle.program.specs.declared.body.Joint.TheVariants as joint
use Rattle.program.specs.declared.body.OperatorCall.{OperatorCall}
use Rattle.dart_values.specs.declared.fault.Trap.{Trap}
use Rattle.dart_values.specs.declared.fault.Trap.TheVariants as trap
use Rattle.dart_values.specs.Values.{Text, Value, null, bool, num, text, at, Heap, Thing, object, list, invocation, classes, thing_class, class_of_thing}
use Rattle.dart_values.specs.Natives.{native}
use Rattle.dart_values.specs.Reads.{with_field, put_field}
use Rattle.dart_meaning.specs.Program.{Program, Found, built_in, reads, writes, coded, Target, member, missing, resolve, Entry, running, listing}
use Rattle.dart_meaning.specs.Run.{Run, M, ◌>>=◌, ◌>>◌, pure, stop, trapped, stack_overflow, look, change, choose, spend, Next, again, leaves, looping, need_bool, need_text, new, ask, declare, scoped, framed, Flow, onward, broke, continued, returned, if_onward, after_body, going, while_loop, do_loop}
use Rattle.dart_meaning.specs.Calls as calls
use Rattle.dart_meaning.specs.Calls.{World, given, is_null}
use Rattle.dart_meaning.specs.Laws.{IsFront}

-- a thing of the same class in its place leaves the classes
pub classes-set : (heap : Heap) (a : ℕ) (old thing : Thing) → slice_get heap a ≡ Some old → thing_class thing ≡ thing_class old → classes (slice_set heap a thing) ≡ classes heap
classes-set [] a old thing h e = refl
classes-set (t ∷ heap) zero old thing h e = ap (λ k. k ∷ classes heap) (e ∙ sym (ap class_of_thing h))
classes-set (t ∷ heap) (suc a) old thing h e = ap (λ ks. thing_class t ∷ ks) (classes-set heap a old thing h e)

-- a change of the run that leaves the turns, the calls and the classes on the heap, and only adds to what is told
pub record Plain {V : Type 0} (f : Run V → Run V) : Type 0 where
  pub turns : (r : Run V) (n : ℕ) → f (record r { store = record r.store { turns = n } }) ≡ record (f r) { store = record (f r).store { turns = n } }
  pub lines : (r : Run V) → IsFront r.store.lines (f r).store.lines
  pub asked : (r : Run V) → (f r).store.asked ≡ r.store.asked
  pub tests : (r : Run V) → IsFront r.store.tests (f r).store.tests
  pub classes : (r : Run V) → classes (f r).store.heap ≡ classes r.store.heap

-- an object of a class that may be made, a list or an Invocation
abbrev pub IsNew : (ℕ → Type 0) → Thing → Type 0
IsNew IsMade (object c fields) = IsMade c
IsNew IsMade _ = Unit {0}

-- P holds of each step, at the sites and for the objects that may be, and of steps put together.
pub record Closed (V : Type 0) (IsSite IsMade : ℕ → Type 0) (P : (A : Type 0) → M V A → Type 0) : Type 1 where
  pub answers : {A : Type 0} (a : A) → P _ (pure {V = V} a)
  pub traps : {A : Type 0} (t : Trap) → P A (trapped t)
  pub overflows : {A : Type 0} → P A (stop stack_overflow)
  pub binds : {A B : Type 0} {m : M V A} {f : A → M V B} → P _ m → ((a : A) → P _ (f a)) → P _ (m >>= f)
  pub looks : {A : Type 0} (f : Run V → A) → ((r : Run V) (n : ℕ) → f (record r { store = record r.store { turns = n } }) ≡ f r) → P _ (look f)
  pub changes : {f : Run V → Run V} → Plain f → P _ (change f)
  pub spends : P _ (spend {V = V})
  pub makes : (thing : Thing) → IsNew IsMade thing → P _ (new thing)
  pub asks : (site : ℕ) (v : Value) → IsSite site → P _ (ask site v)
  pub natives : (names : ℕ → Text) (n : ℕ) (v : Value) (args : List Value) → P _ (λ r. given (native names n r.store.heap v args) r)
  pub loops : {S A : Type 0} {test turn : S → M V (Next S A)} (s : S) → ((s : S) → P _ (test s)) → ((s : S) → P _ (turn s)) → P _ (looping test turn s)

-- the site of an operator that is called is one
abbrev pub IsCalledAt : (ℕ → Type 0) → Joint → Type 0
IsCalledAt IsSite (joint.Operator k) = IsSite k.site.0
IsCalledAt IsSite _ = Unit {0}

-- ---- writing a field leaves the classes on the heap

class_put : (o : Option Thing) (heap : Heap) (a k : ℕ) (w : Value) → slice_get heap a ≡ o → classes (put_field o heap a k w) ≡ classes heap
class_put (Some (object c fields)) heap a k w h = classes-set heap a (object c fields) (object c (slice_set fields k w)) h refl
class_put (Some (list items)) heap a k w h = refl
class_put (Some (invocation name args kind)) heap a k w h = refl
class_put None heap a k w h = refl

pub classes-with_field : (heap : Heap) (v : Value) (k : ℕ) (w : Value) → classes (with_field heap v k w) ≡ classes heap
classes-with_field heap (at a) k w = class_put (slice_get heap a) heap a k w refl
classes-with_field heap null k w = refl
classes-with_field heap (bool x) k w = refl
classes-with_field heap (num x) k w = refl
classes-with_field heap (text x) k w = refl

-- ---- steps

-- what nothing adds to begins with itself
pub front_refl : {A : Type 0} (xs : List A) → IsFront xs xs
front_refl xs = ([], sym (append-nil xs))

pub front_more : {A : Type 0} (xs ys : List A) → IsFront xs (xs ++ ys)
front_more xs ys = (ys, refl)

-- the steps are such changes
pub plain_vars : {V : Type 0} (g : List V → List V) → Plain (λ (r : Run V). record r { vars = g r.vars })
plain_vars g = record { turns = λ r n. refl; lines = λ r. front_refl r.store.lines; asked = λ r. refl; tests = λ r. front_refl r.store.tests; classes = λ r. refl }

pub plain_frame : {V : Type 0} (vars : List V) (this : Value) → Plain (λ (r : Run V). record r { vars = vars; this = this })
plain_frame vars this = record { turns = λ r n. refl; lines = λ r. front_refl r.store.lines; asked = λ r. refl; tests = λ r. front_refl r.store.tests; classes = λ r. refl }

pub plain_globals : {V : Type 0} (g : List Value → List Value) → Plain (λ (r : Run V). record r { store = record r.store { globals = g r.store.globals } })
plain_globals g = record { turns = λ r n. refl; lines = λ r. front_refl r.store.lines; asked = λ r. refl; tests = λ r. front_refl r.store.tests; classes = λ r. refl }

pub plain_line : {V : Type 0} (line : Text) → Plain (λ (r : Run V). record r { store = record r.store { lines = r.store.lines ++ line ∷ [] } })
plain_line line = record { turns = λ r n. refl; lines = λ r. front_more r.store.lines (line ∷ []); asked = λ r. refl; tests = λ r. front_refl r.store.tests; classes = λ r. refl }

pub plain_test : {V : Type 0} (class named : ℕ) → Plain (λ (r : Run V). record r { store = record r.store { tests = r.store.tests ++ (class, named) ∷ [] } })
plain_test class named = record { turns = λ r n. refl; lines = λ r. front_refl r.store.lines; asked = λ r. refl; tests = λ r. front_more r.store.tests ((class, named) ∷ []); classes = λ r. refl }

pub plain_field : {V : Type 0} (v : Value) (k : ℕ) (x : Value) → Plain (λ (r : Run V). record r { store = record r.store { heap = with_field r.store.heap v k x } })
plain_field v k x = record { turns = λ r n. refl; lines = λ r. front_refl r.store.lines; asked = λ r. refl; tests = λ r. front_refl r.store.tests; classes = λ r. classes-with_field r.store.heap v k x }

module _ {V : Type 0} {IsSite IsMade : ℕ → Type 0} {P : (A : Type 0) → M V A → Type 0} (c : Closed V IsSite IsMade P) where
  pub then_holds : {A B : Type 0} {m : M V A} {k : M V B} → P _ m → P _ k → P _ (m >> k)
  then_holds h k = c.binds h (λ _. k)

  pub choose_holds : {A : Type 0} (b : Bool) {m k : M V A} → P _ m → P _ k → P _ (choose b m k)
  choose_holds true h k = h
  choose_holds false h k = k

  -- where the test holds for the first one
  pub choose_if : {A : Type 0} (b : Bool) {m k : M V A} → (b ≡ true → P _ m) → P _ k → P _ (choose b m k)
  choose_if true h k = h refl
  choose_if false h k = k

  pub declare_holds : (v : V) → P _ (declare v)
  declare_holds v = c.changes (plain_vars (λ vars. v ∷ vars))

  pub scoped_holds : {A : Type 0} {m : M V A} → P _ m → P _ (scoped m)
  scoped_holds h = c.binds (c.looks _ (λ r n. refl)) (λ before. c.binds h (λ a. c.binds (c.changes (plain_vars (λ vars. drop (length vars - before) vars))) (λ _. c.answers a)))

  pub framed_holds : {A : Type 0} {m : M V A} (vars : List V) (this : Value) → P _ m → P _ (framed vars this m)
  framed_holds vars this h =
      c.binds (c.looks _ (λ r n. refl)) (λ outer. c.binds (c.looks (λ r. r.this) (λ r n. refl)) (λ me.
      c.binds (c.changes (plain_frame vars this)) (λ _. c.binds h (λ a. c.binds (c.changes (plain_frame outer me)) (λ _. c.answers a)))))

  pub need_bool_holds : (v : Value) → P _ (need_bool v)
  need_bool_holds (bool x) = c.answers x
  need_bool_holds _ = c.traps trap.TypeFault

  pub need_text_holds : (v : Value) → P _ (need_text v)
  need_text_holds (text s) = c.answers s
  need_text_holds _ = c.traps trap.TypeFault

  pub if_onward_holds : (f : Flow) {m : M V Flow} → P _ m → P _ (if_onward f m)
  if_onward_holds onward h = h
  if_onward_holds broke h = c.answers broke
  if_onward_holds continued h = c.answers continued
  if_onward_holds (returned v) h = c.answers (returned v)

  pub after_body_holds : (f : Flow) {m : M V (Next (Unit {0}) Flow)} → P _ m → P _ (after_body f m)
  after_body_holds onward h = h
  after_body_holds continued h = h
  after_body_holds broke h = c.answers (leaves onward)
  after_body_holds (returned v) h = c.answers (leaves (returned v))

  pub while_holds : {test : M V Bool} {body : M V Flow} {last : M V (Unit {0})} → P _ test → P _ body → P _ last → P _ (while_loop test body last)
  while_holds t b l =
      c.loops tt (λ _. c.binds t (λ go. c.answers (going go))) (λ _. c.binds b (λ f. after_body_holds f (then_holds l (c.answers (again tt)))))

  pub do_holds : {body : M V Flow} {test : M V Bool} → P _ body → P _ test → P _ (do_loop body test)
  do_holds b t = c.loops tt (λ _. c.answers (again tt)) (λ _. c.binds b (λ f. after_body_holds f (c.binds t (λ go. c.answers (going go)))))

  pub is_of_holds : {Code : Type 0} (program : Program Code) (v : Value) (k : ℕ) → P _ (calls.is_of program v k)
  is_of_holds program v k =
      choose_holds (is_null v) (c.answers _)
      (c.binds (c.looks _ (λ r n. refl)) (λ own. then_holds (c.changes (plain_test own k)) (c.answers (program.is_subtype own k))))

  pub throw_holds : {Code : Type 0} (program : Program Code) (v : Value) → P _ (calls.throw program v)
  throw_holds program v = choose_holds (is_null v) (c.traps trap.TypeFault) (c.binds (c.looks _ (λ r n. refl)) (λ s. c.traps (trap.Thrown s)))

  -- Calls, where what enters a body has P.
  module _ {Code : Type 0} (w : World V Code) (prints : IsSite w.print_site) (lists : IsSite w.list_site) (enters : (e : Entry Code) → P _ (w.enter e)) where
    pub do_member_holds : (found : Found Code) (v : Value) (args : List Value) → P _ (calls.do_member w found v args)
    do_member_holds (built_in n) v args = choose_holds (nat_eq n 43) (enters (listing v)) (c.natives w.program.class_name n v args)
    do_member_holds (reads k) v args = c.looks _ (λ r n. refl)
    do_member_holds (writes k) v args = then_holds (c.changes (plain_field v k (calls.argument 0 args))) (c.answers null)
    do_member_holds (coded code) v args = enters (running code v args)

    pub reach_holds : (target : Target Code) (sel : Selector) (v : Value) (args : List Value) → P _ (calls.reach w target sel v args)
    reach_holds (member found) sel v args = do_member_holds found v args
    reach_holds (missing found) sel v args =
        c.binds (c.binds (c.makes (list args) tt) (λ all. c.makes (invocation (calls.told_name sel.kind sel.name) all sel.kind) tt)) (λ i. do_member_holds found v (i ∷ []))

    pub send_holds : (site : ℕ) (sel : Selector) (v : Value) (args : List Value) → IsSite site → P _ (calls.send w site sel v args)
    send_holds site sel v args h = c.binds (c.asks site v h) (λ k. reach_holds (resolve w.program k sel) sel v args)

    pub to_text_holds : (site : ℕ) (v : Value) → IsSite site → P _ (calls.to_text w site v)
    to_text_holds site v h = c.binds (send_holds site _ v [] h) need_text_holds

    pub equals_holds : (site : ℕ) (v u : Value) → IsSite site → P _ (calls.equals w site v u)
    equals_holds site v u h = choose_holds (is_null v || is_null u) (c.answers _) (c.binds (send_holds site _ v (u ∷ []) h) need_bool_holds)

    pub operate_holds : (k : OperatorCall) (v u : Value) → IsSite k.site.0 → P _ (calls.operate w k v u)
    operate_holds k v u h = send_holds k.site.0 _ v (u ∷ []) h

    combine_by_holds : (op : BinaryOperator) (k : OperatorCall) (v u : Value) → IsSite k.site.0 → P _ (calls.combine_by w op k v u)
    combine_by_holds b.Equal k v u h = c.binds (equals_holds k.site.0 v u h) (λ same. c.answers (bool same))
    combine_by_holds b.NotEqual k v u h = c.binds (equals_holds k.site.0 v u h) (λ same. c.answers (bool (not same)))
    combine_by_holds _ k v u h = operate_holds k v u h

    pub truth_holds : {m : M V Value} → P _ m → P _ (calls.truth w m)
    truth_holds h = c.binds (c.binds h need_bool_holds) (λ x. c.answers (bool x))

    pub combine_holds : (op : Joint) (v : Value) {right : M V Value} → IsCalledAt IsSite op → P _ right → P _ (calls.combine w op v right)
    combine_holds joint.And v s h = c.binds (need_bool_holds v) (λ go. choose_holds go (truth_holds h) (c.answers (bool false)))
    combine_holds joint.Or v s h = c.binds (need_bool_holds v) (λ go. choose_holds go (c.answers (bool true)) (truth_holds h))
    combine_holds (joint.Operator k) v s h = c.binds h (λ u. combine_by_holds k.operator k v u s)

    pub construct_holds : (code : Option Code) (v : Value) (args : List Value) → P _ (calls.construct w code v args)
    construct_holds None v args = c.answers null
    construct_holds (Some code) v args = enters (running code v args)

    pub make_holds : (k : ℕ) (args : List Value) → IsMade k → P _ (calls.make w k args)
    make_holds k args h = c.binds (c.makes (object k (w.program.fields k)) h) (λ v. then_holds (construct_holds (w.program.constructor k) v args) (c.answers v))

    pub print_holds : (v : Value) → P _ (calls.print w v)
    print_holds v = then_holds (c.binds (to_text_holds w.print_site v prints) (λ line. c.changes (plain_line line))) (c.answers null)

    pub list_text_holds : (v : Value) → P _ (calls.list_text w v)
    list_text_holds v =
        c.loops (0, codes "[") (λ s. c.looks _ (λ r n. refl))
        (λ s. c.binds (c.binds (c.looks _ (λ r n. refl)) (λ x. to_text_holds w.list_site x lists)) (λ shown. c.answers _))

-- How many variables are open.
use Rattle.std.proofs.Common.{◌≡◌, ℕ, zero, suc, ◌-◌, ◌≤◌, List, length, refl, sym, ap, ◌∙◌, subst, arith}
use Rattle.std.proofs.Math.Nat.{le_trans, le_refl}
use Rattle.std.proofs.lemmas.List.{length-set, length-drop}
use Rattle.std.specs.Prelude.{Bool, true, drop, Option}
use Rattle.program.specs.Bodies as c
use Rattle.program.specs.Bodies.{Exp, First, Sta, Stas}
use Rattle.program.specs.Parts.{Parts}
use Rattle.program.specs.Sound.{SoundFirst, SoundSta, SoundStas, after, after_first}
use Rattle.dart_values.specs.Values.{Value, Given, gives, traps}
use Rattle.dart_values.specs.Natives.{native}
use Rattle.dart_meaning.specs.Calls.{given}
use Rattle.dart_meaning.specs.Numbered as n
use Rattle.dart_meaning.specs.Numbered.{Code, enter}
use Rattle.dart_meaning.specs.Program.{Entry}
use Rattle.dart_meaning.specs.Run.{Run, Store, Result, went, ended, M, and_then, ◌>>=◌, ◌>>◌, pure, change, spend_from, declare, scoped, Flow, onward, broke, continued, returned, if_onward}
use Rattle.meaning_laws.specs.Laws.{IfWent, SameFrame}
use Rattle.meaning_laws.specs.BodyLaws.{SameCount, Opens, ExpressionsOpenNone, FirstPartsOpen, StatementsOpen}
use Rattle.meaning_laws.proofs.Closed.{Closed}
use Rattle.meaning_laws.proofs.Closed as h
use Rattle.meaning_laws.proofs.ClosedBodies.{ClosedCalls, value, values, test, returns}
use Rattle.meaning_laws.proofs.ClosedEntries.{calls_of}
use Rattle.meaning_laws.proofs.Frames.{entries_leave_the_frame}

-- ---- expressions

-- as many variables, and the same `this`, where it goes on
pub record Leaves {A : Type 0} (m : M Value A) : Type 0 where
  pub leaves : (r : Run Value) → IfWent (m r) (SameCount r)

same_store : (r : Run Value) (s : Store) → SameCount r (record r { store = s })
same_store r s = record { vars = refl; this = refl }

then_count : {A B : Type 0} (r : Run Value) (x : Result Value A) (f : A → M Value B) → IfWent x (SameCount r) → ((a : A) (s : Run Value) → IfWent (f a s) (SameCount s)) → IfWent (and_then x f) (SameCount r)
then_count r (went a s) f h k = on r s (f a s) h (k a s)
  where
    on : {B : Type 0} (r s : Run Value) (x : Result Value B) → SameCount r s → IfWent x (SameCount s) → IfWent x (SameCount r)
    on r s (went b t) h k = record { vars = k.vars ∙ h.vars; this = k.this ∙ h.this }
    on r s (ended e t) h k = tt
then_count r (ended e s) f h k = tt

spend_count : (k : ℕ) (r : Run Value) → IfWent (spend_from k r) (SameCount r)
spend_count zero r = tt
spend_count (suc k) r = same_store r (record r.store { turns = k })

given_count : (g : Given) (r : Run Value) → IfWent (given g r) (SameCount r)
given_count (gives heap v) r = same_store r (record r.store { heap = heap })
given_count (traps t) r = tt

pub leaves : (p : Parts) → Closed p (λ A m. Leaves m)
leaves p = record {
  answers = λ a. record { leaves = λ r. record { vars = refl; this = refl } };
  stops = λ e. record { leaves = λ r. tt };
  binds = λ {A} {B} {m} {f} j k. record { leaves = λ r. then_count r (m r) f (j.leaves r) (λ a s. (k a).leaves s) };
  looks = λ f. record { leaves = λ r. record { vars = refl; this = refl } };
  locals = λ slot w. record { leaves = λ r. record { vars = length-set r.vars _ w; this = refl } };
  globals = λ k w. record { leaves = λ r. same_store r _ };
  fields = λ v k w. record { leaves = λ r. same_store r _ };
  lines = λ line. record { leaves = λ r. same_store r _ };
  tests = λ class named. record { leaves = λ r. same_store r _ };
  spends = record { leaves = λ r. spend_count r.store.turns r };
  makes = λ thing new. record { leaves = λ r. same_store r _ };
  asks = λ site v. record { leaves = λ r. same_store r _ };
  natives = λ names k v args. record { leaves = λ r. given_count (native names k r.store.heap v args) r };
}

of_frame : {A : Type 0} (r : Run Value) (x : Result Value A) → IfWent x (SameFrame r) → IfWent x (SameCount r)
of_frame r (went a s) h = record { vars = ap length h.vars; this = h.this }
of_frame r (ended e s) h = tt

pub entries : (p : Parts) (depth : ℕ) (x : Entry Code) → Leaves (enter p depth x)
entries p depth x = record { leaves = λ r. of_frame r (enter p depth x r) (entries_leave_the_frame p depth x r) }

pub expressions_open_none : ExpressionsOpenNone
expressions_open_none p here slots e ok depth r = (value (calls_of (leaves p) (enter p depth) (entries p depth) here) e slots ok).leaves r

-- ---- statements

-- no variable fewer, and the same `this`
record Grown (r s : Run Value) : Type 0 where
  vars : length r.vars ≤ length s.vars
  this : s.this ≡ r.this

record Grows {A : Type 0} (m : M Value A) : Type 0 where
  grows : (r : Run Value) → IfWent (m r) (Grown r)

-- what opens the variables that a count says
record Opening {A : Type 0} (count : ℕ → ℕ) (m : M Value A) : Type 0 where
  opens : (r : Run Value) → IfWent (m r) (Opens (count (length r.vars)) r)

weaker : {A : Type 0} (x : Result Value A) (P Q : Run Value → Type 0) → ((s : Run Value) → P s → Q s) → IfWent x P → IfWent x Q
weaker (went a s) P Q f h = f s h
weaker (ended e s) P Q f h = tt

grown : {A : Type 0} {count : ℕ → ℕ} {m : M Value A} → ((k : ℕ) → k ≤ count k) → Opening count m → Grows m
grown {count = count} {m = m} more h = record {
  grows = λ r. weaker (m r) _ _ (λ s o. record { vars = subst (λ k. length r.vars ≤ k) (sym o.vars) (more (length r.vars)); this = o.this }) (h.opens r);
}

left : {A : Type 0} {m : M Value A} → Leaves m → Grows m
left {m = m} h = record { grows = λ r. weaker (m r) _ _ (λ s o. record { vars = subst (λ k. length r.vars ≤ k) (sym o.vars) (le_refl (length r.vars)); this = o.this }) (h.leaves r) }

opening : {A : Type 0} {m : M Value A} → Leaves m → Opening (λ k. k) m
opening {m = m} h = record { opens = λ r. weaker (m r) _ _ (λ s o. record { vars = o.vars; this = o.this }) (h.leaves r) }

then_grown : {A B : Type 0} (r : Run Value) (x : Result Value A) (f : A → M Value B) → IfWent x (Grown r) → ((a : A) (s : Run Value) → IfWent (f a s) (Grown s)) → IfWent (and_then x f) (Grown r)
then_grown r (went a s) f h k = weaker (f a s) (Grown s) (Grown r) (λ t o. record { vars = le_trans h.vars o.vars; this = o.this ∙ h.this }) (k a s)
then_grown r (ended e s) f h k = tt

grows_bind : {A B : Type 0} {m : M Value A} {f : A → M Value B} → Grows m → ((a : A) → Grows (f a)) → Grows (m >>= f)
grows_bind {m = m} {f = f} h k = record { grows = λ r. then_grown r (m r) f (h.grows r) (λ a s. (k a).grows s) }

-- the newest variables are dropped
dropped : (vars : List Value) (k : ℕ) → k ≤ length vars → length (drop (length vars - k) vars) ≡ k
dropped vars k h = omega (arith, h, length-drop (length vars - k) vars)

ends : {A : Type 0} (r : Run Value) (x : Result Value A) → IfWent x (Grown r)
    → IfWent (and_then x (λ a. change (λ s. record s { vars = drop (length s.vars - length r.vars) s.vars }) >> pure a)) (SameCount r)
ends r (went a s) h = record { vars = dropped s.vars (length r.vars) h.vars; this = h.this }
ends r (ended e s) h = tt

-- A block drops what it declares.
scoped_leaves : {A : Type 0} {m : M Value A} → Grows m → Leaves (scoped m)
scoped_leaves {m = m} h = record { leaves = λ r. ends r (m r) (h.grows r) }

declared : (v : Value) → Opening suc (declare v)
declared v = record { opens = λ r. record { vars = refl; this = refl } }

-- what follows an expression
behind : {A B : Type 0} (count : ℕ → ℕ) (r : Run Value) (x : Result Value A) (f : A → M Value B) → IfWent x (SameCount r) → ((a : A) (s : Run Value) → IfWent (f a s) (Opens (count (length s.vars)) s))
    → IfWent (and_then x f) (Opens (count (length r.vars)) r)
behind count r (went a s) f h k = weaker (f a s) _ _ (λ t o. record { vars = o.vars ∙ ap count h.vars; this = o.this ∙ h.this }) (k a s)
behind count r (ended e s) f h k = tt

opens_bind : {A B : Type 0} {count : ℕ → ℕ} {m : M Value A} {f : A → M Value B} → Leaves m → ((a : A) → Opening count (f a)) → Opening count (m >>= f)
opens_bind {count = count} {m = m} {f = f} h k = record { opens = λ r. behind count r (m r) f (h.leaves r) (λ a s. (k a).opens s) }

answered : {A B : Type 0} (count : ℕ) (b : B) (r : Run Value) (x : Result Value A) → IfWent x (Opens count r) → IfWent (and_then x (λ _. pure b)) (Opens count r)
answered count b r (went a s) h = h
answered count b r (ended e s) h = tt

-- an answer behind a statement
answers : {A B : Type 0} {count : ℕ → ℕ} {m : M Value A} (b : B) → Opening count m → Opening count (m >> pure b)
answers {count = count} {m = m} b h = record { opens = λ r. answered (count (length r.vars)) b r (m r) (h.opens r) }

if_onward_grows : (f : Flow) {m : M Value Flow} → Grows m → Grows (if_onward f m)
if_onward_grows onward h = h
if_onward_grows broke h = record { grows = λ r. record { vars = le_refl (length r.vars); this = refl } }
if_onward_grows continued h = record { grows = λ r. record { vars = le_refl (length r.vars); this = refl } }
if_onward_grows (returned v) h = record { grows = λ r. record { vars = le_refl (length r.vars); this = refl } }

first_more : (x : First) (k : ℕ) → k ≤ after_first k x
first_more c.no_first k = le_refl k
first_more (c.first_declares e) k = omega arith
first_more (c.first_runs e) k = le_refl k

sta_more : (x : Sta) (k : ℕ) → k ≤ after k x
sta_more (c.declare e) k = omega arith
sta_more _ k = le_refl k

module _ (p : Parts) (enter : Entry Code → M Value Value) (entries : (x : Entry Code) → Leaves (enter x)) (here : Option ℕ) where
  abbrev s : Closed p (λ A m. Leaves m)
  s = leaves p

  k : ClosedCalls p here (λ A m. Leaves (m enter))
  k = calls_of s enter entries here

  first_opens : (x : First) (slots : ℕ) → SoundFirst p here slots x → Opening (λ k. after_first k x) (n.first p enter x)
  first_opens c.no_first slots ok = opening (s.answers tt)
  first_opens (c.first_declares e) slots ok = opens_bind (value k e slots ok) declared
  first_opens (c.first_runs e) slots ok = opening (h.then_of s (value k e slots ok) (s.answers tt))

  module _ (answering : Bool) where
    mutual
      doing_opens : (x : Sta) (slots : ℕ) (loops : Bool) → SoundSta p here answering slots loops x → Opening (λ k. after k x) (n.doing p enter x)
      doing_opens (c.block all) slots loops ok = opening (scoped_leaves (all_grow all slots loops ok))
      doing_opens (c.declare e) slots loops ok = answers onward (opens_bind (value k e slots ok) declared)
      doing_opens (c.run e) slots loops ok = opening (h.then_of s (value k e slots ok) (s.answers onward))
      doing_opens c.empty slots loops ok = opening (s.answers onward)
      doing_opens (c.when e x) slots loops ok =
          opening (s.binds (test k e slots ok.0) (λ go. h.choose_of s go (scoped_leaves (grown (sta_more x) (doing_opens x slots loops ok.1))) (s.answers onward)))
      doing_opens (c.when_else e x y) slots loops ok =
          opening (s.binds (test k e slots ok.0) (λ go. h.choose_of s go (scoped_leaves (grown (sta_more x) (doing_opens x slots loops ok.1))) (scoped_leaves (grown (sta_more y) (doing_opens y slots loops ok.2)))))
      doing_opens (c.while e x) slots loops ok = opening (h.while_of s (test k e slots ok.0) (scoped_leaves (grown (sta_more x) (doing_opens x slots true ok.1))) (s.answers tt))
      doing_opens (c.do_while x e) slots loops ok = opening (h.do_of s (scoped_leaves (grown (sta_more x) (doing_opens x slots true ok.0))) (test k e slots ok.1))
      doing_opens (c.for start e last x) slots loops ok =
          opening (scoped_leaves (grows_bind (grown (first_more start) (first_opens start slots ok.0)) (λ _. left
          (h.while_of s (test k e (after_first slots start) ok.1) (scoped_leaves (grown (sta_more x) (doing_opens x (after_first slots start) true ok.3)))
          (h.then_of s (values k last (after_first slots start) ok.2) (s.answers tt))))))
      doing_opens c.break slots loops ok = opening (s.answers broke)
      doing_opens c.continue slots loops ok = opening (s.answers continued)
      doing_opens (c.return e) slots loops ok = opening (s.binds (returns k e answering slots ok) (λ v. s.answers (returned v)))

      all_grow : (xs : Stas) (slots : ℕ) (loops : Bool) → SoundStas p here answering slots loops xs → Grows (n.doing_all p enter xs)
      all_grow c.end_of slots loops ok = left (s.answers onward)
      all_grow (c.next x more) slots loops ok =
          grows_bind (grown (sta_more x) (doing_opens x slots loops ok.0)) (λ f. if_onward_grows f (all_grow more (after slots x) loops ok.1))

pub first_parts_open : FirstPartsOpen
first_parts_open p here slots x ok depth r = (first_opens p (enter p depth) (entries p depth) here x slots ok).opens r

pub statements_open : StatementsOpen
statements_open p here answering loops slots x ok depth r = (doing_opens p (enter p depth) (entries p depth) here answering x slots loops ok).opens r

-- Runs of the machine: so many instructions lead on, or end. A step of the meaning on the store alone.
use Rattle.std.proofs.Common.{◌≡◌, ℕ, zero, suc, ◌+◌, ◌-◌, ◌*◌, ◌≤◌, refl, ap, ◌∙◌, subst, arith}
use Rattle.std.specs.Prelude.{false, List, []}
use Rattle.dart_values.specs.Natives.{native}
use Rattle.dart_values.specs.Values as values
use Rattle.dart_values.specs.Values.{Value, null, Thing}
use Rattle.dart_meaning.specs.Run.{Run, Store, Ending, Result, went, ended, M, ◌>>◌, pure, stop, spend, spend_from, look, need_bool, need_text, new, set_field, add_line}
use Rattle.dart_meaning.specs.Calls as calls
use Rattle.dart_meaning.specs.Calls.{is_null}
use Rattle.dart_meaning.specs.Numbered.{of_numbered}
use Rattle.program.specs.Parts.{Parts}
use Rattle.meaning_laws.specs.Laws.{last}
use Rattle.meaning_laws.specs.BodyLaws.{Follows}
use Rattle.meaning_laws.proofs.Closed.{Closed, IsNew}
use Rattle.meaning_laws.proofs.Follows.{follows}
use Rattle.meaning_laws.proofs.Stores.{Keeps, steps_keep}
use Rattle.code_pool.specs.Machine.{State, Step, to, over, Outcome, told, resume, exec, step}
use Rattle.machine_runs.proofs.Loaded.{Loaded, answers}

-- ---- what turns pay for

unfoldable pub worth : ℕ → ℕ → ℕ
worth most turns = turns * most

pub worth_suc : (most n : ℕ) → worth most (suc n) ≡ most + worth most n
unfolding worth
worth_suc most n = grind arith

pub worth_mono : (most m n : ℕ) → m ≤ n → worth most m ≤ worth most n
unfolding worth
worth_mono most m n h = grind arith

-- the machine may take more than the turns pay for
pub worth_enough : (l turns : ℕ) → worth l turns ≤ (turns + 1) * (l * (l + 1))
unfolding worth
worth_enough l turns = grind arith

-- ---- runs

module _ (prog : Loaded) where
  -- so many instructions
  abbrev pub run : ℕ → State → Outcome
  run = exec prog.p prog.pool (answers prog)

  -- one instruction
  abbrev pub goes : State → Step
  goes = step prog.p prog.pool (answers prog)

  -- So many instructions lead from one state to another.
  pub record Comes (count : ℕ) (s t : State) : Type 0 where
    pub by_more : (k : ℕ) → (j : ℕ) × (j ≡ count + k) × (run j s ≡ run k t)

  -- So many instructions lead from a state to an outcome.
  pub record Ends (count : ℕ) (s : State) (m : Outcome) : Type 0 where
    pub by_more : (k : ℕ) → (j : ℕ) × (j ≡ count + k) × (run j s ≡ m)

  pub comes_none : (s : State) → Comes 0 s s
  comes_none s = record { by_more = λ k. (k, omega arith, refl) }

  pub comes_on : {a b : ℕ} {s t u : State} → Comes a s t → Comes b t u → Comes (a + b) s u
  comes_on {a = a} {b = b} c d = record { by_more = λ k. let y = d.by_more k in let x = c.by_more y.0 in (x.0, omega (arith, x.1, y.1), x.2 ∙ y.2) }

  pub comes_to_end : {a b : ℕ} {s t : State} {m : Outcome} → Comes a s t → Ends b t m → Ends (a + b) s m
  comes_to_end {a = a} {b = b} c d = record { by_more = λ k. let y = d.by_more k in let x = c.by_more y.0 in (x.0, omega (arith, x.1, y.1), x.2 ∙ y.2) }

  pub comes_one : (s t : State) → goes s ≡ to t → Comes 1 s t
  unfolding exec
  comes_one s t e = record { by_more = λ k. (suc k, omega arith, ap (λ x. resume x (run k)) e) }

  pub ends_one : (s : State) (e : Ending) (t : Store) → goes s ≡ over e t → Ends 1 s (told e t)
  unfolding exec
  ends_one s e t h = record { by_more = λ k. (suc k, omega arith, ap (λ x. resume x (run k)) h) }

  -- A run that is over within so many instructions is over with more.
  pub ends_within : (count most : ℕ) (s : State) (m : Outcome) → Ends count s m → count ≤ most → run most s ≡ m
  ends_within count most s m h le =
      let i = h.by_more (most - count) in
      let j : i.0 ≡ most = omega (arith, i.1, le) in
      subst (λ k. run k s ≡ m) j i.2

-- ---- steps on the store alone

-- a run with no variables and no `this`
abbrev pub bare : Store → Run Value
bare s = record { vars = []; this = null; store = s }

-- a run with the variables and the `this` of another
abbrev pub within : {A : Type 0} → Run Value → Result Value A → Result Value A
within r (went a s) = went a (record r { store = s.store })
within r (ended e s) = ended e (record r { store = s.store })

-- A step that does not look at the frame, and leads to a store as each step of the meaning does.
pub record Shared {A : Type 0} (p : Parts) (m : M Value A) : Type 0 where
  pub same : (r : Run Value) → m r ≡ within r (m (bare r.store))
  pub follows : (r : Run Value) → Follows p r.store (last (m r)).store

module _ {p : Parts} where
  kept : {A : Type 0} {m : M Value A} → Keeps (follows p) m → (r : Run Value) → Follows p r.store (last (m r)).store
  kept k r = k.keeps r

  abbrev steps : Closed p (λ A m. Keeps (follows p) m)
  steps = steps_keep (follows p)

  pub shared_pure : {A : Type 0} (a : A) → Shared p (pure a)
  shared_pure a = record { same = λ r. refl; follows = kept (steps.answers a) }

  pub shared_stop : {A : Type 0} (e : Ending) → Shared {A = A} p (stop e)
  shared_stop {A = A} e = record { same = λ r. refl; follows = kept {A = A} (steps.stops e) }

  pub shared_bool : (v : Value) → Shared p (need_bool v)
  shared_bool (values.bool b) = shared_pure b
  shared_bool null = shared_stop _
  shared_bool (values.num z) = shared_stop _
  shared_bool (values.text s) = shared_stop _
  shared_bool (values.at a) = shared_stop _

  pub shared_text : (v : Value) → Shared p (need_text v)
  shared_text (values.text s) = shared_pure s
  shared_text null = shared_stop _
  shared_text (values.bool b) = shared_stop _
  shared_text (values.num z) = shared_stop _
  shared_text (values.at a) = shared_stop _

  pub shared_line : (u : List ℕ) → Shared p (add_line u)
  shared_line u = record { same = λ r. refl; follows = kept (steps.lines u) }

  pub shared_new : (thing : Thing) → IsNew p thing → Shared p (new thing)
  shared_new thing h = record { same = λ r. refl; follows = kept (steps.makes thing h) }

  pub shared_set : (v : Value) (k : ℕ) (w : Value) → Shared p (set_field v k w)
  shared_set v k w = record { same = λ r. refl; follows = kept (steps.fields v k w) }

  pub shared_write : (v : Value) (k : ℕ) (w : Value) → Shared p (set_field v k w >> pure null)
  shared_write v k w = record { same = λ r. refl; follows = kept (steps.binds (steps.fields v k w) (λ _. steps.answers null)) }

  pub shared_spend : Shared p spend
  shared_spend = record { same = λ r. same_spend r.store.turns r; follows = kept steps.spends }
    where
      same_spend : (n : ℕ) (r : Run Value) → spend_from n r ≡ within r (spend_from n (bare r.store))
      same_spend zero r = refl
      same_spend (suc n) r = refl

  pub shared_native : (n : ℕ) (v : Value) (args : List Value) → Shared p (calls.natively (of_numbered p) n v args)
  shared_native n v args = record { same = λ r. same_given (native (of_numbered p).class_name n r.store.heap v args) r; follows = kept (steps.natives (of_numbered p).class_name n v args) }
    where
      same_given : (g : values.Given) (r : Run Value) → calls.given g r ≡ within r (calls.given g (bare r.store))
      same_given (values.gives heap w) r = refl
      same_given (values.traps t) r = refl

  noted : (v : Value) (c : ℕ) → is_null v ≡ false → Shared p (calls.is_of (of_numbered p) v c)
  noted v c e = rw e (record {
    same = λ r. refl;
    follows = kept (steps.binds (steps.looks (λ r. values.class_of r.store.heap v)) (λ own. steps.binds (steps.tests own c) (λ _. steps.answers ((of_numbered p).is_subtype own c))));
  })

  pub shared_is : (v : Value) (c : ℕ) → Shared p (calls.is_of (of_numbered p) v c)
  shared_is null c = shared_pure _
  shared_is (values.bool b) c = noted (values.bool b) c refl
  shared_is (values.num z) c = noted (values.num z) c refl
  shared_is (values.text s) c = noted (values.text s) c refl
  shared_is (values.at a) c = noted (values.at a) c refl

  -- a field is read
  pub shared_look : {A : Type 0} (g : Store → A) → Shared p (look (λ (r : Run Value). g r.store))
  shared_look g = record { same = λ r. refl; follows = kept (steps.looks (λ r. g r.store)) }

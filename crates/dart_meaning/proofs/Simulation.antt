-- A tree and its numbered form do the same: the relation, and the steps that keep it.
use Rattle.std.proofs.Common.{◌≡◌, ℕ, ◌+◌, ◌<◌, suc, zero, List, [], ◌∷◌, ◌++◌, map, refl, ap, sym, ◌∙◌, subst, arith}
use Rattle.std.specs.Prelude.{Bool, true, false, All}
use Rattle.std.proofs.lemmas.List.{map-append}
use Rattle.std.proofs.lemmas.List.Elements.{All-push}
use Rattle.dart_values.specs.Values.{Text, Value, Given, gives, traps}
use Rattle.dart_values.specs.Values as v
use Rattle.dart_values.specs.Natives.{native}
use Rattle.dart_meaning.specs.Run.{Run, Ending, Result, went, ended, out_of_turns, M, ◌>>=◌, ◌>>◌, pure, stop, look, change, and_then, choose, need_bool, need_text, new, ask, note_test, add_line, set_field, spend, spend_from, Next, again, leaves, on_again, loop, looping}
use Rattle.dart_meaning.specs.Calls.{given}
use Rattle.dart_meaning.specs.Meaning.{Bound}
use Rattle.dart_meaning.proofs.Closed.{IsNew, classes-with_field}
use Rattle.dart_meaning.proofs.Counted.{LeavesClasses, native_leaves, class_fair, new_fair}

abbrev pub names_of : Run Bound → List Text
names_of r = map (λ b. b.name) r.vars

-- a run without the names
abbrev pub erase : Run Bound → Run Value
erase r = record { vars = map (λ b. b.holds) r.vars; this = r.this; store = r.store }

-- a built-in class, or one of so many of the user's
abbrev pub IsClass : ℕ → ℕ → Type 0
IsClass count c = c < 7 + count

pub built_in_class : (count c : ℕ) → c < 7 → IsClass count c
built_in_class count c h = omega (arith, h)

-- each object on the heap is of such a class
abbrev pub AreClasses : ℕ → v.Heap → Type 0
AreClasses count heap = All (IsClass count) (v.classes heap)

-- a run with these names open, of a program with so many classes
abbrev pub Stands : ℕ → List Text → Run Bound → Type 0
Stands count names r = (names_of r ≡ names) × AreClasses count r.store.heap

abbrev pub SameAs : {A : Type 0} → ℕ → List Text → Result Bound A → Result Value A → Type 0
SameAs count names (went a r) y = (y ≡ went a (erase r)) × (Stands count names r)
SameAs count names (ended e r) y = y ≡ ended e (erase r)

-- From every run with these names open both do the same, and the names stay.
pub record Sim {A : Type 0} (count : ℕ) (names : List Text) (m : M Bound A) (n : M Value A) : Type 0 where
  pub same : (r : Run Bound) → Stands count names r → SameAs count names (m r) (n (erase r))

pub sim_pure : {A : Type 0} {count : ℕ} {names : List Text} (a : A) → Sim count names (pure a) (pure a)
sim_pure a = record { same = λ r h. (refl, h) }

pub sim_stop : {A : Type 0} {count : ℕ} {names : List Text} (e : Ending) → Sim {A = A} count names (stop e) (stop e)
sim_stop e = record { same = λ r h. refl }

same_then : {A B : Type 0} (count : ℕ) (names : List Text) (f : A → M Bound B) (g : A → M Value B) → ((a : A) → Sim count names (f a) (g a))
    → (x : Result Bound A) (y : Result Value A) → SameAs count names x y → SameAs count names (and_then x f) (and_then y g)
same_then count names f g k (went a r) y (e, h) = rw e ((k a).same r h)
same_then count names f g k (ended e r) y h = rw h refl

pub sim_bind : {A B : Type 0} {count : ℕ} {names : List Text} {m : M Bound A} {n : M Value A} {f : A → M Bound B} {g : A → M Value B}
    → Sim count names m n → ((a : A) → Sim count names (f a) (g a)) → Sim count names (m >>= f) (n >>= g)
sim_bind {count = count} {names = names} {m = m} {n = n} {f = f} {g = g} s k = record { same = λ r h. same_then count names f g k (m r) (n (erase r)) (s.same r h) }

pub sim_then : {A B : Type 0} {count : ℕ} {names : List Text} {m : M Bound A} {n : M Value A} {f : M Bound B} {g : M Value B}
    → Sim count names m n → Sim count names f g → Sim count names (m >> f) (n >> g)
sim_then {count = count} {names = names} {m = m} {n = n} {f = f} {g = g} s k = record { same = λ r h. same_then count names (λ _. f) (λ _. g) (λ _. k) (m r) (n (erase r)) (s.same r h) }

pub sim_look : {A : Type 0} {count : ℕ} {names : List Text} {f : Run Bound → A} {g : Run Value → A} → ((r : Run Bound) → f r ≡ g (erase r)) → Sim count names (look f) (look g)
sim_look e = record { same = λ r h. (ap (λ a. went a (erase r)) (sym (e r)), h) }

pub sim_change : {count : ℕ} {names : List Text} {f : Run Bound → Run Bound} {g : Run Value → Run Value}
    → ((r : Run Bound) → erase (f r) ≡ g (erase r)) → ((r : Run Bound) → names_of (f r) ≡ names_of r) → ((r : Run Bound) → v.classes (f r).store.heap ≡ v.classes r.store.heap) → Sim count names (change f) (change g)
sim_change {count = count} e k c = record { same = λ r h. (ap (λ s. went tt s) (sym (e r)), (k r ∙ h.0, subst (All (IsClass count)) (sym (c r)) h.1)) }

pub sim_choose : {A : Type 0} {count : ℕ} {names : List Text} (b : Bool) {m : M Bound A} {n : M Value A} {f : M Bound A} {g : M Value A}
    → Sim count names m n → Sim count names f g → Sim count names (choose b m f) (choose b n g)
sim_choose true s k = s
sim_choose false s k = k

pub sim_need_bool : {count : ℕ} {names : List Text} (v : Value) → Sim count names (need_bool v) (need_bool v)
sim_need_bool (v.bool b) = sim_pure b
sim_need_bool _ = sim_stop _

pub sim_need_text : {count : ℕ} {names : List Text} (v : Value) → Sim count names (need_text v) (need_text v)
sim_need_text (v.text s) = sim_pure s
sim_need_text _ = sim_stop _

pub sim_new : {count : ℕ} {names : List Text} (thing : v.Thing) → IsNew (IsClass count) thing → Sim count names (new thing) (new thing)
sim_new {count = count} thing is = record {
  same = λ r h. (
    refl,
    (
      h.0,
      subst (All (IsClass count)) (sym (map-append v.thing_class r.store.heap (thing ∷ [])))
          (All-push (IsClass count) (v.classes r.store.heap) (v.thing_class thing) h.1 (new_fair (λ s. Unit {0}) (IsClass count) (built_in_class count) thing is)),
    ),
  );
}

same_given : (count : ℕ) (names : List Text) (x : Given) (r : Run Bound) → LeavesClasses r.store.heap x → Stands count names r → SameAs count names (given x r) (given x (erase r))
same_given count names (gives heap v) r l h = (refl, (h.0, subst (All (IsClass count)) (sym l) h.1))
same_given count names (traps t) r l h = refl

pub sim_native : {count : ℕ} {names : List Text} (class_name : ℕ → Text) (n : ℕ) (w : Value) (args : List Value)
    → Sim count names (λ r. given (native class_name n r.store.heap w args) r) (λ r. given (native class_name n r.store.heap w args) r)
sim_native {count = count} {names = names} class_name n w args =
    record { same = λ r h. same_given count names (native class_name n r.store.heap w args) r (native_leaves class_name n r.store.heap w args) h }

same_spend : (count : ℕ) (names : List Text) (n : ℕ) (r : Run Bound) → Stands count names r → SameAs count names (spend_from n r) (spend_from n (erase r))
same_spend count names zero r h = refl
same_spend count names (suc n) r h = (refl, h)

pub sim_spend : {count : ℕ} {names : List Text} → Sim count names spend spend
sim_spend {count = count} {names = names} = record { same = λ r h. same_spend count names r.store.turns r h }

-- what a call asks for, and is tested for, is a class
pub sim_ask : {A : Type 0} {count : ℕ} {names : List Text} {f : ℕ → M Bound A} {g : ℕ → M Value A} (site : ℕ) (w : Value)
    → ((c : ℕ) → IsClass count c → Sim count names (f c) (g c)) → Sim count names (ask site w >>= f) (ask site w >>= g)
sim_ask {count = count} site w k = record {
  same = λ r h. (k (v.class_of r.store.heap w) (class_fair (λ s. Unit {0}) (IsClass count) (built_in_class count) r.store.heap w h.1)).same (record r { store = record r.store { asked = r.store.asked ++ (site, v.class_of r.store.heap w) ∷ [] } }) h;
}

pub sim_class : {A : Type 0} {count : ℕ} {names : List Text} {f : ℕ → M Bound A} {g : ℕ → M Value A} (w : Value)
    → ((c : ℕ) → IsClass count c → Sim count names (f c) (g c)) → Sim count names (look (λ r. v.class_of r.store.heap w) >>= f) (look (λ r. v.class_of r.store.heap w) >>= g)
sim_class {count = count} w k = record {
  same = λ r h. (k (v.class_of r.store.heap w) (class_fair (λ s. Unit {0}) (IsClass count) (built_in_class count) r.store.heap w h.1)).same r h;
}

pub sim_note_test : {count : ℕ} {names : List Text} (class named : ℕ) → Sim count names (note_test class named) (note_test class named)
sim_note_test class named = sim_change (λ r. refl) (λ r. refl) (λ r. refl)

pub sim_add_line : {count : ℕ} {names : List Text} (line : Text) → Sim count names (add_line line) (add_line line)
sim_add_line line = sim_change (λ r. refl) (λ r. refl) (λ r. refl)

pub sim_set_field : {count : ℕ} {names : List Text} (w : Value) (k : ℕ) (x : Value) → Sim count names (set_field w k x) (set_field w k x)
sim_set_field w k x = sim_change (λ r. refl) (λ r. refl) (λ r. classes-with_field r.store.heap w k x)

then_then : {V A B C : Type 0} (x : Result V A) (f : A → M V B) (g : B → M V C) → and_then (and_then x f) g ≡ and_then x (λ a r. and_then (f a r) g)
then_then (went a r) f g = refl
then_then (ended e r) f g = refl

then_pure : {V A : Type 0} (x : Result V A) → and_then x (λ a. pure a) ≡ x
then_pure (went a r) = refl
then_pure (ended e r) = refl

-- a numbered run that leads to the same from every state
pub sim_on : {A : Type 0} {count : ℕ} {names : List Text} {m : M Bound A} {n k : M Value A} → ((r : Run Value) → k r ≡ n r) → Sim count names m n → Sim count names m k
sim_on {count = count} {names = names} {m = m} e s = record { same = λ r h. subst (λ y. SameAs count names (m r) y) (sym (e (erase r))) (s.same r h) }

-- the same with the last answer handed on
pub sim_ends : {A : Type 0} {count : ℕ} {names : List Text} {m : M Bound A} {n : M Value A} → Sim count names m n → Sim count names m (n >>= (λ a. pure a))
sim_ends {n = n} s = sim_on (λ r. then_pure (n r)) s

-- the steps of a numbered run may be grouped from the right
pub sim_regroup : {A B C : Type 0} {count : ℕ} {names : List Text} {m : M Bound C} (n : M Value A) (f : A → M Value B) (g : B → M Value C)
    → Sim count names m (n >>= (λ a. f a >>= g)) → Sim count names m ((n >>= f) >>= g)
sim_regroup n f g s = sim_on (λ r. then_then (n r) f g) s

-- the same, where the results are related
abbrev pub SameBy : {A B : Type 0} → (A → B → Type 0) → ℕ → List Text → Result Bound A → Result Value B → Type 0
SameBy {B = B} R count names (went a r) y = (b : B) × (y ≡ went b (erase r)) × (Stands count names r) × R a b
SameBy R count names (ended e r) y = y ≡ ended e (erase r)

pub record SimBy {A B : Type 0} (R : A → B → Type 0) (count : ℕ) (names : List Text) (m : M Bound A) (n : M Value B) : Type 0 where
  pub same : (r : Run Bound) → Stands count names r → SameBy R count names (m r) (n (erase r))

then_by : {A B C : Type 0} (R : A → B → Type 0) (count : ℕ) (names : List Text) (f : A → M Bound C) (g : B → M Value C) → ((a : A) (b : B) → R a b → Sim count names (f a) (g b))
    → (x : Result Bound A) (y : Result Value B) → SameBy R count names x y → SameAs count names (and_then x f) (and_then y g)
then_by R count names f g k (went a r) y (b, e, h, is) = rw e ((k a b is).same r h)
then_by R count names f g k (ended e r) y h = rw h refl

-- from related results on
pub sim_from : {A B C : Type 0} {R : A → B → Type 0} {count : ℕ} {names : List Text} {m : M Bound A} {n : M Value B} {f : A → M Bound C} {g : B → M Value C}
    → SimBy R count names m n → ((a : A) (b : B) → R a b → Sim count names (f a) (g b)) → Sim count names (m >>= f) (n >>= g)
sim_from {R = R} {count = count} {names = names} {m = m} {n = n} {f = f} {g = g} s k = record { same = λ r h. then_by R count names f g k (m r) (n (erase r)) (s.same r h) }

then_to : {A B C : Type 0} (R : B → C → Type 0) (count : ℕ) (names : List Text) (f : A → M Bound B) (g : A → M Value C) → ((a : A) → SimBy R count names (f a) (g a))
    → (x : Result Bound A) (y : Result Value A) → SameAs count names x y → SameBy R count names (and_then x f) (and_then y g)
then_to R count names f g k (went a r) y (e, h) = rw e ((k a).same r h)
then_to R count names f g k (ended e r) y h = rw h refl

-- on to related results
pub sim_to : {A B C : Type 0} {R : B → C → Type 0} {count : ℕ} {names : List Text} {m : M Bound A} {n : M Value A} {f : A → M Bound B} {g : A → M Value C}
    → Sim count names m n → ((a : A) → SimBy R count names (f a) (g a)) → SimBy R count names (m >>= f) (n >>= g)
sim_to {R = R} {count = count} {names = names} {m = m} {n = n} {f = f} {g = g} s k = record { same = λ r h. then_to R count names f g k (m r) (n (erase r)) (s.same r h) }

pub sim_pure_by : {A B : Type 0} {R : A → B → Type 0} {count : ℕ} {names : List Text} (a : A) (b : B) → R a b → SimBy R count names (pure a) (pure b)
sim_pure_by a b is = record { same = λ r h. (b, refl, h, is) }

pub sim_ungroup : {A B C : Type 0} {count : ℕ} {names : List Text} {m : M Bound C} (n : M Value A) (f : A → M Value B) (g : B → M Value C)
    → Sim count names m ((n >>= f) >>= g) → Sim count names m (n >>= (λ a. f a >>= g))
sim_ungroup n f g s = sim_on (λ r. sym (then_then (n r) f g)) s

-- the steps of a run of a tree may be grouped from the right
pub sim_regroup_tree : {A B C : Type 0} {count : ℕ} {names : List Text} {n : M Value C} (m : M Bound A) (f : A → M Bound B) (g : B → M Bound C)
    → Sim count names (m >>= (λ a. f a >>= g)) n → Sim count names ((m >>= f) >>= g) n
sim_regroup_tree {count = count} {names = names} {n = n} m f g s = record { same = λ r h. subst (λ x. SameAs count names x (n (erase r))) (sym (then_then (m r) f g)) (s.same r h) }

-- a numbered run that leads to the same from every state
pub sim_by_on : {A B : Type 0} {R : A → B → Type 0} {count : ℕ} {names : List Text} {m : M Bound A} {n k : M Value B} → ((r : Run Value) → k r ≡ n r)
    → SimBy R count names m n → SimBy R count names m k
sim_by_on {R = R} {count = count} {names = names} {m = m} e s = record { same = λ r h. subst (λ y. SameBy R count names (m r) y) (sym (e (erase r))) (s.same r h) }

pub sim_regroup_by : {A B C D : Type 0} {R : D → C → Type 0} {count : ℕ} {names : List Text} {m : M Bound D} (n : M Value A) (f : A → M Value B) (g : B → M Value C)
    → SimBy R count names m (n >>= (λ a. f a >>= g)) → SimBy R count names m ((n >>= f) >>= g)
sim_regroup_by n f g s = sim_by_on (λ r. then_then (n r) f g) s

-- ---- loops

pub sim_on_again : {S A : Type 0} {count : ℕ} {names : List Text} {f : S → M Bound A} {g : S → M Value A} → ((s : S) → Sim count names (f s) (g s)) → (n : Next S A) → Sim count names (on_again f n) (on_again g n)
sim_on_again h (again s) = h s
sim_on_again h (leaves a) = sim_pure a

pub sim_loop : {S A : Type 0} {count : ℕ} {names : List Text} {test turn : S → M Bound (Next S A)} {test' turn' : S → M Value (Next S A)} (k : ℕ)
    → ((s : S) → Sim count names (test s) (test' s)) → ((s : S) → Sim count names (turn s) (turn' s)) → (s : S) → Sim count names (loop k test turn s) (loop k test' turn' s)
sim_loop zero t u s = sim_bind (t s) (sim_on_again (λ x. sim_stop out_of_turns))
sim_loop (suc k) t u s = sim_bind (t s) (sim_on_again (λ x. sim_then sim_spend (sim_bind (u x) (sim_on_again (sim_loop k t u)))))

pub sim_looping : {S A : Type 0} {count : ℕ} {names : List Text} {test turn : S → M Bound (Next S A)} {test' turn' : S → M Value (Next S A)}
    → ((s : S) → Sim count names (test s) (test' s)) → ((s : S) → Sim count names (turn s) (turn' s)) → (s : S) → Sim count names (looping test turn s) (looping test' turn' s)
sim_looping t u s = sim_bind (sim_look (λ r. refl)) (λ k. sim_loop k t u s)

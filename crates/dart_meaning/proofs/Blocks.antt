-- Blocks: what statements open is dropped at a block's end.
use Rattle.std.proofs.Common.{◌≡◌, ℕ, ◌-◌, suc, zero, List, [], ◌∷◌, ◌++◌, map, length, drop, refl, ap, sym, ◌∙◌, arith, append_assoc, length-append}
use Rattle.std.proofs.lemmas.List.{length-map}
use Rattle.std.proofs.Math.Seq.{drop-append_seam}
use Rattle.std.specs.Prelude.{Bool}
use Rattle.dart_values.specs.Values.{Text, Value}
use Rattle.dart_meaning.specs.Run.{Run, Result, went, ended, M, ◌>>=◌, ◌>>◌, pure, change, and_then, scoped, declare, Flow, onward, broke, continued, returned, if_onward, Next, again, leaves, after_body, going, while_loop, do_loop}
use Rattle.dart_meaning.specs.Meaning.{Bound}
use Rattle.dart_meaning.proofs.Simulation.{Sim, SameAs, Stands, AreClasses, names_of, erase, sim_pure, sim_bind, sim_then, sim_looping}

-- which names are open after a statement: these where it goes on, and some more where it leaves
abbrev pub NamesAfter : List Text → List Text → Flow → List Text → Type 0
NamesAfter names after onward now = now ≡ after
NamesAfter names after _ now = (more : List Text) × (now ≡ more ++ names)

abbrev pub SameFlow : ℕ → List Text → List Text → Result Bound Flow → Result Value Flow → Type 0
SameFlow count names after (went f r) y = (y ≡ went f (erase r)) × NamesAfter names after f (names_of r) × AreClasses count r.store.heap
SameFlow count names after (ended e r) y = y ≡ ended e (erase r)

-- Statements that begin with some names open, and leave more open, do the same.
pub record SimFlow (count : ℕ) (names after : List Text) (m : M Bound Flow) (n : M Value Flow) : Type 0 where
  pub same : (r : Run Bound) → Stands count names r → SameFlow count names after (m r) (n (erase r))

flow_names : (names : List Text) (f : Flow) (now : List Text) → now ≡ names → NamesAfter names names f now
flow_names names onward now h = h
flow_names names broke now h = ([], h)
flow_names names continued now h = ([], h)
flow_names names (returned v) now h = ([], h)

as_flow : (count : ℕ) (names : List Text) (x : Result Bound Flow) (y : Result Value Flow) → SameAs count names x y → SameFlow count names names x y
as_flow count names (went f r) y (e, h) = (e, flow_names names f (names_of r) h.0, h.1)
as_flow count names (ended e r) y h = h

-- a statement that nows nothing
pub flow_of : {count : ℕ} {names : List Text} {m : M Bound Flow} {n : M Value Flow} → Sim count names m n → SimFlow count names names m n
flow_of {count = count} {names = names} {m = m} {n = n} s = record { same = λ r h. as_flow count names (m r) (n (erase r)) (s.same r h) }

then_flow : {A : Type 0} (count : ℕ) (names after : List Text) (f : A → M Bound Flow) (g : A → M Value Flow) → ((a : A) → SimFlow count names after (f a) (g a))
    → (x : Result Bound A) (y : Result Value A) → SameAs count names x y → SameFlow count names after (and_then x f) (and_then y g)
then_flow count names after f g k (went a r) y (e, h) = rw e ((k a).same r h)
then_flow count names after f g k (ended e r) y h = rw h refl

pub flow_bind : {A : Type 0} {count : ℕ} {names after : List Text} {m : M Bound A} {n : M Value A} {f : A → M Bound Flow} {g : A → M Value Flow}
    → Sim count names m n → ((a : A) → SimFlow count names after (f a) (g a)) → SimFlow count names after (m >>= f) (n >>= g)
flow_bind {count = count} {names = names} {after = after} {m = m} {n = n} {f = f} {g = g} s k = record { same = λ r h. then_flow count names after f g k (m r) (n (erase r)) (s.same r h) }

-- One statement after another.

widen : (count : ℕ) (names mid after more : List Text) → mid ≡ more ++ names → (x : Result Bound Flow) (y : Result Value Flow) → SameFlow count mid after x y → SameFlow count names after x y
widen count names mid after more h (went onward r) y s = s
widen count names mid after more h (went broke r) y (e, (some, k), c) = (e, (some ++ more, k ∙ (ap (λ l. some ++ l) h ∙ sym (append_assoc some more names))), c)
widen count names mid after more h (went continued r) y (e, (some, k), c) = (e, (some ++ more, k ∙ (ap (λ l. some ++ l) h ∙ sym (append_assoc some more names))), c)
widen count names mid after more h (went (returned v) r) y (e, (some, k), c) = (e, (some ++ more, k ∙ (ap (λ l. some ++ l) h ∙ sym (append_assoc some more names))), c)
widen count names mid after more h (ended e r) y s = s

next_flow : (count : ℕ) (names mid after more : List Text) → mid ≡ more ++ names → (k : M Bound Flow) (l : M Value Flow) → SimFlow count mid after k l
    → (x : Result Bound Flow) (y : Result Value Flow) → SameFlow count names mid x y → SameFlow count names after (and_then x (λ f. if_onward f k)) (and_then y (λ f. if_onward f l))
next_flow count names mid after more h k l s (went onward r) y (e, now, c) = rw e (widen count names mid after more h (k r) (l (erase r)) (s.same r (now, c)))
next_flow count names mid after more h k l s (went broke r) y (e, now, c) = rw e (refl, now, c)
next_flow count names mid after more h k l s (went continued r) y (e, now, c) = rw e (refl, now, c)
next_flow count names mid after more h k l s (went (returned v) r) y (e, now, c) = rw e (refl, now, c)
next_flow count names mid after more h k l s (ended e r) y i = rw i refl

pub flow_next : {count : ℕ} {names after : List Text} {m : M Bound Flow} {n : M Value Flow} {k : M Bound Flow} {l : M Value Flow} (mid more : List Text) → mid ≡ more ++ names
    → SimFlow count names mid m n → SimFlow count mid after k l → SimFlow count names after (m >>= (λ f. if_onward f k)) (n >>= (λ f. if_onward f l))
flow_next {count = count} {names = names} {after = after} {m = m} {n = n} {k = k} {l = l} mid more e s t =
    record { same = λ r h. next_flow count names mid after more e k l t (m r) (n (erase r)) (s.same r h) }

-- Blocks.

drop-map : {A B : Type 0} (f : A → B) (k : ℕ) (l : List A) → drop k (map f l) ≡ map f (drop k l)
drop-map f zero l = refl
drop-map f (suc k) [] = refl
drop-map f (suc k) (a ∷ l) = drop-map f k l

cut_values : (vars : List Bound) (n k : ℕ) → n ≡ k → drop (length (map (λ b. b.holds) vars) - n) (map (λ b. b.holds) vars) ≡ map (λ b. b.holds) (drop (length vars - k) vars)
cut_values vars n k e = rw (e, length-map vars (λ b. b.holds)) (drop-map (λ b. b.holds) (length vars - k) vars)

cut_names : (vars : List Bound) (k : ℕ) (more names : List Text) → map (λ b. b.name) vars ≡ more ++ names → k ≡ length names
    → map (λ b. b.name) (drop (length vars - k) vars) ≡ names
cut_names vars k more names h e =
    let a : length vars - k ≡ length more = grind (arith, length-append, length-map vars (λ b. b.name), ap length h) in
    sym (drop-map (λ b. b.name) (length vars - k) vars) ∙ (rw (a, h) (drop-append_seam more names))

abbrev closing : {V : Type 0} → ℕ → Flow → M V Flow
closing n f = change (λ r. record r { vars = drop (length r.vars - n) r.vars }) >> pure f

closed : (count : ℕ) (names more : List Text) (n k : ℕ) → k ≡ length names → n ≡ k → (f : Flow) (r : Run Bound) → names_of r ≡ more ++ names → AreClasses count r.store.heap
    → SameAs count names (closing k f r) (closing n f (erase r))
closed count names more n k e i f r h c =
    (ap (λ vars. went f (record (erase r) { vars = vars })) (cut_values r.vars n k i), (cut_names r.vars k more names h e, c))

close_all : (count : ℕ) (names after more : List Text) (n k : ℕ) → k ≡ length names → n ≡ k → after ≡ more ++ names → (x : Result Bound Flow) (y : Result Value Flow) → SameFlow count names after x y
    → SameAs count names (and_then x (closing k)) (and_then y (closing n))
close_all count names after more n k e i h (went onward r) y (is, now, c) = rw is (closed count names more n k e i onward r (now ∙ h) c)
close_all count names after more n k e i h (went broke r) y (is, (some, now), c) = rw is (closed count names some n k e i broke r now c)
close_all count names after more n k e i h (went continued r) y (is, (some, now), c) = rw is (closed count names some n k e i continued r now c)
close_all count names after more n k e i h (went (returned v) r) y (is, (some, now), c) = rw is (closed count names some n k e i (returned v) r now c)
close_all count names after more n k e i h (ended z r) y is = rw is refl

pub sim_scoped : {count : ℕ} {names after : List Text} {m : M Bound Flow} {n : M Value Flow} (more : List Text) → after ≡ more ++ names → SimFlow count names after m n → Sim count names (scoped m) (scoped n)
sim_scoped {count = count} {names = names} {after = after} {m = m} {n = n} more h s = record {
  same = λ r k.
      close_all count names after more (length (map (λ b. b.holds) r.vars)) (length r.vars)
      (sym (length-map r.vars (λ b. b.name)) ∙ ap length k.0) (length-map r.vars (λ b. b.holds)) h (m r) (n (erase r)) (s.same r k);
}

-- Loops.

pub sim_after_body : {count : ℕ} {names : List Text} (f : Flow) {m : M Bound (Next (Unit {0}) Flow)} {n : M Value (Next (Unit {0}) Flow)} → Sim count names m n → Sim count names (after_body f m) (after_body f n)
sim_after_body onward s = s
sim_after_body continued s = s
sim_after_body broke s = sim_pure (leaves onward)
sim_after_body (returned v) s = sim_pure (leaves (returned v))

pub sim_while : {count : ℕ} {names : List Text} {test : M Bound Bool} {test' : M Value Bool} {body : M Bound Flow} {body' : M Value Flow} {last : M Bound (Unit {0})} {last' : M Value (Unit {0})}
    → Sim count names test test' → Sim count names body body' → Sim count names last last' → Sim count names (while_loop test body last) (while_loop test' body' last')
sim_while t b l = sim_looping (λ _. sim_bind t (λ go. sim_pure (going go))) (λ _. sim_bind b (λ f. sim_after_body f (sim_then l (sim_pure (again tt))))) tt

pub sim_do : {count : ℕ} {names : List Text} {body : M Bound Flow} {body' : M Value Flow} {test : M Bound Bool} {test' : M Value Bool}
    → Sim count names body body' → Sim count names test test' → Sim count names (do_loop body test) (do_loop body' test')
sim_do b t = sim_looping (λ _. sim_pure (again tt)) (λ _. sim_bind b (λ f. sim_after_body f (sim_bind t (λ go. sim_pure (going go))))) tt

-- Declarations: what opens a name.

abbrev pub SameOpen : ℕ → List Text → Result Bound (Unit {0}) → Result Value (Unit {0}) → Type 0
SameOpen count after (went a r) y = (y ≡ went tt (erase r)) × Stands count after r
SameOpen count after (ended e r) y = y ≡ ended e (erase r)

pub record SimOpen (count : ℕ) (names after : List Text) (m : M Bound (Unit {0})) (n : M Value (Unit {0})) : Type 0 where
  pub same : (r : Run Bound) → Stands count names r → SameOpen count after (m r) (n (erase r))

as_open : (count : ℕ) (names : List Text) (x : Result Bound (Unit {0})) (y : Result Value (Unit {0})) → SameAs count names x y → SameOpen count names x y
as_open count names (went a r) y s = s
as_open count names (ended e r) y s = s

pub open_of : {count : ℕ} {names : List Text} {m : M Bound (Unit {0})} {n : M Value (Unit {0})} → Sim count names m n → SimOpen count names names m n
open_of {count = count} {names = names} {m = m} {n = n} s = record { same = λ r h. as_open count names (m r) (n (erase r)) (s.same r h) }

pub sim_declare : {count : ℕ} {names : List Text} (x : Text) (w : Value) → SimOpen count names (x ∷ names) (declare (record { name = x; holds = w })) (declare w)
sim_declare x w = record { same = λ r h. (refl, (ap (λ l. x ∷ l) h.0, h.1)) }

then_open : {A : Type 0} (count : ℕ) (names after : List Text) (f : A → M Bound (Unit {0})) (g : A → M Value (Unit {0})) → ((a : A) → SimOpen count names after (f a) (g a))
    → (x : Result Bound A) (y : Result Value A) → SameAs count names x y → SameOpen count after (and_then x f) (and_then y g)
then_open count names after f g k (went a r) y (e, h) = rw e ((k a).same r h)
then_open count names after f g k (ended e r) y h = rw h refl

pub open_bind : {A : Type 0} {count : ℕ} {names after : List Text} {m : M Bound A} {n : M Value A} {f : A → M Bound (Unit {0})} {g : A → M Value (Unit {0})}
    → Sim count names m n → ((a : A) → SimOpen count names after (f a) (g a)) → SimOpen count names after (m >>= f) (n >>= g)
open_bind {count = count} {names = names} {after = after} {m = m} {n = n} {f = f} {g = g} s k = record { same = λ r h. then_open count names after f g k (m r) (n (erase r)) (s.same r h) }

open_then : (count : ℕ) (names mid after more : List Text) → mid ≡ more ++ names → (k : M Bound Flow) (l : M Value Flow) → SimFlow count mid after k l
    → (x : Result Bound (Unit {0})) (y : Result Value (Unit {0})) → SameOpen count mid x y → SameFlow count names after (and_then x (λ _. k)) (and_then y (λ _. l))
open_then count names mid after more h k l s (went a r) y (e, now) = rw e (widen count names mid after more h (k r) (l (erase r)) (s.same r now))
open_then count names mid after more h k l s (ended e r) y i = rw i refl

pub flow_open : {count : ℕ} {names after : List Text} {m : M Bound (Unit {0})} {n : M Value (Unit {0})} {k : M Bound Flow} {l : M Value Flow} (mid more : List Text) → mid ≡ more ++ names
    → SimOpen count names mid m n → SimFlow count mid after k l → SimFlow count names after (m >> k) (n >> l)
flow_open {count = count} {names = names} {after = after} {m = m} {n = n} {k = k} {l = l} mid more e s t =
    record { same = λ r h. open_then count names mid after more e k l t (m r) (n (erase r)) (s.same r h) }

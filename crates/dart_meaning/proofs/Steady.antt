-- A run with more turns does what one with fewer does, and goes on where that one has none left.
use Rattle.std.proofs.Common.{◌≡◌, ℕ, ◌+◌, ◌≤◌, List, [], ◌∷◌, ◌++◌, refl, ap, sym, subst, ◌∙◌, zero, suc, append_assoc, arith}
use Rattle.std.specs.Prelude.{◌-◌}
use Rattle.std.proofs.Math.Nat.{le_trans, le_refl}
use Rattle.dart_values.specs.Values.{Heap, Given, gives, traps, class_of}
use Rattle.dart_values.specs.Natives.{native}
use Rattle.dart_meaning.specs.Run.{Run, Ending, done, threw, out_of_turns, stack_overflow, Result, went, ended, M, and_then, ◌>>=◌, ◌>>◌, stop, change, spend, spend_from, Next, again, leaves, on_again, loop}
use Rattle.dart_meaning.specs.Calls.{given}
use Rattle.dart_meaning.specs.Laws.{IsFront}
use Rattle.dart_meaning.proofs.Closed.{Closed, Plain, front_refl, front_more}

pub front_trans : {A : Type 0} (xs : List A) (ys zs : List A) → IsFront xs ys → IsFront ys zs → IsFront xs zs
front_trans xs ys zs p q = (p.0 ++ q.0, q.1 ∙ ap (λ l. l ++ q.0) p.1 ∙ append_assoc xs p.0 q.0)

-- the run in the end
abbrev pub state : {V A : Type 0} → Result V A → Run V
state (went a r) = r
state (ended e r) = r

-- the same run with more turns
abbrev pub more : {V : Type 0} → ℕ → Run V → Run V
more d r = record r { store = record r.store { turns = r.store.turns + d } }

-- What was told is still told.
pub record Told {V : Type 0} (r s : Run V) : Type 0 where
  pub lines : IsFront r.store.lines s.store.lines
  pub asked : IsFront r.store.asked s.store.asked
  pub tests : IsFront r.store.tests s.store.tests

pub told_refl : {V : Type 0} (r : Run V) → Told r r
told_refl r = record { lines = front_refl r.store.lines; asked = front_refl r.store.asked; tests = front_refl r.store.tests }

-- turns and the heap tell nothing
pub told_same : {V : Type 0} (r : Run V) (n : ℕ) (heap : Heap) → Told r (record r { store = record r.store { turns = n; heap = heap } })
told_same r n heap = record { lines = front_refl r.store.lines; asked = front_refl r.store.asked; tests = front_refl r.store.tests }

pub told_trans : {V : Type 0} {r s t : Run V} → Told r s → Told s t → Told r t
told_trans {r = r} {s = s} {t = t} h k = record { lines = front_trans r.store.lines s.store.lines t.store.lines h.lines k.lines; asked = front_trans r.store.asked s.store.asked t.store.asked h.asked k.asked; tests = front_trans r.store.tests s.store.tests t.store.tests h.tests k.tests }

-- and no turn came back
pub record Goes {V : Type 0} (r s : Run V) : Type 0 where
  pub told : Told r s
  pub turns : s.store.turns ≤ r.store.turns

pub goes_refl : {V : Type 0} (r : Run V) → Goes r r
goes_refl r = record { told = told_refl r; turns = le_refl r.store.turns }

pub goes_trans : {V : Type 0} {r s t : Run V} → Goes r s → Goes s t → Goes r t
goes_trans h k = record { told = told_trans h.told k.told; turns = le_trans k.turns h.turns }

-- y is where a run with d more turns leads that with fewer ended at s. Where there was no turn left, it spends at least one of the d.
abbrev pub Ends : {V A : Type 0} → ℕ → Ending → Run V → Result V A → Type 0
Ends d out_of_turns s y = (s.store.turns ≡ 0) × Told s (state y) × ((state y).store.turns ≤ d - 1)
Ends d done s y = y ≡ ended done (more d s)
Ends d (threw t) s y = y ≡ ended (threw t) (more d s)
Ends d stack_overflow s y = y ≡ ended stack_overflow (more d s)

-- where a run leads from r, and where one with d more turns leads
abbrev pub Longer : {V A : Type 0} → ℕ → Run V → Result V A → Result V A → Type 0
Longer d r (went a s) y = Goes r s × (y ≡ went a (more d s))
Longer d r (ended e s) y = Goes r s × Ends d e s y

pub record Steady {V A : Type 0} (m : M V A) : Type 0 where
  pub runs : (d : ℕ) (r : Run V) → Longer d r (m r) (m (more d r))

longer_goes : {V A : Type 0} (d : ℕ) (r : Run V) (x y : Result V A) → Longer d r x y → Goes r (state x)
longer_goes d r (went a s) y h = h.0
longer_goes d r (ended e s) y h = h.0

pub goes : {V A : Type 0} {m : M V A} → Steady m → (r : Run V) → Goes r (state (m r))
goes {m = m} h r = longer_goes 0 r (m r) (m (more 0 r)) (h.runs 0 r)

weaken : {V A : Type 0} (d : ℕ) (r s : Run V) → Goes r s → (x y : Result V A) → Longer d s x y → Longer d r x y
weaken d r s g (went a t) y h = (goes_trans g h.0, h.1)
weaken d r s g (ended e t) y h = (goes_trans g h.0, h.1)

-- ---- one behind another

-- where no turn is left for the first
out_then : {V A B : Type 0} (d : ℕ) (s : Run V) (y : Result V A) (g : A → M V B) → Ends d out_of_turns s y → ((a : A) (t : Run V) → Goes t (state (g a t))) → Ends d out_of_turns s (and_then y g)
out_then d s (went a t) g h k = (h.0, told_trans h.1 (k a t).told, le_trans (k a t).turns h.2)
out_then d s (ended e t) g h k = h

then_longer : {V A B : Type 0} (d : ℕ) (r : Run V) (f g : A → M V B) (x y : Result V A) → Longer d r x y
    → ((a : A) (s : Run V) → Goes r s → Longer d s (f a s) (g a (more d s))) → ((a : A) (t : Run V) → Goes t (state (g a t)))
    → Longer d r (and_then x f) (and_then y g)
then_longer d r f g (went a s) y h k l = subst (λ z. Longer d r (f a s) (and_then z g)) (sym h.1) (weaken d r s h.0 (f a s) (g a (more d s)) (k a s h.0))
then_longer d r f g (ended done s) y h k l = (h.0, ap (λ z. and_then z g) h.1)
then_longer d r f g (ended (threw t) s) y h k l = (h.0, ap (λ z. and_then z g) h.1)
then_longer d r f g (ended stack_overflow s) y h k l = (h.0, ap (λ z. and_then z g) h.1)
then_longer d r f g (ended out_of_turns s) y h k l = (h.0, out_then d s y g h.1 l)

pub steady_bind : {V A B : Type 0} {m : M V A} {f : A → M V B} → Steady m → ((a : A) → Steady (f a)) → Steady (m >>= f)
steady_bind {m = m} {f = f} h k = record {
  runs = λ d r. then_longer d r f f (m r) (m (more d r)) (h.runs d r) (λ a s g. (k a).runs d s) (λ a t. goes (k a) t);
}

-- ---- turns

spend_zero : {V : Type 0} (k d : ℕ) (r : Run V) → r.store.turns ≡ 0 → k ≡ d → Ends d out_of_turns r (spend_from k (more d r))
spend_zero zero d r e f = (e, told_same r (r.store.turns + d) r.store.heap, omega (arith, e, f))
spend_zero (suc k) d r e f = (e, told_same r k r.store.heap, omega (arith, f))

spend_then : {V B : Type 0} (n k d : ℕ) (r : Run V) (f g : M V B) → r.store.turns ≡ n → k ≡ n + d
    → ((s : Run V) → Goes r s → suc s.store.turns ≤ n → Longer d s (f s) (g (more d s))) → ((t : Run V) → Goes t (state (g t)))
    → Longer d r (and_then (spend_from n r) (λ _. f)) (and_then (spend_from k (more d r)) (λ _. g))
spend_then zero k d r f g e h l goes_on = (goes_refl r, out_then d r (spend_from k (more d r)) (λ _. g) (spend_zero k d r e (omega (arith, h))) (λ _. goes_on))
spend_then (suc n) zero d r f g e h l goes_on = absurd (omega (arith, h))
spend_then (suc n) (suc k) d r f g e h l goes_on =
    let s : Run _ = record r { store = record r.store { turns = n } } in
    let move : Goes r s = record { told = told_same r n r.store.heap; turns = omega (arith, e) } in
    let last : k ≡ n + d = omega (arith, h) in
    subst (λ j. Longer d r (f s) (g (record r { store = record r.store { turns = j } }))) (sym last) (weaken d r s move (f s) (g (more d s)) (l s move (le_refl (suc n))))

-- ---- steps

spend_longer : {V : Type 0} (n k d : ℕ) (r : Run V) → r.store.turns ≡ n → k ≡ n + d → Longer d r (spend_from n r) (spend_from k (more d r))
spend_longer zero k d r e h = (goes_refl r, spend_zero k d r e (omega (arith, h)))
spend_longer (suc n) zero d r e h = absurd (omega (arith, h))
spend_longer (suc n) (suc k) d r e h =
    let last : k ≡ n + d = omega (arith, h) in
    (record { told = told_same r n r.store.heap; turns = omega (arith, e) }, ap (λ j. went tt (record r { store = record r.store { turns = j } })) last)

given_longer : {V : Type 0} (d : ℕ) (r : Run V) (g : Given) → Longer d r (given g r) (given g (more d r))
given_longer d r (gives heap v) = (record { told = told_same r r.store.turns heap; turns = le_refl r.store.turns }, refl)
given_longer d r (traps t) = (goes_refl r, refl)

change_longer : {V : Type 0} (d : ℕ) (r : Run V) (f : Run V → Run V) → Plain f → Longer d r (change f r) (change f (more d r))
change_longer d r f p =
    let kept : (f r).store.turns ≡ r.store.turns = ap (λ (s : Run _). s.store.turns) (p.turns r r.store.turns) in (
      record {
        told = record { lines = p.lines r; asked = subst (λ xs. IsFront r.store.asked xs) (sym (p.asked r)) (front_refl r.store.asked); tests = p.tests r };
        turns = omega (arith, kept);
      },
      ap (went tt) (p.turns r (r.store.turns + d) ∙ ap (λ n. record (f r) { store = record (f r).store { turns = n + d } }) (sym kept)),
    )

-- ---- loops

module _ {V S A : Type 0} (test turn : S → M V (Next S A)) (tests : (s : S) → Steady (test s)) (turns : (s : S) → Steady (turn s)) where
  then_goes : {B C : Type 0} (r : Run V) (x : Result V B) (g : B → M V C) → Goes r (state x) → ((a : B) (t : Run V) → Goes t (state (g a t))) → Goes r (state (and_then x g))
  then_goes r (went a s) g h k = goes_trans h (k a s)
  then_goes r (ended e s) g h k = h

  spend_goes : (n : ℕ) (r : Run V) → r.store.turns ≡ n → Goes r (state (spend_from n r))
  spend_goes zero r e = goes_refl r
  spend_goes (suc n) r e = record { told = told_same r n r.store.heap; turns = omega (arith, e) }

  stops_goes : (a : Next S A) (t : Run V) → Goes t (state (on_again (λ t. stop {A = A} out_of_turns) a t))
  stops_goes (again s) t = goes_refl t
  stops_goes (leaves a) t = goes_refl t

  -- a turn of the loop, and what follows it
  abbrev round : (S → M V A) → S → M V A
  round rest s = turn s >>= on_again rest

  next_goes : (rest : S → M V A) → ((s : S) (t : Run V) → Goes t (state (rest s t))) → (a : Next S A) (t : Run V) → Goes t (state (on_again rest a t))
  next_goes rest h (again s) t = h s t
  next_goes rest h (leaves a) t = goes_refl t

  round_goes : (rest : S → M V A) → ((s : S) (t : Run V) → Goes t (state (rest s t))) → (s : S) (t : Run V) → Goes t (state (round rest s t))
  round_goes rest h s t = then_goes t (turn s t) (on_again rest) (goes (turns s) t) (next_goes rest h)

  turn_goes : (rest : S → M V A) → ((s : S) (t : Run V) → Goes t (state (rest s t))) → (a : Next S A) (t : Run V) → Goes t (state (on_again (λ t. spend >> round rest t) a t))
  turn_goes rest h (leaves a) t = goes_refl t
  turn_goes rest h (again s) t = then_goes t (spend t) (λ _. round rest s) (spend_goes t.store.turns t refl) (λ _ u. round_goes rest h s u)

  loop_goes : (n : ℕ) (s : S) (r : Run V) → Goes r (state (loop n test turn s r))
  loop_goes zero s r = then_goes r (test s r) (on_again (λ t. stop out_of_turns)) (goes (tests s) r) stops_goes
  loop_goes (suc n) s r = then_goes r (test s r) (on_again (λ t. spend >> round (loop n test turn) t)) (goes (tests s) r) (turn_goes (loop n test turn) (loop_goes n))

  none : (d : ℕ) (r : Run V) → r.store.turns ≤ 0 → d ≡ 0 → (a : Next S A) (s : Run V) → Goes r s → Longer d s (on_again (λ t. stop {A = A} out_of_turns) a s) (on_again (λ t. stop out_of_turns) a (more d s))
  none d r h e (leaves a) s g = (goes_refl s, refl)
  none d r h e (again t) s g = (goes_refl s, (omega (arith, h, g.turns), told_same s (s.store.turns + d) s.store.heap, omega (arith, h, g.turns, e)))

  one : (rest : S → M V A) → ((s : S) (t : Run V) → Goes t (state (rest s t))) → (d : ℕ) (r : Run V) → r.store.turns ≤ 0 → (a : Next S A) (s : Run V) → Goes r s
      → Longer d s (on_again (λ t. stop {A = A} out_of_turns) a s) (on_again (λ t. spend >> round rest t) a (more d s))
  one rest k d r h (leaves a) s g = (goes_refl s, refl)
  one rest k d r h (again t) s g =
      let empty : s.store.turns ≡ 0 = omega (arith, h, g.turns) in
      (goes_refl s, out_then d s (spend (more d s)) (λ _. round rest t) (spend_zero (s.store.turns + d) d s empty (omega (arith, empty))) (λ _ u. round_goes rest k t u))

  -- the rest of the loop from a run with at most n turns
  module _ (n d : ℕ) (rest longer : S → M V A) (h : (t : S) (s : Run V) → s.store.turns ≤ n → Longer d s (rest t s) (longer t (more d s))) (k : (s : S) (t : Run V) → Goes t (state (longer s t))) where
    next : (u : Run V) → u.store.turns ≤ n → (a : Next S A) (v : Run V) → Goes u v → Longer d v (on_again rest a v) (on_again longer a (more d v))
    next u e (leaves a) v g = (goes_refl v, refl)
    next u e (again t) v g = h t v (le_trans g.turns e)

    both : (r : Run V) → r.store.turns ≤ suc n → (a : Next S A) (s : Run V) → Goes r s → Longer d s (on_again (λ t. spend >> round rest t) a s) (on_again (λ t. spend >> round longer t) a (more d s))
    both r e (leaves a) s g = (goes_refl s, refl)
    both r e (again t) s g =
        spend_then s.store.turns (s.store.turns + d) d s (round rest t) (round longer t) refl refl
        (λ u moved less. then_longer d u (on_again rest) (on_again longer) (turn t u) (turn t (more d u)) ((turns t).runs d u) (next u (omega (arith, e, g.turns, less))) (next_goes longer k))
        (round_goes longer k t)

  -- from a run with at most n turns
  pub loop_longer : (n k d : ℕ) (s : S) (r : Run V) → r.store.turns ≤ n → k ≡ n + d → Longer d r (loop n test turn s r) (loop k test turn s (more d r))
  loop_longer zero zero d s r h e =
      then_longer d r (on_again (λ t. stop out_of_turns)) (on_again (λ t. stop out_of_turns)) (test s r) (test s (more d r)) ((tests s).runs d r) (none d r h (omega (arith, e))) stops_goes
  loop_longer zero (suc k) d s r h e =
      then_longer d r (on_again (λ t. stop out_of_turns)) (on_again (λ t. spend >> round (loop k test turn) t)) (test s r) (test s (more d r)) ((tests s).runs d r)
      (one (loop k test turn) (loop_goes k) d r h) (turn_goes (loop k test turn) (loop_goes k))
  loop_longer (suc n) zero d s r h e = absurd (omega (arith, e))
  loop_longer (suc n) (suc k) d s r h e =
      then_longer d r (on_again (λ t. spend >> round (loop n test turn) t)) (on_again (λ t. spend >> round (loop k test turn) t)) (test s r) (test s (more d r)) ((tests s).runs d r)
      (both n d (loop n test turn) (loop k test turn) (λ t u f. loop_longer n k d t u f (omega (arith, e))) (loop_goes k) r h) (turn_goes (loop k test turn) (loop_goes k))

-- Each step is steady, and so are steps put together.
pub steady : {V : Type 0} → Closed V (λ _. Unit {0}) (λ _. Unit {0}) (λ A m. Steady m)
steady {V} = record {
  answers = λ a. record { runs = λ d r. (goes_refl r, refl) };
  traps = λ t. record { runs = λ d r. (goes_refl r, refl) };
  overflows = record { runs = λ d r. (goes_refl r, refl) };
  binds = λ h k. steady_bind h k;
  looks = λ f h. record { runs = λ d r. (goes_refl r, ap (λ a. went a (more d r)) (h r (r.store.turns + d))) };
  changes = λ {f} p. record { runs = λ d r. change_longer d r f p };
  spends = record { runs = λ d r. spend_longer r.store.turns (r.store.turns + d) d r refl refl };
  makes = λ thing h. record { runs = λ d r. (record { told = told_same r r.store.turns (r.store.heap ++ thing ∷ []); turns = le_refl r.store.turns }, refl) };
  asks = λ site v h. record { runs = λ d r. (record { told = record { lines = front_refl r.store.lines; asked = front_more r.store.asked ((site, class_of r.store.heap v) ∷ []); tests = front_refl r.store.tests }; turns = le_refl r.store.turns }, refl) };
  natives = λ names n v args. record { runs = λ d r. given_longer d r (native names n r.store.heap v args) };
  loops = λ {S} {A} {test} {turn} s h k. record { runs = λ d r. loop_longer test turn h k r.store.turns (r.store.turns + d) d s r (le_refl r.store.turns) refl };
}

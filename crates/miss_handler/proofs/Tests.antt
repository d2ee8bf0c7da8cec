-- What the tests of specs/ say.
use Rattle.std.proofs.Common.{◌≡◌, ◌≢◌, ◌↔◌, ℕ, zero, suc, ◌+◌, ◌-◌, ◌<◌, ◌≤◌, Bool, true, false, not, ◌||◌, List, [], ◌∷◌, ◌++◌, IsTrue, ◌==◌, ◌∙◌, sym, refl, subst, ap, arith}
use Rattle.std.specs.List.{list_all}
use Rattle.std.proofs.lemmas.Bool.{eqb-true, eqb-false}
use Rattle.std.proofs.lemmas.Bool.Decides.{nat_tests}
use Rattle.std.proofs.lemmas.List.Folds.{list_any-append}
use native.Mathlib.Decide.{dec_lt}
use Rattle.program.specs.declared.numbered.Target.{Target}
use Rattle.program.specs.declared.numbered.Target.TheVariants.{Method, Nsm}
use Rattle.program.specs.contracts.numbered.TargetPartialEq.TheImpl as the
use Rattle.miss_handler.specs.declared.row.Check.{Check}
use Rattle.miss_handler.specs.declared.state.CallState.{CallState}
use Rattle.miss_handler.specs.declared.state.CallState.TheVariants.{Unlinked, Mono, Single, Cached, Mega}
use Rattle.miss_handler.specs.States.{Receivers, check, has, Covers, covers, OneTarget, one_target, numbers_from, same_target, serves}

pub covers_yes : (s : CallState) (row : List Check) (c : ℕ) → covers s row c ≡ true → Covers s row c
covers_yes Unlinked row c h = absurd cc
covers_yes (Mono a) row c h = eqb-true c a.0 h
covers_yes (Single lo hi t) row c h = (grind (arith, nat_tests), grind (arith, nat_tests))
covers_yes Cached row c h = h
covers_yes Mega row c h = absurd cc

pub yes_covers : (s : CallState) (row : List Check) (c : ℕ) → Covers s row c → covers s row c ≡ true
yes_covers Unlinked row c h = absurd h
yes_covers (Mono a) row c h = grind (arith, nat_tests)
yes_covers (Single lo hi t) row c h = let f = h.0 in let g = h.1 in grind (arith, nat_tests)
yes_covers Cached row c h = h
yes_covers Mega row c h = absurd h

pub covers_no : (s : CallState) (row : List Check) (c : ℕ) → covers s row c ≡ false → ¬ Covers s row c
covers_no s row c un h = let yes = yes_covers s row c h in absurd cc

pub no_covers : (s : CallState) (row : List Check) (c : ℕ) → ¬ Covers s row c → covers s row c ≡ false
no_covers s row c un = elim (covers s row c) as (λ b. covers s row c ≡ b → b ≡ false) [ true ↦ λ e. absurd (un (covers_yes s row c e)) | false ↦ λ e. refl ] refl

pub has-append : (row : List Check) (c d : ℕ) (t : Target) → has (row ++ check c t ∷ []) d ≡ (has row d || has (check c t ∷ []) d)
has-append row c d t = list_any-append _ row (check c t ∷ [])

pub same_target_yes : (a b : Target) → same_target a b ≡ true → a ≡ b
same_target_yes (Method m) (Method n) h = ap (λ k. Method (record { 0 = k })) (eqb-true m.0 n.0 h)
same_target_yes (Nsm m) (Nsm n) h = ap (λ k. Nsm (record { 0 = k })) (eqb-true m.0 n.0 h)
same_target_yes (Method m) (Nsm n) h = absurd cc
same_target_yes (Nsm m) (Method n) h = absurd cc

pub same_target-refl : (a : Target) → same_target a a ≡ true
same_target-refl (Method m) = grind (arith, nat_tests)
same_target-refl (Nsm m) = grind (arith, nat_tests)

pub same_target_no : (a b : Target) → same_target a b ≡ false → a ≢ b
same_target_no a b h e = let yes = same_target-refl a in let no : same_target a a ≡ false = subst (λ z. same_target a z ≡ false) (sym e) h in absurd cc

-- what `==` of targets computes
pub derived_is : (a b : Target) → the.eq-value.it a b ≡ same_target a b
derived_is (Method m) (Method n) = refl
derived_is (Method m) (Nsm n) = refl
derived_is (Nsm m) (Method n) = refl
derived_is (Nsm m) (Nsm n) = refl

all_of : (p : ℕ → Bool) (lo n : ℕ) → list_all p (numbers_from lo n) ≡ true → (c : ℕ) → lo ≤ c → c < lo + n → p c ≡ true
all_of p lo zero h c low high = absurd (omega arith)
all_of p lo (suc n) h c low high =
    let here : p lo ≡ true = grind (arith, nat_tests) in
    let rest : list_all p (numbers_from (suc lo) n) ≡ true = grind (arith, nat_tests) in
    elim (c == lo) as (λ b. (c == lo) ≡ b → p c ≡ true) [
      | true ↦ λ e. subst (λ z. p z ≡ true) (sym (eqb-true c lo e)) here
      | false ↦ λ e. let other = eqb-false c lo e in all_of p (suc lo) n rest c (omega arith) (omega arith)
    ] refl

some_of : (p : ℕ → Bool) (lo n : ℕ) → list_all p (numbers_from lo n) ≡ false → (c : ℕ) × (lo ≤ c) × (c < lo + n) × (p c ≡ false)
some_of p lo zero h = absurd cc
some_of p lo (suc n) h =
    elim (p lo) as (λ b. p lo ≡ b → (c : ℕ) × (lo ≤ c) × (c < lo + suc n) × (p c ≡ false)) [
      | true ↦ λ e.
          let rest : list_all p (numbers_from (suc lo) n) ≡ false = grind (arith, nat_tests) in
          let f = some_of p (suc lo) n rest in let low = f.1 in let high = f.2 in (f.0, omega arith, omega arith, f.3)
      | false ↦ λ e. (lo, omega arith, omega arith, e)
    ] refl

of_all : (p : ℕ → Bool) (lo n : ℕ) → ((c : ℕ) → lo ≤ c → c < lo + n → p c ≡ true) → list_all p (numbers_from lo n) ≡ true
of_all p lo zero h = refl
of_all p lo (suc n) h =
    let here : p lo ≡ true = h lo (omega arith) (omega arith) in
    let rest : list_all p (numbers_from (suc lo) n) ≡ true = of_all p (suc lo) n (λ c low high. h c (omega arith) (omega arith)) in
    grind (arith, nat_tests)

pub serves_abstract : (r : Receivers) (t : Target) (c : ℕ) → r.concrete c ≡ false → serves r t c ≡ true
serves_abstract r t c h = ap (λ b. not b || same_target (r.resolve c) t) h

pub serves_concrete : (r : Receivers) (t : Target) (c : ℕ) → r.concrete c ≡ true → serves r t c ≡ same_target (r.resolve c) t
serves_concrete r t c h = ap (λ b. not b || same_target (r.resolve c) t) h

serves_yes : (r : Receivers) (t : Target) (c : ℕ) → serves r t c ≡ true → IsTrue (r.concrete c) → r.resolve c ≡ t
serves_yes r t c h concrete = same_target_yes (r.resolve c) t (grind (arith, nat_tests))

yes_serves : (r : Receivers) (t : Target) (c : ℕ) → (IsTrue (r.concrete c) → r.resolve c ≡ t) → serves r t c ≡ true
yes_serves r t c h = elim (r.concrete c) as (λ b. (b ≡ true → r.resolve c ≡ t) → (not b || same_target (r.resolve c) t) ≡ true) [
  | true ↦ λ f. subst (λ z. same_target (r.resolve c) z ≡ true) (f refl) (same_target-refl (r.resolve c))
  | false ↦ λ f. refl
] h

serves_no : (r : Receivers) (t : Target) (c : ℕ) → serves r t c ≡ false → IsTrue (r.concrete c) × (same_target (r.resolve c) t ≡ false)
serves_no r t c h = (grind (arith, nat_tests), grind (arith, nat_tests))

pub one_target_yes : (r : Receivers) (lo hi : ℕ) (t : Target) → one_target r lo hi t ≡ true → OneTarget r lo hi t
unfolding one_target
one_target_yes r lo hi t h c low high = serves_yes r t c (all_of (serves r t) lo ((hi + 1) - lo) h c low (omega arith))

pub yes_one_target : (r : Receivers) (lo hi : ℕ) (t : Target) → OneTarget r lo hi t → one_target r lo hi t ≡ true
unfolding one_target
yes_one_target r lo hi t h = of_all (serves r t) lo ((hi + 1) - lo) (λ c low high. yes_serves r t c (h c low (omega arith)))

pub one_target_no : (r : Receivers) (lo hi : ℕ) (t : Target) → one_target r lo hi t ≡ false → (d : ℕ) × (lo ≤ d) × (d ≤ hi) × IsTrue (r.concrete d) × (r.resolve d ≢ t)
unfolding one_target
one_target_no r lo hi t h = let f = some_of (serves r t) lo ((hi + 1) - lo) h in let g = serves_no r t f.0 f.3 in (f.0, f.1, let low = f.1 in let high = f.2 in omega arith, g.0, same_target_no (r.resolve f.0) t g.1)

pub one_target_fails : (r : Receivers) (lo hi : ℕ) (t : Target) (c : ℕ) → lo ≤ c → c ≤ hi → serves r t c ≡ false → one_target r lo hi t ≡ false
unfolding one_target
one_target_fails r lo hi t c low high h =
    elim (list_all (serves r t) (numbers_from lo ((hi + 1) - lo))) as (λ b. list_all (serves r t) (numbers_from lo ((hi + 1) - lo)) ≡ b → b ≡ false) [
      | true ↦ λ e. let yes = all_of (serves r t) lo ((hi + 1) - lo) e c low (omega arith) in absurd cc
      | false ↦ λ e. refl
    ] refl

-- each class up to n was tested, and none from n to hi is concrete
pub one_target_tested : (r : Receivers) (lo hi : ℕ) (t : Target) (n : ℕ) → ((c : ℕ) → lo ≤ c → c < n → serves r t c ≡ true) → ((c : ℕ) → n ≤ c → c ≤ hi → ¬ IsTrue (r.concrete c)) → one_target r lo hi t ≡ true
one_target_tested r lo hi t n tested none = yes_one_target r lo hi t (λ c low high it. by_order c low high it (dec_lt c n))
  where
    by_order : (c : ℕ) → lo ≤ c → c ≤ hi → IsTrue (r.concrete c) → Dec (c < n) → r.resolve c ≡ t
    by_order c low high it (yes h) = serves_yes r t c (tested c low h) it
    by_order c low high it (no h) = absurd (none c (omega arith) high it)

pub range_is : (r : Receivers) (lo hi : ℕ) (t : Target) (b : Bool) → b ≡ one_target r lo hi t → IsTrue b ↔ OneTarget r lo hi t
range_is r lo hi t b is = (λ e. one_target_yes r lo hi t (sym is ∙ e), λ h. is ∙ yes_one_target r lo hi t h)

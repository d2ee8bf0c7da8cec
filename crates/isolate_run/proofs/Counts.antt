-- The counts of the sites.
use Rattle.std.proofs.Common.{◌≡◌, ℕ, ◌+◌, ◌%◌, ◌^◌, ◌<◌, Bool, true, false, ◌==◌, List, [], ◌∷◌, ◌++◌, length, replicate, refl, sym, ◌∙◌, subst, arith, mod-eq_of_lt, length-set, get_or-set_same, get_or-set_other}
use Rattle.std.specs.Prelude.{if◌then◌else◌, fold, slice_index, slice_set}
use Rattle.std.proofs.lemmas.Bool.{eqb-true, eqb-false}
use Rattle.std.proofs.lemmas.List.{length-replicate, get_or-replicate}
use Rattle.std.proofs.lemmas.List.Sums.{fold-append}
use Rattle.call_cell.specs.Kept.{classes_at}
use Rattle.isolate_calls.specs.Stepping.{count_one, counted}
use Rattle.isolate_run.specs.Ran.{calls_at}

pub counted_none : (calls : List ℕ) → calls ≡ counted calls []
unfolding counted
counted_none calls = refl

pub counted_both : (calls : List ℕ) (first second : List (ℕ × ℕ)) → counted (counted calls first) second ≡ counted calls (first ++ second)
unfolding counted
counted_both calls first second = sym (fold-append count_one calls first second)

pub counted_length : (calls : List ℕ) (asked : List (ℕ × ℕ)) → length (counted calls asked) ≡ length calls
unfolding counted
counted_length calls [] = refl
counted_length calls (call ∷ asked) = counted_length (count_one calls call) asked ∙ length-set calls call.0 ((slice_index calls call.0 + 1) % 2 ^ 64)

-- a count so far and the calls that follow
abbrev Goes : ℕ → List ℕ → List (ℕ × ℕ) → Type 0
Goes s calls asked = slice_index calls s + calls_at asked s < 2 ^ 64 → slice_index (fold count_one calls asked) s ≡ slice_index calls s + calls_at asked s

-- how many calls there are, where the first is at the site or is not
abbrev with_first : Bool → ℕ → List (ℕ × ℕ) → ℕ → List ℕ
with_first b c asked s = if b then c ∷ classes_at s asked else classes_at s asked

-- one call, and those that follow
step : (s : ℕ) (calls : List ℕ) (call : ℕ × ℕ) (asked : List (ℕ × ℕ)) → s < length calls → Goes s (count_one calls call) asked → Goes s calls (call ∷ asked)
step s calls call asked there later few = by (call.0 == s) refl few
  where
    next : List ℕ
    next = count_one calls call

    here : call.0 ≡ s → slice_index calls s + 1 < 2 ^ 64 → slice_index next s ≡ slice_index calls s + 1
    here e small = subst (λ k. slice_index (slice_set calls k ((slice_index calls k + 1) % 2 ^ 64)) s ≡ slice_index calls s + 1) (sym e)
        (get_or-set_same calls s ((slice_index calls s + 1) % 2 ^ 64) 0 there ∙ mod-eq_of_lt small)

    other : (call.0 ≡ s → ⊥) → slice_index next s ≡ slice_index calls s
    other n = get_or-set_other calls call.0 s ((slice_index calls call.0 + 1) % 2 ^ 64) 0 (λ e. n (sym e))

    by : (b : Bool) → (call.0 == s) ≡ b → slice_index calls s + length (with_first b call.1 asked s) < 2 ^ 64 → slice_index (fold count_one next asked) s ≡ slice_index calls s + length (with_first b call.1 asked s)
    by true e small =
        let one = here (eqb-true call.0 s e) (omega (arith, small)) in
        later (omega (arith, small, one)) ∙ omega (arith, one)
    by false e small =
        let same = other (eqb-false call.0 s e) in
        later (omega (arith, small, same)) ∙ omega (arith, same)

goes : (s : ℕ) (calls : List ℕ) (asked : List (ℕ × ℕ)) → s < length calls → Goes s calls asked
goes s calls [] there few = omega arith
goes s calls (call ∷ asked) there few =
    step s calls call asked there (goes s (count_one calls call) asked (omega (arith, there, length-set calls call.0 ((slice_index calls call.0 + 1) % 2 ^ 64)))) few

-- From no calls on, each site is counted right, where it is asked fewer than 2^64 times.
pub counted_at : (n s : ℕ) (asked : List (ℕ × ℕ)) → s < n → calls_at asked s < 2 ^ 64 → slice_index (counted (replicate n 0) asked) s ≡ calls_at asked s
unfolding counted
counted_at n s asked there few =
    let none : slice_index (replicate n 0) s ≡ 0 = get_or-replicate n s 0 0 there in
    goes s (replicate n 0) asked (omega (arith, there, length-replicate {A = ℕ} n 0)) (omega (arith, none, few)) ∙ omega (arith, none)

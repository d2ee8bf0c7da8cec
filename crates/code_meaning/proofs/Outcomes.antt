-- Outcomes can be told apart, so an equation of them has at most one proof.
use Rattle.std.specs.Prelude.{◌≡◌, ℕ, zero, suc, List}
use Rattle.std.proofs.Common.{refl, ◌⊎◌, inl, inr}
use Rattle.std.specs.Coded.{Coded, Coded-set, code_by, coded_ℕ, coded_list, coded×, coded⊎}
use base.Stored.{coded_unit}
use Rattle.dart_values.specs.contracts.fault.Trap as traps
use Rattle.dart_values.specs.declared.fault.Trap.{Trap}
use Rattle.dart_meaning.specs.Entry.{Meaning}
use Rattle.dart_meaning.specs.Run.{Ending, done, threw, out_of_turns, stack_overflow}
use Rattle.code_pool.specs.Machine.{Lack, no_place, no_operand, no_slot, no_number, wrong_count, wrong_receiver, wrong_kind, wrong_class, Outcome, ends, unfinished, is_stuck}

-- ---- endings

ending_to : Ending → Trap ⊎ ℕ
ending_to (threw t) = inl t
ending_to done = inr 0
ending_to out_of_turns = inr 1
ending_to stack_overflow = inr 2

ending_from : Trap ⊎ ℕ → Ending
ending_from (inl t) = threw t
ending_from (inr zero) = done
ending_from (inr (suc zero)) = out_of_turns
ending_from (inr (suc (suc _))) = stack_overflow

ending_back : (e : Ending) → ending_from (ending_to e) ≡ e
unfolding ending_from ending_to
ending_back (threw t) = refl
ending_back done = refl
ending_back out_of_turns = refl
ending_back stack_overflow = refl

ending_code : Coded Ending
ending_code = code_by (Trap ⊎ ℕ) (coded⊎ traps.the_row.coded coded_ℕ) ending_to ending_from ending_back

-- ---- what a run tells

meaning_code : Coded Meaning
meaning_code = code_by ((List (List ℕ)) × (Ending × ((List (ℕ × ℕ)) × (List (ℕ × ℕ)))))
    (coded× (coded_list (coded_list coded_ℕ)) (coded× ending_code (coded× (coded_list (coded× coded_ℕ coded_ℕ)) (coded_list (coded× coded_ℕ coded_ℕ)))))
    (λ m. (m.lines, (m.ending, (m.asked, m.tests)))) (λ x. record { lines = x.0; ending = x.1.0; asked = x.1.1.0; tests = x.1.1.1 }) (λ m. refl)

-- ---- outcomes

lack_to : Lack → ℕ
lack_to no_place = 0
lack_to no_operand = 1
lack_to no_slot = 2
lack_to no_number = 3
lack_to wrong_count = 4
lack_to wrong_receiver = 5
lack_to wrong_kind = 6
lack_to wrong_class = 7

lack_from : ℕ → Lack
lack_from zero = no_place
lack_from (suc zero) = no_operand
lack_from (suc (suc zero)) = no_slot
lack_from (suc (suc (suc zero))) = no_number
lack_from (suc (suc (suc (suc zero)))) = wrong_count
lack_from (suc (suc (suc (suc (suc zero))))) = wrong_receiver
lack_from (suc (suc (suc (suc (suc (suc zero)))))) = wrong_kind
lack_from (suc (suc (suc (suc (suc (suc (suc _))))))) = wrong_class

outcome_to : Outcome → Meaning ⊎ (Unit {0} ⊎ ℕ)
outcome_to (ends m) = inl m
outcome_to unfinished = inr (inl tt)
outcome_to (is_stuck lack) = inr (inr (lack_to lack))

outcome_from : Meaning ⊎ (Unit {0} ⊎ ℕ) → Outcome
outcome_from (inl m) = ends m
outcome_from (inr (inl _)) = unfinished
outcome_from (inr (inr k)) = is_stuck (lack_from k)

outcome_back : (o : Outcome) → outcome_from (outcome_to o) ≡ o
unfolding outcome_from outcome_to lack_from lack_to
outcome_back (ends m) = refl
outcome_back unfinished = refl
outcome_back (is_stuck no_place) = refl
outcome_back (is_stuck no_operand) = refl
outcome_back (is_stuck no_slot) = refl
outcome_back (is_stuck no_number) = refl
outcome_back (is_stuck wrong_count) = refl
outcome_back (is_stuck wrong_receiver) = refl
outcome_back (is_stuck wrong_kind) = refl
outcome_back (is_stuck wrong_class) = refl

-- an equation of outcomes has at most one proof
pub outcome_prop : (a b : Outcome) → IsProp (a ≡ b)
outcome_prop a b = Coded-set (code_by (Meaning ⊎ (Unit {0} ⊎ ℕ)) (coded⊎ meaning_code (coded⊎ coded_unit coded_ℕ)) outcome_to outcome_from outcome_back) a b

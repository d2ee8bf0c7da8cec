-- The laws. Of a truncated fact an equation of outcomes may be taken.
use Rattle.std.proofs.Common.{◌≡◌, ℕ, zero, suc, ◌+◌, ◌*◌, ◌^◌, ◌≤◌, List, [], ◌∷◌, length, sym, ap, ◌∙◌, subst, arith}
use Rattle.std.specs.Prelude.{slice_get, unwrap_or, Option, Some, option_map}
use Rattle.std.proofs.Math.Logic.{∥∥₁_elim}
use Rattle.program.specs.declared.literal.Literal.{Literal}
use Rattle.program.specs.Lookup.{resolve}
use Rattle.program.specs.Parts.{Parts}
use Rattle.program.specs.Whole.{IsSound}
use Rattle.program.proofs.Facts.{few_nodes}
use Rattle.dart_meaning.specs.Entry.{seen, greatest_depth}
use Rattle.dart_meaning.specs.Numbered.{entry_run}
use Rattle.code_unit.specs.declared.unit.Unit.{Unit as CodeUnit}
use Rattle.code_pool.specs.Pool.{Pool}
use Rattle.code_pool.specs.Machine.{ends, most, longest}
use Rattle.program_code.specs.IsCode.{HasCode}
use Rattle.machine_runs.proofs.Asks.{Few, asks_few}
use Rattle.machine_runs.proofs.Runs.{worth, worth_enough}
use Rattle.code_meaning.specs.Laws.{TakesNothing, program_outcome, within, CodeMeansProgram, EachTurnPaysForOneUnit, paid_for, EachTurnPaysForNodes, AsksFewer, AsksAreCounted}
use Rattle.code_meaning.proofs.NodesPay.{nodes_pay}
use Rattle.code_meaning.proofs.EntryPoints.{entry_within}
use Rattle.code_meaning.proofs.Outcomes.{outcome_prop}
use Rattle.code_meaning.proofs.Units.{Pays}

-- the outcome, within every number of instructions that the turns pay for
paid_same : (p : Parts) → ∥ IsSound p ∥₁ → (pool : Pool) (c : HasCode p pool) (pays : ℕ) → (IsSound p → Pays p pool c.constant pays) → (e : ℕ) → TakesNothing p e → (turns n : ℕ) → worth pays turns ≤ n
    → within p pool e turns n ≡ ends (seen (entry_run p greatest_depth e turns))
paid_same p sound pool c pays w e k turns n enough =
    ∥∥₁_elim sound (outcome_prop (within p pool e turns n) (ends (seen (entry_run p greatest_depth e turns))))
    (λ s. entry_within p s pool c.constant c.is_code pays (w s) e k.function k.there k.required k.defaults turns n enough)

paid : (p : Parts) → ∥ IsSound p ∥₁ → (pool : Pool) (c : HasCode p pool) (pays : ℕ) → (IsSound p → Pays p pool c.constant pays) → (e : ℕ) → TakesNothing p e → (turns n : ℕ) → worth pays turns ≤ n
    → Some (within p pool e turns n) ≡ program_outcome p e turns
paid p sound pool c pays w e k turns n enough =
    ap Some (paid_same p sound pool c pays w e k turns n enough) ∙ ap (λ o. option_map ends (option_map (λ _. seen (entry_run p greatest_depth e turns)) o)) (sym k.there)

-- no unit is longer than the longest
longest_is : (units : List CodeUnit) (u : ℕ) (unit : CodeUnit) → slice_get units u ≡ Some unit → length unit.code ≤ longest units
longest_is [] u unit e = absurd (cc)
longest_is (x ∷ units) zero unit e = let is : ◌≡◌ {A = Option CodeUnit} (Some x) (Some unit) = e in omega (arith, ap (λ (o : Option CodeUnit). length (unwrap_or o x).code) is)
longest_is (x ∷ units) (suc u) unit e = omega (arith, longest_is units u unit e)

longest_pays : (p : Parts) (pool : Pool) (constant : Literal → ℕ) → Pays p pool constant (longest pool.units)
longest_pays p pool constant = record {
  functions = λ f k u there H. longest_is pool.units u H.unit H.there;
  methods = λ m k b u there is H. longest_is pool.units u H.unit H.there;
  constructors = λ class k u there H. longest_is pool.units u H.unit H.there;
  lists = λ u H. longest_is pool.units u H.unit H.there;
}

pub code_means_program : CodeMeansProgram
code_means_program p sound pool c e k turns =
    paid p sound pool c (longest pool.units) (λ _. longest_pays p pool c.constant) e k turns (most p pool (resolve p) turns) (worth_enough (longest pool.units) turns)

pub each_turn_pays_for_one_unit : EachTurnPaysForOneUnit
unfolding worth
each_turn_pays_for_one_unit p sound pool c e k turns n enough = paid p sound pool c (longest pool.units) (λ _. longest_pays p pool c.constant) e k turns n enough

pub each_turn_pays_for_nodes : EachTurnPaysForNodes
unfolding worth
each_turn_pays_for_nodes p sound pool c e k turns n enough = paid p sound pool c (paid_for p) (λ s. nodes_pay p s pool c.constant) e k turns n enough

-- ---- calls that ask

product : (a b x y : ℕ) → a ≤ b → x ≤ y → a * x ≤ b * y
product a b x y h l =
    let left : a * x ≤ b * x = grind arith in
    let right : b * x ≤ b * y = grind arith in
    omega (arith, left, right)

pub asks_are_counted : AsksAreCounted
unfolding worth
asks_are_counted p sound pool c e k turns few =
    let n : ℕ = turns * paid_for p in
    let same : within p pool e turns n ≡ ends (seen (entry_run p greatest_depth e turns)) = paid_same p sound pool c (paid_for p) (λ s. nodes_pay p s pool c.constant) e k turns n (omega arith) in
    let told : Few p pool (resolve p) n 0 (ends (seen (entry_run p greatest_depth e turns))) = subst (Few p pool (resolve p) n 0) same (asks_few p pool (resolve p) e turns n) in
    let small : n ≤ 10 ^ 9 * (16 * 2 ^ 26 + 21) = product turns (10 ^ 9) (paid_for p) (16 * 2 ^ 26 + 21) few (omega (arith, few_nodes p sound)) in
    subst (λ o. AsksFewer (2 ^ 64) (option_map (λ _. seen (entry_run p greatest_depth e turns)) o)) (sym k.there) (omega (arith, told, small))

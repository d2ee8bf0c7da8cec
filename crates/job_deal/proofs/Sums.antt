-- The rule in sums over all views: what a step changes in one view is then one summand.
use Rattle.std.proofs.Common.{◌≡◌, ℕ, ◌%◌, ◌^◌, ◌<◌, List, [], ◌∷◌, length, slice_index, sum_by, sym, refl, ap, ◌∙◌, arith, length-append}
use mathlib.Core.Option.{some}
use lib.ListN.{get_elem?}
use Rattle.std.proofs.lemmas.List.Sums.{sum_by-cons}
use Rattle.atomic_table.specs.Table.{State}
use Rattle.job_deal.specs.declared.hand.Hand.{Hand}
use Rattle.job_deal.specs.Counts.{times, once_below}
use Rattle.job_deal.specs.Dealt.{Dealt, share, all_drawn, whole_share}
use Rattle.job_deal.proofs.Counts.{times-append}

abbrev pub draws : Hand → ℕ
draws v = length v.drawn

-- how often the view has drawn x
abbrev pub times_in : ℕ → Hand → ℕ
times_in x v = times x v.drawn

pub draws-all : (views : List Hand) → length (all_drawn views) ≡ sum_by draws views
draws-all [] = refl
draws-all (v ∷ vs) = let r = draws-all vs in omega (arith, length-append v.drawn (all_drawn vs), sum_by-cons draws v vs)

pub times-all : (x : ℕ) (views : List Hand) → times x (all_drawn views) ≡ sum_by (times_in x) views
times-all x [] = refl
times-all x (v ∷ vs) = let r = times-all x vs in omega (arith, times-append x v.drawn (all_drawn vs), sum_by-cons (times_in x) v vs)

-- the parts of the rule that speak of all draws, in sums
pub record Summed (words : List ℕ) (views : List Hand) : Type 0 where
  pub one_word : length words ≡ 1
  pub word : slice_index words 0 ≡ sum_by draws views % 2 ^ 64
  pub once : sum_by draws views < 2 ^ 64 → (x : ℕ) → sum_by (times_in x) views ≡ once_below x (sum_by draws views)
  pub shares : sum_by share views ≡ whole_share
  pub spent : (i : ℕ) (v : Hand) → get_elem? views i ≡ some v → v.share ≡ 0 → v.drawn ≡ []

pub summed : (s : State (Unit {0}) Hand) → Dealt s → Summed s.words s.views
summed s d = let n = draws-all s.views in record {
  one_word = d.one_word;
  word = d.word ∙ ap (λ (k : ℕ). k % 2 ^ 64) n;
  once = λ few x. sym (times-all x s.views) ∙ (d.once (omega arith) x ∙ ap (once_below x) n);
  shares = d.shares;
  spent = d.spent;
}

pub dealt : (s : State (Unit {0}) Hand) → Summed s.words s.views → Dealt s
dealt s d = let n = draws-all s.views in record {
  one_word = d.one_word;
  word = d.word ∙ ap (λ (k : ℕ). k % 2 ^ 64) (sym n);
  once = λ few x. times-all x s.views ∙ (d.once (omega arith) x ∙ ap (once_below x) (sym n));
  shares = d.shares;
  spent = d.spent;
}

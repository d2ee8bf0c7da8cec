-- Each step keeps the rule of the counter.
use Rattle.std.proofs.Common.{◌≡◌, ◌≢◌, ℕ, zero, suc, ◌+◌, ◌-◌, ◌/◌, ◌%◌, ◌^◌, ◌<◌, ◌≤◌, ◌==◌, cond, List, [], ◌∷◌, ◌++◌, length, get_or, set, sum_by, sym, refl, ap, ◌∙◌, subst, ⊎_elim, arith, length-set, length-append, get_or-set_same}
use mathlib.Core.Option.{none, some, some-injective, some-ne-none}
use lib.ListN.{get_elem?}
use lib.Seq.{set-get_or}
use Rattle.std.proofs.lemmas.List.Sums.{sum_by_push}
use Rattle.atomic_table.specs.Table.{Me, step, keeps, Allows, Splits, Joins, opening, stepped}
use Rattle.atomic_table.proofs.Lists.{at_set, at_snoc, set_again}
use Rattle.view_sums.proofs.Sums.{here-set, sum-set, sum-one}
use Rattle.job_deal.specs.declared.hand.Hand.{Hand}
use Rattle.job_deal.specs.Counts.{times, once_below}
use Rattle.job_deal.specs.Dealt.{Dealt, KnowsAll, hand, share, drew, looked, whole_share}
use Rattle.job_deal.proofs.Counts.{times-cons, times-append, once_below-more, once_below-none}
use Rattle.job_deal.proofs.Sums.{Summed, summed, dealt, draws, times_in}

-- what the rule says of a view with no share
abbrev HasNothing : Hand → Type 0
HasNothing v = v.share ≡ 0 → v.drawn ≡ []

abbrev EachSpent : List Hand → Type 0
EachSpent views = (i : ℕ) (v : Hand) → get_elem? views i ≡ some v → HasNothing v

spent-set : (views : List Hand) (id : ℕ) (w : Hand) → HasNothing w → EachSpent views → EachSpent (set views id w)
spent-set views id w mine each j v e =
    ⊎_elim (λ (t : (j ≡ id) × (w ≡ v)). subst HasNothing t.1 mine) (λ (t : (j ≢ id) × (get_elem? views j ≡ some v)). each j v t.1) (at_set views id j w v e)

spent-push : (views : List Hand) (w : Hand) → HasNothing w → EachSpent views → EachSpent (views ++ w ∷ [])
spent-push views w mine each j v e = ⊎_elim (each j v) (λ (t : w ≡ v). subst HasNothing t mine) (at_snoc views w v j e)

-- the one view of a new table
at_only : {A : Type 0} (a : A) (i : ℕ) (b : A) → get_elem? (a ∷ []) i ≡ some b → a ≡ b
at_only a zero b e = some-injective a b e
at_only a (suc i) b e = absurd (some-ne-none b (sym e))

pub opens : Dealt (opening (0 ∷ []) [] (hand whole_share []))
opens = record {
  one_word = refl;
  word = refl;
  once = λ _ x. once_below-none x;
  shares = refl;
  spent = λ i v e none_left. let is : whole_share ≡ v.share = ap share (at_only (hand whole_share []) i v e) in absurd (omega arith);
}

-- the view with the whole share has all draws
knows : (words : List ℕ) (views : List Hand) (id : ℕ) (v : Hand) → Summed words views → get_elem? views id ≡ some v → KnowsAll v
knows words views id v r at all few x =
    let is = r.shares in
    let counts = sum-one draws share views id v at (omega arith) (λ j w e z. ap length (r.spent j w e z)) in
    let sums = sum-one (times_in x) share views id v at (omega arith) (λ j w e z. ap (times x) (r.spent j w e z)) in
    sym sums ∙ (r.once (omega arith) x ∙ ap (once_below x) counts)

pub draws_keep : (slots id : ℕ) (me : Me (Unit {0}) Hand) → 0 < me.0.share → Allows Dealt slots id me 0 (λ n. (n + 1) % 2 ^ 64) (drew (step slots 0 1 0 none) me)
draws_keep slots id me some_share s rule _ at small =
    let r = summed s rule in let v : Hand = me.0 in let x : ℕ = get_or s.words 0 0 in let w : Hand = hand v.share (x ∷ v.drawn) in
    let words : List ℕ = set s.words 0 ((x + 1) % 2 ^ 64) in let views : List Hand = set s.views id w in
    let counts = sum-set draws s.views id v w at in let shares_are = sum-set share s.views id v w at in
    let one = r.one_word in let word = r.word in let is = r.shares in
    let after : Summed words views = record {
      one_word = length-set s.words 0 ((x + 1) % 2 ^ 64) ∙ r.one_word;
      word = get_or-set_same s.words 0 ((x + 1) % 2 ^ 64) 0 (omega arith) ∙ omega arith;
      once = λ few y.
          let n : ℕ = sum_by draws s.views in let now : sum_by draws views ≡ n + 1 = omega arith in let same : x ≡ n = omega arith in
          let sums = sum-set (times_in y) s.views id v w at in let before = r.once (omega arith) y in
          let more = times-cons y x v.drawn in let behind = once_below-more y n in
          let here : cond {A = ℕ} (x == y) 1 0 ≡ cond {A = ℕ} (n == y) 1 0 = ap (λ (z : ℕ). cond {A = ℕ} (z == y) 1 0) same in
          let sum : sum_by (times_in y) views ≡ once_below y (n + 1) = omega arith in sum ∙ ap (once_below y) (sym now);
      shares = omega arith;
      spent = spent-set s.views id w (λ e. absurd (omega arith)) r.spent;
    } in
    let at_new : get_elem? views id ≡ some w = here-set s.views id v w at in
    (w, keeps, tt, dealt (stepped s 0 ((x + 1) % 2 ^ 64) id me.1 w keeps) after, (refl, refl, knows words views id w after at_new))

pub looks_keep : (slots id : ℕ) (me : Me (Unit {0}) Hand) → Allows Dealt slots id me 0 (λ n. n) (looked (step slots 0 0 0 none) me)
looks_keep slots id me s rule _ at small = (
  me.0,
  keeps,
  tt,
  subst (λ (z : List ℕ × List Hand). Dealt record { words = z.0; homes = s.homes; views = z.1 }) (λ i. (sym (set-get_or s.words 0 0) i, sym (set_again s.views id me.0 at) i)) rule,
  (refl, refl, knows s.words s.views id me.0 (summed s rule) at),
)

pub splits_keep : (id : ℕ) (v : Hand) → 2 ≤ v.share → Splits Dealt id v (hand (v.share - v.share / 2) v.drawn) (hand (v.share / 2) [])
splits_keep id v two s rule at =
    let r = summed s rule in let a : Hand = hand (v.share - v.share / 2) v.drawn in let b : Hand = hand (v.share / 2) [] in
    let mid : List Hand = set s.views id a in let views : List Hand = mid ++ b ∷ [] in let is = r.shares in
    let same : sum_by draws views ≡ sum_by draws s.views = omega (arith, sum_by_push draws mid b, sum-set draws s.views id v a at) in
    dealt
    record { words = s.words; homes = s.homes; views = views }
    record {
      one_word = r.one_word;
      word = r.word ∙ ap (λ (n : ℕ). n % 2 ^ 64) (sym same);
      once = λ few x.
          let before = r.once (omega arith) x in
          let sum : sum_by (times_in x) views ≡ once_below x (sum_by draws s.views) = omega (arith, sum_by_push (times_in x) mid b, sum-set (times_in x) s.views id v a at) in
          sum ∙ ap (once_below x) (sym same);
      shares = omega (arith, sum_by_push share mid b, sum-set share s.views id v a at);
      spent = spent-push mid b (λ _. refl) (spent-set s.views id a (λ e. absurd (omega arith)) r.spent);
    }

pub joins_keep : (id : ℕ) (v : Hand) (other : ℕ) (u : Hand) → 0 < v.share → Joins Dealt id v other u (hand (v.share + u.share) (v.drawn ++ u.drawn)) (hand 0 [])
joins_keep id v other u some_share s rule at apart there =
    let r = summed s rule in let a : Hand = hand (v.share + u.share) (v.drawn ++ u.drawn) in let b : Hand = hand 0 [] in
    let mid : List Hand = set s.views id a in let views : List Hand = set mid other b in let is = r.shares in
    let len : length (v.drawn ++ u.drawn) ≡ length v.drawn + length u.drawn = length-append v.drawn u.drawn in
    let same : sum_by draws views ≡ sum_by draws s.views = omega (arith, sum-set draws mid other u b there, sum-set draws s.views id v a at) in
    dealt
    record { words = s.words; homes = s.homes; views = views }
    record {
      one_word = r.one_word;
      word = r.word ∙ ap (λ (n : ℕ). n % 2 ^ 64) (sym same);
      once = λ few x.
          let before = r.once (omega arith) x in let both = times-append x v.drawn u.drawn in
          let sum : sum_by (times_in x) views ≡ once_below x (sum_by draws s.views) = omega (arith, sum-set (times_in x) mid other u b there, sum-set (times_in x) s.views id v a at) in
          sum ∙ ap (once_below x) (sym same);
      shares = omega (arith, sum-set share mid other u b there, sum-set share s.views id v a at);
      spent = spent-set mid other b (λ _. refl) (spent-set s.views id a (λ e. absurd (omega arith)) r.spent);
    }

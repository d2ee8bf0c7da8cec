-- Results that are put in their places one by one, and the places that are then read in order.
use Rattle.std.proofs.Common.{◌≡◌, ℕ, zero, suc, ◌<◌, ◌≤◌, List, [], ◌∷◌, ◌++◌, map, length, get_or, set, replicate, All, Contains, IsSome, Some, None, Option, slice_get, sym, refl, ap, ◌∙◌, subst, arith, length-set, get_or-set_same, get_or-set_other}
use native.Mathlib.Decide.{ℕ_discrete}
use Rattle.std.proofs.lemmas.Bool.Decides.{nat_tests}
use Rattle.std.proofs.lemmas.List.{map_push, append_assoc, length-replicate, length-map}
use Rattle.std.proofs.lemmas.List.Elements.{All-nil, All-cons, All-head, All-tail, All-rest, All-weaker, All-contains, All-contains_itself, All-from_get_or, Contains-append_left, Contains-append_right}
use Rattle.std.proofs.lemmas.List.Sums.{fold-append}
use Rattle.std.proofs.lemmas.Option.{none-some, same_Some}
use Rattle.job_deal.specs.Counts.{times, once_below, EachOnce}
use Rattle.job_deal.specs.Results.{InPlace, jobs_of, put_all}
use Rattle.job_deal.proofs.Counts.{times-cons}

module _ {T : Type 0} where
  -- the items that were taken out, and the places that are left
  pub record Filling (items : List T) (rest whole : List (Option T)) : Type 0 where
    pub full : All (λ place. IsSome place) rest
    pub all : map Some items ++ rest ≡ whole

  pub filling_next : (items now : List T) (x : T) (place : Option T) (rest left whole : List (Option T))
      → Filling items rest whole → rest ≡ place ∷ left → place ≡ Some x → now ≡ items ++ x ∷ [] → Filling now left whole
  filling_next items now x place rest left whole before came is more =
      let fronts : rest ≡ Some x ∷ left = came ∙ ap (λ first. first ∷ left) is in
      record {
        full = All-rest (λ place. IsSome place) place left rest came before.full;
        all = ap (λ xs. map Some xs ++ left) more ∙ (ap (λ front. front ++ left) (map_push Some items x)
            ∙ (append_assoc (map Some items) (Some x ∷ []) left ∙ (ap (λ more. map Some items ++ more) (sym fronts) ∙ before.all)));
      }

  abbrev pub HasPlace : List (Option T) → ℕ × T → Type 0
  HasPlace places r = r.0 < length places

  -- the places so far and the results that are left give `whole`
  pub record Putting (places : List (Option T)) (rest : List (ℕ × T)) (whole : List (Option T)) : Type 0 where
    pub fits : All (HasPlace places) rest
    pub all : put_all places rest ≡ whole

  pub first_fits : (places whole : List (Option T)) (r : ℕ × T) (rest left : List (ℕ × T)) → Putting places rest whole → rest ≡ r ∷ left → r.0 < length places
  first_fits places whole r rest left p came = All-head (HasPlace places) r left (subst (All (HasPlace places)) came p.fits)

  pub putting_next : (places whole : List (Option T)) (r : ℕ × T) (rest left : List (ℕ × T))
      → Putting places rest whole → rest ≡ r ∷ left → Putting (set places r.0 (Some r.1)) left whole
  putting_next places whole r rest left p came = record {
    fits = All-weaker (HasPlace places) (HasPlace (set places r.0 (Some r.1))) (λ x fits. let same = length-set places r.0 (Some r.1) in omega arith) left
        (All-rest (HasPlace places) r left rest came p.fits);
    all = ap (put_all places) (sym came) ∙ p.all;
  }

  pub length-put_all : (places : List (Option T)) (results : List (ℕ × T)) → length (put_all places results) ≡ length places
  length-put_all places [] = refl
  length-put_all places (r ∷ rs) = length-put_all (set places r.0 (Some r.1)) rs ∙ length-set places r.0 (Some r.1)

  -- the results of one part and those of the later ones
  pub part_fits : (places whole : List (Option T)) (rest part more : List (ℕ × T)) → Putting places rest whole → rest ≡ part ++ more → All (HasPlace places) part
  part_fits places whole rest part more p came =
      All-weaker
      (Contains part)
      (HasPlace places)
      (λ r c. All-contains (HasPlace places) (part ++ more) r (subst (All (HasPlace places)) came p.fits) (Contains-append_left part more r c))
      part
      (All-contains_itself part)

  pub part_next : (places now whole : List (Option T)) (rest part more : List (ℕ × T))
      → Putting places rest whole → rest ≡ part ++ more → now ≡ put_all places part → Putting now more whole
  part_next places now whole rest part more p came is =
      let same : length now ≡ length places = ap length is ∙ length-put_all places part in
      let fits = subst (All (HasPlace places)) came p.fits in
      record {
        fits = All-weaker
            (Contains more)
            (HasPlace now)
            (λ r c. let inside : r.0 < length places = All-contains (HasPlace places) (part ++ more) r fits (Contains-append_right part more r c) in omega arith)
            more
            (All-contains_itself more);
        all = ap (λ places. put_all places more) is ∙ (sym (fold-append _ places part more) ∙ (ap (put_all places) (sym came) ∙ p.all));
      }

  -- where no results are left, these are the places
  pub all_put : (places whole : List (Option T)) (rest : List (ℕ × T)) → Putting places rest whole → rest ≡ [] → places ≡ whole
  all_put places whole rest p none_left = ap (put_all places) (sym none_left) ∙ p.all

  -- a result that stands among the results of jobs is that of one
  jobs_fit : (jobs : ℕ) (results : List (ℕ × T)) → ((x : ℕ) → times x (jobs_of results) ≤ once_below x jobs) → All (λ r. r.0 < jobs) results
  jobs_fit jobs [] few = All-nil (λ r. r.0 < jobs)
  jobs_fit jobs (r ∷ rs) few =
      All-cons
      (λ r. r.0 < jobs)
      r
      rs
      (let most = few r.0 in grind (arith, nat_tests, times-cons r.0 r.0 (jobs_of rs)))
      (jobs_fit jobs rs (λ x. let most = few x in let more = times-cons x r.0 (jobs_of rs) in omega arith))

  -- a place that is filled stays so
  stays_full : (places : List (Option T)) (results : List (ℕ × T)) (k : ℕ) → k < length places → IsSome (get_or places k None) → IsSome (get_or (put_all places results) k None)
  stays_full places [] k inside full = full
  stays_full places (r ∷ rs) k inside full =
      stays_full (set places r.0 (Some r.1)) rs k (let same = length-set places r.0 (Some r.1) in omega arith) (by_place (ℕ_discrete k r.0))
    where
      by_place : Dec (k ≡ r.0) → IsSome (get_or (set places r.0 (Some r.1)) k None)
      by_place (yes e) = subst IsSome (sym (ap (λ j. get_or (set places r.0 (Some r.1)) j None) e ∙ get_or-set_same places r.0 (Some r.1) None (omega arith))) refl
      by_place (no n) = subst IsSome (sym (get_or-set_other places r.0 k (Some r.1) None n)) full

  -- the place of each job that has a result is filled
  is_filled : (places : List (Option T)) (results : List (ℕ × T)) (k : ℕ) → k < length places → 0 < times k (jobs_of results) → IsSome (get_or (put_all places results) k None)
  is_filled places [] k inside some = absurd (omega arith)
  is_filled places (r ∷ rs) k inside some = by_place (ℕ_discrete k r.0) (is_filled (set places r.0 (Some r.1)) rs k (let same = length-set places r.0 (Some r.1) in omega arith))
    where
      by_place : Dec (k ≡ r.0) → (0 < times k (jobs_of rs) → IsSome (get_or (put_all (set places r.0 (Some r.1)) rs) k None)) → IsSome (get_or (put_all (set places r.0 (Some r.1)) rs) k None)
      by_place (yes e) later =
          stays_full
          (set places r.0 (Some r.1))
          rs
          k
          (let same = length-set places r.0 (Some r.1) in omega arith)
          (subst IsSome (sym (ap (λ j. get_or (set places r.0 (Some r.1)) j None) e ∙ get_or-set_same places r.0 (Some r.1) None (omega arith))) refl)
      by_place (no n) later = later (grind (arith, nat_tests, times-cons k r.0 (jobs_of rs)))

  -- each item in a place came with that job
  abbrev CameFrom : List (ℕ × T) → List (Option T) → Type 0
  CameFrom all places = (k : ℕ) (x : T) → get_or places k None ≡ Some x → Contains all (k, x)

  came_from : (all : List (ℕ × T)) (places : List (Option T)) (results : List (ℕ × T)) → CameFrom all places → All (Contains all) results → CameFrom all (put_all places results)
  came_from all places [] came each = came
  came_from all places (r ∷ rs) came each =
      came_from all (set places r.0 (Some r.1)) rs (λ k x e. one_more k x e (ℕ_discrete k r.0)) (All-tail (Contains all) r rs each)
    where
      past_end : (ps : List (Option T)) (i : ℕ) (y : T) (p : Option T) → get_or (set ps i p) i None ≡ Some y → p ≡ Some y
      past_end [] i y p e = absurd (none-some y e)
      past_end (q ∷ qs) zero y p e = e
      past_end (q ∷ qs) (suc i) y p e = past_end qs i y p e

      one_more : (k : ℕ) (x : T) → get_or (set places r.0 (Some r.1)) k None ≡ Some x → Dec (k ≡ r.0) → Contains all (k, x)
      one_more k x e (yes same) =
          let is : r.1 ≡ x = same_Some r.1 x (past_end places r.0 x (Some r.1) (ap (λ j. get_or (set places r.0 (Some r.1)) j None) (sym same) ∙ e)) in
          subst (Contains all) (λ i. (sym same i, is i)) (All-head (Contains all) r rs each)
      one_more k x e (no other) = came k x (sym (get_or-set_other places r.0 k (Some r.1) None other) ∙ e)

  abbrev no_item : Option T
  no_item = None

  no_items : (n k : ℕ) → get_or (replicate n no_item) k None ≡ None
  no_items zero k = refl
  no_items (suc n) zero = refl
  no_items (suc n) (suc k) = no_items n k

  none_came : (all : List (ℕ × T)) (n : ℕ) → CameFrom all (replicate n None)
  none_came all n k x e = absurd (none-some x (sym (no_items n k) ∙ e))

  item_at : (items : List T) (k : ℕ) (x : T) → slice_get items k ≡ Some x → get_or (map Some items) k None ≡ Some x
  item_at [] k x e = e
  item_at (y ∷ ys) zero x e = e
  item_at (y ∷ ys) (suc k) x e = item_at ys k x e

  -- each job has a place before the first result is put
  pub begins : (jobs : ℕ) (places : List (Option T)) (rest results : List (ℕ × T))
      → EachOnce jobs (jobs_of results) → places ≡ replicate jobs None → rest ≡ results → Putting places rest (put_all (replicate jobs None) results)
  begins jobs places rest results once empty is =
      let long : length places ≡ jobs = ap length empty ∙ length-replicate jobs None in
      record {
        fits = subst
            (All (HasPlace places))
            (sym is)
            (All-weaker (λ r. r.0 < jobs) (HasPlace places) (λ r fits. omega arith) results (jobs_fit jobs results (λ x. let count = once x in omega arith)));
        all = ap (λ places. put_all places rest) empty ∙ ap (put_all (replicate jobs None)) is;
      }

  pub each_filled : (jobs : ℕ) (results : List (ℕ × T)) (places : List (Option T))
      → EachOnce jobs (jobs_of results) → places ≡ put_all (replicate jobs None) results → All (λ place. IsSome place) places
  each_filled jobs results places once is = subst (All (λ place. IsSome place)) (sym is) (All-from_get_or (λ place. IsSome place) (put_all (replicate jobs None) results) None full)
    where
      full : (k : ℕ) → k < length (put_all (replicate jobs None) results) → IsSome (get_or (put_all (replicate jobs None) results) k None)
      full k inside =
          let long = length-put_all (replicate jobs None) results in let same = length-replicate jobs no_item in
          is_filled (replicate jobs None) results k (omega arith) (let count = once k in grind (arith, nat_tests))

  pub in_place : (jobs : ℕ) (results : List (ℕ × T)) (items : List T) → map Some items ≡ put_all (replicate jobs None) results → InPlace jobs results items
  in_place jobs results items is = record {
    one_each = sym (length-map items Some) ∙ (ap length is ∙ (length-put_all (replicate jobs None) results ∙ length-replicate jobs None));
    its_own = λ job x e. came_from results (replicate jobs None) results (none_came results jobs) (All-contains_itself results) job x
        (sym (ap (λ places. get_or places job None) is) ∙ item_at items job x e);
  }

-- How telling the class above keeps what is known, and what it gives in the end.
use Rattle.std.proofs.Common.{◌≡◌, ℕ, zero, suc, ◌<◌, ◌≤◌, inl, inr, true, false, nat_lt, List, length, slice_index, slice_set, length-set, if◌then◌else◌, None, Some, refl, sym, ◌∙◌, ap, subst, arith}
use Rattle.std.proofs.lemmas.Bool.Decides.{nat_tests}
use Rattle.std.proofs.lemmas.Bool.{cases_eq}
use Rattle.std.proofs.lemmas.Grind.{common_steps}
use Rattle.program.specs.Hierarchy.{Parents, parent_in, IsPreorder}
use Rattle.class_table.specs.Lasts.{AreRaised, AreLasts, raised}
use Rattle.program.proofs.Intervals.{Above, here, further, how, above_self, above_trans, above_up, before}

module _ (up : Parents) (h : IsPreorder up) where
  pub begins : (last : List ℕ) → length last ≡ length up → ((k : ℕ) → k < length up → slice_index last k ≡ k) → AreRaised up (length up) last
  begins last same self = record {
    same = same;
    there = λ b lt. subst (λ (k : ℕ). k < length up) (sym (self b lt)) lt;
    self = λ b lt. subst (λ (k : ℕ). b ≤ k) (sym (self b lt)) (omega arith);
    below = λ b lt. subst (λ (k : ℕ). Above up b k) (sym (self b lt)) (above_self up h b);
    told = λ d p le lt e. absurd (omega arith);
  }

  set_here : (last : List ℕ) (p v : ℕ) → p < length last → slice_index (slice_set last p v) p ≡ v
  set_here last p v lt = grind (arith, common_steps)

  set_else : (last : List ℕ) (p v b : ℕ) → (b ≡ p → ⊥) → slice_index (slice_set last p v) b ≡ slice_index last b
  set_else last p v b ne = grind (arith, common_steps)

  raise_one : (k p : ℕ) (last : List ℕ) → k < length up → parent_in up k ≡ Some p → slice_index last p < slice_index last k → AreRaised up (suc k) last → AreRaised up k (slice_set last p (slice_index last k))
  raise_one k p last lt e less r =
      let low : p < k = before up h k p e in
      let same : length last ≡ length up = r.same in
      let here_is : slice_index (slice_set last p (slice_index last k)) p ≡ slice_index last k = set_here last p (slice_index last k) (omega arith) in
      record {
        same = length-set last p (slice_index last k) ∙ r.same;
        there = λ b in_range. elim (cases_eq b p) [
          | inl is ↦ subst (λ (n : ℕ). n < length up) (sym (ap (slice_index (slice_set last p (slice_index last k))) is ∙ here_is)) (r.there k lt)
          | inr ne ↦ subst (λ (n : ℕ). n < length up) (sym (set_else last p (slice_index last k) b ne)) (r.there b in_range)
        ];
        self = λ b in_range. elim (cases_eq b p) [
          | inl is ↦ let up_k = r.self k lt in let eq = ap (slice_index (slice_set last p (slice_index last k))) is in omega (arith, here_is, eq, up_k)
          | inr ne ↦ subst (λ (n : ℕ). b ≤ n) (sym (set_else last p (slice_index last k) b ne)) (r.self b in_range)
        ];
        below = λ b in_range. elim (cases_eq b p) [
          | inl is ↦ subst (λ (n : ℕ). Above up b n) (sym (ap (slice_index (slice_set last p (slice_index last k))) is ∙ here_is))
              (subst (λ (n : ℕ). Above up n (slice_index last k)) (sym is) (above_trans up h p k (slice_index last k) (above_up up h p k p e (above_self up h p)) (r.below k lt)))
          | inr ne ↦ subst (λ (n : ℕ). Above up b n) (sym (set_else last p (slice_index last k) b ne)) (r.below b in_range)
        ];
        told = λ d q le in_range e_q.
            let d_is : slice_index (slice_set last p (slice_index last k)) d ≡ slice_index last d = set_else last p (slice_index last k) d (λ s. omega arith) in
            elim (cases_eq d k) [
              | inl is ↦
                  let to_p : q ≡ p = cc in
                  let q_is = ap (slice_index (slice_set last p (slice_index last k))) to_p in
                  let same_d = ap (slice_index last) is in
                  omega (arith, d_is, q_is, same_d, here_is)
              | inr ne ↦
                  let old : slice_index last d ≤ slice_index last q = r.told d q (omega arith) in_range e_q in
                  elim (cases_eq q p) [
                    | inl to_p ↦
                        let q_is = ap (slice_index (slice_set last p (slice_index last k))) to_p in
                        let was = ap (slice_index last) to_p in
                        omega (arith, d_is, q_is, was, here_is, old, less)
                    | inr other ↦
                        let q_is = set_else last p (slice_index last k) q other in
                        omega (arith, d_is, q_is, old)
                  ]
            ];
      }

  unchanged : (k : ℕ) (last : List ℕ) → ((p : ℕ) → parent_in up k ≡ Some p → slice_index last k ≤ slice_index last p) → AreRaised up (suc k) last → AreRaised up k last
  unchanged k last fine r = record {
    same = r.same;
    there = r.there;
    self = r.self;
    below = r.below;
    told = λ d p le lt e. elim (cases_eq d k) [
      | inl is ↦ subst (λ (n : ℕ). slice_index last n ≤ slice_index last p) (sym is) (fine p (subst (λ (n : ℕ). parent_in up n ≡ Some p) is e))
      | inr ne ↦ r.told d p (omega arith) lt e
    ];
  }

  pub steps : (k : ℕ) (last : List ℕ) → k < length up → AreRaised up (suc k) last → AreRaised up k (raised last k (parent_in up k))
  steps k last lt r =
      (elim (parent_in up k) as (λ o. parent_in up k ≡ o → AreRaised up k (raised last k o)) [
        | None ↦ λ e. unchanged k last (λ p some. absurd (cc)) r
        | Some p ↦ λ e. (elim (nat_lt (slice_index last p) (slice_index last k)) as (λ b. nat_lt (slice_index last p) (slice_index last k) ≡ b → AreRaised up k (if b then slice_set last p (slice_index last k) else last)) [
          | true ↦ λ is. raise_one k p last lt e (grind (arith, nat_tests)) r
          | false ↦ λ is. unchanged k last (λ q some. let same : p ≡ q = cc in subst (λ (n : ℕ). slice_index last k ≤ slice_index last n) same (grind (arith, nat_tests))) r
        ]) refl
      ]) refl

  climb : (n b d : ℕ) (last : List ℕ) → AreRaised up 0 last → d < n → d < length up → Above up b d → slice_index last d ≤ slice_index last b
  climb zero b d last r less lt t = absurd (omega arith)
  climb (suc n) b d last r less lt t = elim (how up h b d t) [
    | here is ↦ subst (λ (k : ℕ). slice_index last d ≤ slice_index last k) (sym is) (omega arith)
    | further p e f ↦
        let low : p < d = before up h d p e in
        let one : slice_index last d ≤ slice_index last p = r.told d p (omega arith) lt e in
        let more : slice_index last p ≤ slice_index last b = climb n b p last r (omega arith) (omega arith) f in
        omega arith
  ]

  pub ends : (last : List ℕ) → AreRaised up 0 last → AreLasts up last
  ends last r = record {
    same = r.same;
    each = λ c lt. record {
      there = r.there c lt;
      below = r.below c lt;
      greatest = λ d within_d t. let self = r.self d within_d in let more = climb (suc d) c d last r (omega arith) within_d t in omega (arith, self, more);
    };
  }

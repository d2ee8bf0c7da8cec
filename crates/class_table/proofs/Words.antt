-- Bits of a word that is set.
use Rattle.std.proofs.Common.{◌≡◌, ℕ, zero, suc, replicate, ◌+◌, ◌*◌, ◌/◌, ◌%◌, ◌^◌, ◌<◌, ◌≤◌, inl, inr, max, Bool, true, false, ◌||◌, nat_eq, List, length, slice_index, slice_set, bit_or, refl, sym, ◌∙◌, ap, arith}
use Rattle.std.proofs.lemmas.Bool.{cases_eq, cases_lt}
use Rattle.std.proofs.lemmas.Bool.Decides.{nat_tests}
use Rattle.std.proofs.lemmas.Grind.{common_steps}
use Rattle.std.proofs.lemmas.Nat.Bits.{bit_at_or, bit_at_set_same, bit_at_set_other, bit_at-lt, bit_at-zero}
use Rattle.std.specs.Int.{bit_at, w64}
use Rattle.class_table.specs.Rows.{holds}

set_here : (xs : List ℕ) (i v : ℕ) → i < length xs → slice_index (slice_set xs i v) i ≡ v
set_here xs i v lt = grind (arith, common_steps)

set_else : (xs : List ℕ) (i v j : ℕ) → (j ≡ i → ⊥) → slice_index (slice_set xs i v) j ≡ slice_index xs j
set_else xs i v j ne = grind (arith, common_steps)

either : (a b : ℕ) → a < 2 → b < 2 → nat_eq (max a b) 1 ≡ (nat_eq a 1 || nat_eq b 1)
either a b x y = grind (arith, nat_tests)

joined_place : (d k : ℕ) → k / 64 ≡ d / 64 → k % 64 ≡ d % 64 → d ≡ k
joined_place d k e f = omega arith

true_at : (d k : ℕ) (b : Bool) → d ≡ k → (nat_eq d k || b) ≡ true
true_at d k b e = grind (arith, nat_tests)

other_at : (d k : ℕ) (b : Bool) → (d ≡ k → ⊥) → (nat_eq d k || b) ≡ b
other_at d k b e = grind (arith, nat_tests)

-- One bit more.
pub holds_set : (words : List ℕ) (d k : ℕ) → d / 64 < length words
    → holds (slice_set words (d / 64) (bit_or (slice_index words (d / 64)) (1 * 2 ^ (d % 64) % 2 ^ 64))) k ≡ (nat_eq d k || holds words k)
holds_set words d k lt =
    let v : ℕ = bit_or (slice_index words (d / 64)) (1 * 2 ^ (d % 64) % 2 ^ 64) in
    let low : d % 64 < 64 = omega arith in
    elim (cases_eq (k / 64) (d / 64)) [
      | inr ne ↦
          let other : d ≡ k → ⊥ = (λ e. ne (sym (ap (λ (n : ℕ). n / 64) e))) in
          ap (λ (w : ℕ). nat_eq (bit_at w (k % 64)) 1) (set_else words (d / 64) v (k / 64) ne) ∙ sym (other_at d k (holds words k) other)
      | inl same ↦
          let word : slice_index (slice_set words (d / 64) v) (k / 64) ≡ v = ap (slice_index (slice_set words (d / 64) v)) same ∙ set_here words (d / 64) v lt in
          elim (cases_eq (k % 64) (d % 64)) [
            | inl bit ↦
                let is : d ≡ k = joined_place d k same bit in
                let one : bit_at v (d % 64) ≡ 1 = bit_at_set_same w64 (slice_index words (d / 64)) (d % 64) low in
                ap (λ (w : ℕ). nat_eq (bit_at w (k % 64)) 1) word ∙ ap (λ (b : ℕ). nat_eq (bit_at v b) 1) bit ∙ ap (λ (b : ℕ). nat_eq b 1) one ∙ sym (true_at d k (holds words k) is)
            | inr bit ↦
                let other : d ≡ k → ⊥ = (λ e. bit (sym (ap (λ (n : ℕ). n % 64) e))) in
                let old : bit_at v (k % 64) ≡ bit_at (slice_index words (d / 64)) (k % 64) = bit_at_set_other w64 (slice_index words (d / 64)) (d % 64) low (k % 64) bit in
                ap (λ (w : ℕ). nat_eq (bit_at w (k % 64)) 1) word ∙ ap (λ (b : ℕ). nat_eq b 1) old ∙ ap (λ (j : ℕ). nat_eq (bit_at (slice_index words j) (k % 64)) 1) (sym same) ∙ sym (other_at d k (holds words k) other)
          ]
    ]

-- each word joined with the other's of its place, from the front up to place i
pub record AreJoined (old more : List ℕ) (i : ℕ) (words : List ℕ) : Type 0 where
  pub below : (j : ℕ) → j < i → slice_index words j ≡ bit_or (slice_index old j) (slice_index more j)
  pub rest : (j : ℕ) → i ≤ j → slice_index words j ≡ slice_index old j

pub joined_step : (old more words : List ℕ) (i : ℕ) → i < length words → AreJoined old more i words → AreJoined old more (i + 1) (slice_set words i (bit_or (slice_index words i) (slice_index more i)))
joined_step old more words i lt h =
    let v : ℕ = bit_or (slice_index words i) (slice_index more i) in
    record {
      below = λ j less. elim (cases_eq j i) [
        | inl is ↦ ap (slice_index (slice_set words i v)) is ∙ set_here words i v lt ∙ ap (λ (w : ℕ). bit_or w (slice_index more i)) (h.rest i (omega arith)) ∙ ap (λ (n : ℕ). bit_or (slice_index old n) (slice_index more n)) (sym is)
        | inr ne ↦ set_else words i v j ne ∙ h.below j (omega arith)
      ];
      rest = λ j le. set_else words i v j (λ e. omega arith) ∙ h.rest j (omega arith);
    }

past : (xs : List ℕ) (j : ℕ) → length xs ≤ j → slice_index xs j ≡ 0
past xs j le = grind (arith, common_steps)

-- All bits of both.
pub holds_joined : (old more words : List ℕ) (k : ℕ) → AreJoined old more (length more) words → holds words k ≡ (holds old k || holds more k)
holds_joined old more words k h = elim (cases_lt (k / 64) (length more)) [
  | inl lt ↦
      ap (λ (w : ℕ). nat_eq (bit_at w (k % 64)) 1) (h.below (k / 64) lt)
      ∙ ap (λ (b : ℕ). nat_eq b 1) (bit_at_or (slice_index old (k / 64)) (slice_index more (k / 64)) (k % 64))
      ∙ either (bit_at (slice_index old (k / 64)) (k % 64)) (bit_at (slice_index more (k / 64)) (k % 64)) (bit_at-lt (slice_index old (k / 64)) (k % 64)) (bit_at-lt (slice_index more (k / 64)) (k % 64))
  | inr le ↦
      let none : holds more k ≡ false = ap (λ (w : ℕ). nat_eq (bit_at w (k % 64)) 1) (past more (k / 64) le) ∙ ap (λ (b : ℕ). nat_eq b 1) (bit_at-zero (k % 64)) in
      ap (λ (w : ℕ). nat_eq (bit_at w (k % 64)) 1) (h.rest (k / 64) le) ∙ or_false (holds old k) (holds more k) none
]
  where
    or_false : (a b : Bool) → b ≡ false → a ≡ (a || b)
    or_false true b e = refl
    or_false false b e = sym e

-- Words of zeros hold nothing.
zero_word : (n i : ℕ) → slice_index (replicate n 0) i ≡ 0
zero_word zero i = refl
zero_word (suc n) zero = refl
zero_word (suc n) (suc i) = zero_word n i

pub none_held : (n d : ℕ) → holds (replicate n 0) d ≡ false
none_held n d = ap (λ (w : ℕ). nat_eq (bit_at w (d % 64)) 1) (zero_word n (d / 64)) ∙ ap (λ (b : ℕ). nat_eq b 1) (bit_at-zero (d % 64))

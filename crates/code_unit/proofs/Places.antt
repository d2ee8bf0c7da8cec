-- A unit is sound where each of its places is fine.
use Rattle.std.proofs.Common.{◌≡◌, ℕ, zero, suc, ◌+◌, ◌<◌, ◌≤◌, inl, inr, List, [], ◌∷◌, length, slice_get, get_or, Some, refl, sym, ◌∙◌, ap, subst, arith}
use Rattle.std.proofs.lemmas.Bool.{cases_lt}
use Rattle.code_unit.specs.declared.instr.Instr.{Instr}
use Rattle.code_unit.specs.declared.unit.Unit.{Unit}
use Rattle.code_unit.specs.Effects.{effect}
use Rattle.code_unit.specs.Sound.{IsAt, IsDepth, DepthsAgreeAt, IsSound, IsFine}

-- the places before one are fine
pub record AreFine (u : Unit) (n : ℕ) : Type 0 where
  pub each : (t : ℕ) (i : Instr) → t < n → IsAt u t i → IsFine u t i

pub some_eq : {A : Type 0} {a b : A} → Some a ≡ Some b → a ≡ b
some_eq e = cc

-- What is there is in range, and the other way about.
pub in_range : {A : Type 0} (xs : List A) (t : ℕ) (x : A) → slice_get xs t ≡ Some x → t < length xs
in_range [] t x e = absurd (no_item e)
  where
    no_item : {A : Type 0} {x : A} → slice_get [] t ≡ Some x → ⊥
    no_item e = cc
in_range (y ∷ xs) zero x e = omega arith
in_range (y ∷ xs) (suc t) x e = let more = in_range xs t x e in omega (arith, more)

pub item_at : {A : Type 0} (xs : List A) (t : ℕ) → t < length xs → (x : A) × (slice_get xs t ≡ Some x)
item_at [] t lt = absurd (omega arith)
item_at (x ∷ xs) zero lt = (x, refl)
item_at (x ∷ xs) (suc t) lt = item_at xs t (omega arith)

-- One more place is fine.
next_fine : (u : Unit) (n : ℕ) (i : Instr) → IsAt u n i → AreFine u n → IsFine u n i → AreFine u (n + 1)
next_fine u n i here before fine = record {
  each = λ t j lt at. elim (cases_lt t n) [
    | inl less ↦ before.each t j less at
    | inr more ↦
        let same : n ≡ t = omega arith in
        subst (λ k. IsFine u t k) (some_eq (sym here ∙ ap (slice_get u.code) same ∙ at)) (subst (λ s. IsFine u s i) same fine)
  ];
}

-- All places are.
pub all_fine : (u : Unit) (n : ℕ) → length u.code ≤ n → length u.depths ≡ length u.code → IsDepth u 0 0 → AreFine u n → IsSound u
all_fine u n le stated first fine =
    let is_fine : ((t : ℕ) (i : Instr) → IsAt u t i → IsFine u t i) = (λ t i at. let lt = in_range u.code t i at in fine.each t i (omega (arith, lt, le)) at) in
    record {
      jumps = λ t i at. (is_fine t i at).jump;
      no_end = (let lt = in_range u.depths 0 0 first in omega (arith, lt, stated), λ t i at. (is_fine t i at).on);
      slots = λ t i at. (is_fine t i at).slot;
      depths = record {
        stated = stated;
        first = first;
        steps = λ t i d at here. let there = (is_fine t i at).depth in subst (λ k. DepthsAgreeAt u (t + 1) k (effect i)) (some_eq (sym there.1 ∙ here)) there.2;
      };
    }

-- Each place of a sound unit is fine.
sound_fine : (u : Unit) (t : ℕ) (i : Instr) → IsAt u t i → IsSound u → IsFine u t i
sound_fine u t i at sound =
    let lt = in_range u.code t i at in
    let there = item_at u.depths t (omega (arith, lt, sound.depths.stated)) in
    record {
      jump = sound.jumps t i at;
      on = sound.no_end.1 t i at;
      slot = sound.slots t i at;
      depth = (there.0, there.1, sound.depths.steps t i there.0 at there.1);
    }

-- What a loop reads at a place stands there.
read_at : {A : Type 0} (xs : List A) (t : ℕ) (x : A) → t < length xs → slice_get xs t ≡ Some (get_or xs t x)
read_at [] t x lt = absurd (omega arith)
read_at (y ∷ xs) zero x lt = refl
read_at (y ∷ xs) (suc t) x lt = read_at xs t x (omega arith)

read_code : (u : Unit) (code : List Instr) (t : ℕ) (x : Instr) → code ≡ u.code → t < length code → IsAt u t (get_or code t x)
read_code u code t x is lt = ap (λ xs. slice_get xs t) (sym is) ∙ read_at code t x lt

pub sound_read : (u : Unit) (code : List Instr) (t : ℕ) (x : Instr) → code ≡ u.code → t < length code → IsSound u → IsFine u t (get_or code t x)
sound_read u code t x is lt = sound_fine u t (get_or code t x) (read_code u code t x is lt)

pub next_read : (u : Unit) (code : List Instr) (t : ℕ) (x : Instr) → code ≡ u.code → t < length code → AreFine u t → IsFine u t (get_or code t x) → AreFine u (t + 1)
next_read u code t x is lt = next_fine u t (get_or code t x) (read_code u code t x is lt)

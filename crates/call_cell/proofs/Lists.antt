-- Cells and entries in their lists.
use Rattle.std.proofs.Common.{◌≡◌, ◌≢◌, ◌⊎◌, ⊎_elim, inl, inr, ℕ, zero, suc, ◌+◌, ◌*◌, ◌/◌, ◌%◌, ◌<◌, ◌≤◌, Bool, true, false, ◌&&◌, ◌||◌, ◌==◌, List, [], ◌∷◌, length, set, replicate, Option, None, Some, is_some, option_and_then, slice_get, sym, refl, ◌∙◌, ap, arith}
use Rattle.std.specs.Prelude.{nat_lt, if◌then◌else◌}
use Rattle.std.proofs.lemmas.Bool.{eqb-true, eqb-false}
use Rattle.std.proofs.lemmas.Bool.Decides.{nat_tests}
use Rattle.std.proofs.lemmas.Nat.{div-mul-add, mod-mul-add}
use Rattle.program.specs.declared.numbered.Target.{Target}
use Rattle.miss_handler.specs.States.{unlinked}
use Rattle.call_cell.specs.declared.cell.Cell.{Cell}
use Rattle.call_cell.specs.Kept.{site_cell, cell_or, site_in, entry_in, put, with_class}

module _ {A : Type 0} where
  get-set_here : (xs : List A) (i : ℕ) (y : A) → i < length xs → slice_get (set xs i y) i ≡ Some y
  get-set_here [] i y h = absurd (omega arith)
  get-set_here (x ∷ xs) zero y h = refl
  get-set_here (x ∷ xs) (suc i) y h = get-set_here xs i y (omega arith)

  get-set_else : (xs : List A) (i j : ℕ) (y : A) → i ≢ j → slice_get (set xs i y) j ≡ slice_get xs j
  get-set_else [] i j y n = refl
  get-set_else (x ∷ xs) zero zero y n = absurd (n refl)
  get-set_else (x ∷ xs) zero (suc j) y n = refl
  get-set_else (x ∷ xs) (suc i) zero y n = refl
  get-set_else (x ∷ xs) (suc i) (suc j) y n = get-set_else xs i j y (λ e. n (ap suc e))

  pub get-set : (xs : List A) (i j : ℕ) (y : A) → i < length xs → slice_get (set xs i y) j ≡ (if i == j then Some y else slice_get xs j)
  get-set xs i j y h = elim (i == j) as (λ b. (i == j) ≡ b → slice_get (set xs i y) j ≡ (if b then Some y else slice_get xs j)) [
    | true ↦ λ e. ap (slice_get (set xs i y)) (sym (eqb-true i j e)) ∙ get-set_here xs i y h
    | false ↦ λ e. get-set_else xs i j y (eqb-false i j e)
  ] refl

  pub get-replicate : (n : ℕ) (y : A) (i : ℕ) → (slice_get (replicate n y) i ≡ Some y) ⊎ (slice_get (replicate n y) i ≡ None)
  get-replicate zero y i = inr refl
  get-replicate (suc n) y zero = inl refl
  get-replicate (suc n) y (suc i) = get-replicate n y i

pub site_set : (cells : List Cell) (s : ℕ) (k : Cell) → s < length cells → site_in (set cells s k) ≡ put (site_in cells) s (site_cell k)
unfolding site_in
site_set cells s k h = λ i x. (ap cell_or (get-set cells s x k h) ∙ pick (s == x) x) i
  where
    pick : (b : Bool) (x : ℕ) → cell_or (if b then Some k else slice_get cells x) ≡ (if b then site_cell k else cell_or (slice_get cells x))
    pick true x = refl
    pick false x = refl

-- two classes of two tables have one place only if they are one
same_place : (w q c r d : ℕ) → c < w → d < w → q * w + c ≡ r * w + d → (q ≡ r) × (c ≡ d)
same_place w q c r d h k e = (sym (div-mul-add q w c h) ∙ ap (λ n. n / w) e ∙ div-mul-add r w d k, sym (mod-mul-add q w c h) ∙ ap (λ n. n % w) e ∙ mod-mul-add r w d k)

-- an entry that is set is the class's, and no other
pub entry_set : (w : ℕ) (tables : List (Option Target)) (q c : ℕ) (t : Target) → c < w → q * w + c < length tables → (r d : ℕ)
    → entry_in w (set tables (q * w + c) (Some t)) r d ≡ (if q == r && c == d then Some t else entry_in w tables r d)
unfolding entry_in
entry_set w tables q c t small inside r d =
    elim (nat_lt d w) as (λ b. nat_lt d w ≡ b → (if b then option_and_then (λ z. z) (slice_get (set tables (q * w + c) (Some t)) (r * w + d)) else None)
    ≡ (if q == r && c == d then Some t else (if b then option_and_then (λ z. z) (slice_get tables (r * w + d)) else None))) [
      | true ↦ λ low. ap (option_and_then (λ z. z)) (get-set tables (q * w + c) (r * w + d) (Some t) inside) ∙ pick (low_of low)
      | false ↦ λ high. sym (ap (λ b. if b then Some t else None) (past (high_of high)))
    ] refl
  where
    low_of : nat_lt d w ≡ true → d < w
    low_of h = grind (arith, nat_tests)

    high_of : nat_lt d w ≡ false → w ≤ d
    high_of h = grind (arith, nat_tests)

    past : w ≤ d → (q == r && c == d) ≡ false
    past h = grind (arith, nat_tests)

    same : d < w → ((q * w + c) == (r * w + d)) ≡ (q == r && c == d)
    same low = elim ((q * w + c) == (r * w + d)) as (λ b. ((q * w + c) == (r * w + d)) ≡ b → b ≡ (q == r && c == d)) [
      | true ↦ λ e. let is = same_place w q c r d small low (eqb-true (q * w + c) (r * w + d) e) in let one = is.0 in let two = is.1 in grind (arith, nat_tests)
      | false ↦ λ e. both (q == r) (c == d) refl refl (eqb-false (q * w + c) (r * w + d) e)
    ] refl
      where
        both : (a b : Bool) → (q == r) ≡ a → (c == d) ≡ b → (q * w + c) ≢ (r * w + d) → false ≡ (a && b)
        both true true ea eb n = absurd (n (ap (λ z. z * w + c) (eqb-true q r ea) ∙ ap (λ z. r * w + z) (eqb-true c d eb)))
        both true false ea eb n = refl
        both false b ea eb n = refl

    pick : d < w → option_and_then (λ z. z) (if (q * w + c) == (r * w + d) then Some (Some t) else slice_get tables (r * w + d)) ≡ (if q == r && c == d then Some t else option_and_then (λ z. z) (slice_get tables (r * w + d)))
    pick low = elim ((q * w + c) == (r * w + d)) as (λ b. b ≡ (q == r && c == d) → option_and_then (λ z. z) (if b then Some (Some t) else slice_get tables (r * w + d)) ≡ (if q == r && c == d then Some t else option_and_then (λ z. z) (slice_get tables (r * w + d)))) [
      | true ↦ λ e. ap (λ b. if b then Some t else option_and_then (λ z. z) (slice_get tables (r * w + d))) e
      | false ↦ λ e. ap (λ b. if b then Some t else option_and_then (λ z. z) (slice_get tables (r * w + d))) e
    ] (same low)

-- the same of what stands in the tables
pub added_set : (w : ℕ) (tables : List (Option Target)) (q c : ℕ) (t : Target) → c < w → q * w + c < length tables
    → (λ r d. is_some (entry_in w (set tables (q * w + c) (Some t)) r d)) ≡ with_class (λ r d. is_some (entry_in w tables r d)) q c
added_set w tables q c t small inside = λ i r d. (ap is_some (entry_set w tables q c t small inside r d) ∙ pick (q == r && c == d) r d) i
  where
    pick : (b : Bool) (r d : ℕ) → is_some (if b then Some t else entry_in w tables r d) ≡ (b || is_some (entry_in w tables r d))
    pick true r d = refl
    pick false r d = refl

-- tables without entries
pub entry_none : (w n q c : ℕ) → entry_in w (replicate n None) q c ≡ None
unfolding entry_in
entry_none w n q c = elim (nat_lt c w) as (λ b. (if b then option_and_then (λ (z : Option Target). z) (slice_get (replicate n None) (q * w + c)) else None) ≡ None) [
  | true ↦ ⊎_elim (λ e. ap (option_and_then (λ (z : Option Target). z)) e) (λ e. ap (option_and_then (λ (z : Option Target). z)) e) (get-replicate n None (q * w + c))
  | false ↦ refl
]

-- cells that are all one
pub site_replicate : (n : ℕ) (k : Cell) → site_cell k ≡ unlinked → site_in (replicate n k) ≡ (λ s. unlinked)
unfolding site_in
site_replicate n k is = λ i s. (⊎_elim (λ e. ap cell_or e ∙ is) (λ e. ap cell_or e) (get-replicate n k s)) i

pub one_replicate : (n s : ℕ) (k j : Cell) → slice_get (replicate n k) s ≡ Some j → k ≡ j
one_replicate n s k j e = ⊎_elim (λ a. let b : Some k ≡ Some j = sym a ∙ e in cc) (λ a. let b : None ≡ Some j = sym a ∙ e in absurd cc) (get-replicate n k s)

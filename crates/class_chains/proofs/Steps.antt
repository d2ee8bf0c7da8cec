-- Names that are gathered, each once, and the steps up from them.
use Rattle.std.proofs.Common.{◌≡◌, ℕ, suc, Bool, true, false, not, ◌||◌, List, [], ◌∷◌, ◌++◌, ◌-◌, ◌<◌, arith, refl, sym, ◌∙◌, ap, subst, bytes_eq}
use Rattle.std.specs.Prelude.{flat_map}
use Rattle.std.specs.List.{list_any}
use Rattle.std.proofs.lemmas.Slice.Eq.{bytes_eq-Decides}
use Rattle.std.proofs.lemmas.List.Folds.{list_any-append}
use Rattle.dart_syntax.specs.Bytes.{Text}
use Rattle.static_rules.specs.Repeats.{with_name}
use Rattle.class_chains.specs.Ranking.{AreIn, reaches, above_of}
use Rattle.declaration_rules.specs.Finding.{Find}

or_false : (b : Bool) → (b || false) ≡ b
or_false true = refl
or_false false = refl

or_true : (b : Bool) → (b || true) ≡ true
or_true true = refl
or_true false = refl

pub or_three : (a b c : Bool) → ((a || b) || c) ≡ (a || (b || c))
or_three true b c = refl
or_three false b c = refl

-- one more at the end
pub any_last : {A : Type 0} (p : A → Bool) (xs : List A) (x : A) → list_any p (xs ++ x ∷ []) ≡ (list_any p xs || p x)
any_last p xs x = list_any-append p xs (x ∷ []) ∙ ap (λ b. list_any p xs || b) (or_false (p x))

-- what is there already and passes is one that passes
there : (p : Text → Bool) (s : Text) (xs : List Text) → list_any (λ x. bytes_eq x s) xs ≡ true → p s ≡ true → list_any p xs ≡ true
there p s [] h e = absurd cc
there p s (x ∷ xs) h e =
    elim (bytes_eq x s) as (λ b. bytes_eq x s ≡ b → (b || list_any (λ y. bytes_eq y s) xs) ≡ true → (p x || list_any p xs) ≡ true) [
      | true ↦ λ is _. ap (λ b. b || list_any p xs) (ap p ((bytes_eq-Decides x s).0 is) ∙ e)
      | false ↦ λ is more. ap (λ b. p x || b) (there p s xs more e) ∙ or_true (p x)
    ] refl h

-- so nothing is new by it
pub none_new : (p : Text → Bool) (s : Text) (xs : List Text) → list_any (λ x. bytes_eq x s) xs ≡ true → list_any p xs ≡ (list_any p xs || p s)
none_new p s xs h =
    elim (p s) as (λ b. p s ≡ b → list_any p xs ≡ (list_any p xs || b)) [
      | true ↦ λ e. there p s xs h e ∙ sym (or_true (list_any p xs))
      | false ↦ λ e. sym (or_false (list_any p xs))
    ] refl

same_text : (s q : Text) (xs : List Text) → list_any (λ x. bytes_eq x s) xs ≡ true → bytes_eq s q ≡ true → list_any (λ x. bytes_eq x q) xs ≡ true
same_text s q xs h e = subst (λ t. list_any (λ x. bytes_eq x t) xs ≡ true) ((bytes_eq-Decides s q).0 e) h

-- where a name is there already
pub are_in_still : (seen next : Text → Bool) (s : Text) (xs : List Text) → AreIn seen xs → ((q : Text) → next q ≡ with_name s seen q) → seen s ≡ true → AreIn next xs
are_in_still seen next s xs each same is q h =
    elim (bytes_eq s q) as (λ b. bytes_eq s q ≡ b → (b || seen q) ≡ true → list_any (λ x. bytes_eq x q) xs ≡ true) [
      | true ↦ λ e _. same_text s q xs (each s is) e
      | false ↦ λ e old. each q old
    ] refl (sym (same q) ∙ h)

-- where it comes to the end
pub are_in_more : (seen next : Text → Bool) (s : Text) (xs : List Text) → AreIn seen xs → ((q : Text) → next q ≡ with_name s seen q) → AreIn next (xs ++ s ∷ [])
are_in_more seen next s xs each same q h =
    elim (bytes_eq s q) as (λ b. bytes_eq s q ≡ b → (b || seen q) ≡ true → list_any (λ x. bytes_eq x q) (xs ++ s ∷ []) ≡ true) [
      | true ↦ λ e _. any_last (λ x. bytes_eq x q) xs s ∙ ap (λ b. list_any (λ x. bytes_eq x q) xs || b) e ∙ or_true (list_any (λ x. bytes_eq x q) xs)
      | false ↦ λ e old. any_last (λ x. bytes_eq x q) xs s ∙ ap (λ b. b || bytes_eq s q) (each q old)
    ] refl (sym (same q) ∙ h)

pub was_there : (b fresh : Bool) → fresh ≡ not b → fresh ≡ false → b ≡ true
was_there true fresh h e = refl
was_there false fresh h e = absurd cc

-- either of two tests
any_both : {A : Type 0} (f g : A → Bool) (xs : List A) → list_any (λ x. f x || g x) xs ≡ (list_any f xs || list_any g xs)
any_both f g [] = refl
any_both f g (x ∷ xs) = ap (λ b. (f x || g x) || b) (any_both f g xs) ∙ swapped (f x) (g x) (list_any f xs) (list_any g xs)
  where
    swapped : (a b c d : Bool) → ((a || b) || (c || d)) ≡ ((a || c) || (b || d))
    swapped true b c d = refl
    swapped false true true d = refl
    swapped false true false d = refl
    swapped false false c d = refl

any_flat : {A B : Type 0} (p : B → Bool) (f : A → List B) (xs : List A) → list_any (λ x. list_any p (f x)) xs ≡ list_any p (flat_map f xs)
any_flat p f [] = refl
any_flat p f (x ∷ xs) = ap (λ b. list_any p (f x) || b) (any_flat p f xs) ∙ sym (list_any-append p (f x) (flat_map f xs))

-- one step up from each of these
pub step_up : (n : ℕ) (find : Find) (class : Text) (xs : List Text) → list_any (λ t. reaches (suc n) find t class) xs ≡ (list_any (λ t. bytes_eq t class) xs || list_any (λ t. reaches n find t class) (flat_map (above_of find) xs))
step_up n find class xs =
    any_both (λ t. bytes_eq t class) (λ t. list_any (λ u. reaches n find u class) (above_of find t)) xs
    ∙ ap (λ b. list_any (λ t. bytes_eq t class) xs || b) (any_flat (λ u. reaches n find u class) (above_of find) xs)

-- no step leads nowhere
pub no_step : (xs : List Text) → list_any (λ t. false) xs ≡ false
no_step [] = refl
no_step (x ∷ xs) = no_step xs

-- ---- turns of the walk up

module _ (find : Find) (class : Text) where
  abbrev any_reach : ℕ → List Text → Bool
  any_reach n xs = list_any (λ t. reaches n find t class) xs

  one_less : (n : ℕ) → 0 < n → suc (n - 1) ≡ n
  one_less n lt = omega arith

  pub reached_now : (n : ℕ) (xs : List Text) (whole : Bool) → 0 < n → list_any (λ t. bytes_eq t class) xs ≡ true → any_reach n xs ≡ whole → true ≡ whole
  reached_now n xs whole lt h was =
      sym (ap (λ b. b || list_any (λ t. reaches (n - 1) find t class) (flat_map (above_of find) xs)) h) ∙ sym (step_up (n - 1) find class xs)
      ∙ ap (λ k. any_reach k xs) (one_less n lt) ∙ was

  pub reached_next : (n : ℕ) (xs ys : List Text) (whole : Bool) → 0 < n → list_any (λ t. bytes_eq t class) xs ≡ false → ((p : Text → Bool) → list_any p ys ≡ list_any p (flat_map (above_of find) xs)) → any_reach n xs ≡ whole → any_reach (n - 1) ys ≡ whole
  reached_next n xs ys whole lt h same was =
      same (λ t. reaches (n - 1) find t class)
      ∙ sym (ap (λ b. b || list_any (λ t. reaches (n - 1) find t class) (flat_map (above_of find) xs)) h) ∙ sym (step_up (n - 1) find class xs)
      ∙ ap (λ k. any_reach k xs) (one_less n lt) ∙ was

  pub reached_never : (n : ℕ) (xs : List Text) (whole : Bool) → n ≡ 0 → any_reach n xs ≡ whole → false ≡ whole
  reached_never n xs whole h was = sym (no_step xs) ∙ sym (ap (λ k. any_reach k xs) h) ∙ was

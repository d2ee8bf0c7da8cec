-- The first item that passes a test, as `position` finds it; and the entry point of a name.
use Rattle.std.proofs.Common.{◌≡◌, ℕ, ◌+◌, ◌<◌, Bool, true, false, cond, List, [], ◌∷◌, length, Option, None, Some, All, IfSome, IsTrue, slice_get, get_or, position, refl, sym, ◌∙◌, ap, subst, arith}
use Rattle.std.proofs.lemmas.List.Quantifiers.{position-Some}
use Rattle.std.proofs.lemmas.List.Elements.{All-cons}
use Rattle.std.proofs.lemmas.Iterator.Adapters.{position_from-zero}
use Rattle.std.proofs.lemmas.Option.{slice_get-get_or}
use Rattle.std.specs.List.{position_from}
use Rattle.program.specs.declared.numbered.Numbered.{Numbered}
use Rattle.program.specs.Program.{entry_named, is_entry_named, HasEntry}

pub position_is : {A : Type 0} (q : A → Bool) (xs : List A) → position q xs ≡ position_from q 0 xs
position_is q xs = position_from-zero q xs

-- where none is found, none passes
pub none_passes : {A : Type 0} (q : A → Bool) (n : ℕ) (xs : List A) → position_from q n xs ≡ None → All (λ x. q x ≡ false) xs
none_passes q n [] e = λ k d lt. absurd (omega arith)
none_passes q n (x ∷ xs) e =
    (elim (q x) as (λ b. q x ≡ b → cond b (Some n) (position_from q (n + 1) xs) ≡ None → All (λ y. q y ≡ false) (x ∷ xs)) [
      | true ↦ λ is some. absurd (cc)
      | false ↦ λ is some. All-cons (λ y. q y ≡ false) x xs is (none_passes q (n + 1) xs some)
    ]) refl e

-- the item found passes
pub found_at : {A : Type 0} (q : A → Bool) (xs : List A) (m : ℕ) → position_from q 0 xs ≡ Some m → (x : A) × (m < length xs) × (slice_get xs m ≡ Some x) × (q x ≡ true)
found_at q [] m e = absurd (cc)
found_at q (x ∷ xs) m e = let f = position-Some q (x ∷ xs) m x (position_is q (x ∷ xs) ∙ e) in (get_or (x ∷ xs) m x, f.0, slice_get-get_or (x ∷ xs) m x f.0, f.1)

pub entry_is : (p : Numbered) (name bytes : List ℕ) (place : Option ℕ) → place ≡ position (is_entry_named bytes) p.functions → bytes ≡ name → place ≡ entry_named p name
unfolding entry_named
entry_is p name bytes place e same = e ∙ position_is (is_entry_named bytes) p.functions ∙ ap (λ n. position_from (is_entry_named n) 0 p.functions) same

pub no_entry : (p : Numbered) (name : List ℕ) → entry_named p name ≡ None → All (λ f. is_entry_named name f ≡ false) p.functions
unfolding entry_named
no_entry p name e = none_passes (is_entry_named name) 0 p.functions e

pub has_entry : (p : Numbered) (name : List ℕ) (e : ℕ) → entry_named p name ≡ Some e → (e < length p.functions) × HasEntry p e name
unfolding entry_named
has_entry p name e is =
    let f = found_at (is_entry_named name) p.functions e is in
    (f.1, subst (λ o. IfSome o (λ k. IsTrue (is_entry_named name k))) (sym f.2) f.3)

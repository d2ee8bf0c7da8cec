-- What `==` of keys computes, and what a set of them holds.
use Rattle.std.proofs.Common.{◌≡◌, ℕ, suc, ◌+◌, true, false, not, ◌||◌, cond, List, [], ◌∷◌, ◌++◌, length, map, refl, sym, ◌∙◌, ap}
use Rattle.std.specs.List.{list_any, position_or_len}
use Rattle.indexmap.specs.IndexSet.{insert_key}
use Rattle.code_writer.specs.declared.key.Key.{Key}
use Rattle.code_writer.specs.declared.key.Key.TheVariants as k
use Rattle.code_writer.specs.contracts.key.KeyPartialEq.TheImpl as the
use Rattle.code_writer.specs.Constants.{literal_of, same_literal, number_in, with_literal}

derived_is : (x y : Key) → the.eq-value.it x y ≡ same_literal (literal_of x) (literal_of y)
derived_is k.Null k.Null = refl
derived_is k.Null (k.Bool b) = refl
derived_is k.Null (k.Int b) = refl
derived_is k.Null (k.Text b) = refl
derived_is (k.Bool a) k.Null = refl
derived_is (k.Bool a) (k.Bool b) = refl
derived_is (k.Bool a) (k.Int b) = refl
derived_is (k.Bool a) (k.Text b) = refl
derived_is (k.Int a) k.Null = refl
derived_is (k.Int a) (k.Bool b) = refl
derived_is (k.Int a) (k.Int b) = refl
derived_is (k.Int a) (k.Text b) = refl
derived_is (k.Text a) k.Null = refl
derived_is (k.Text a) (k.Bool b) = refl
derived_is (k.Text a) (k.Int b) = refl
derived_is (k.Text a) (k.Text b) = refl

any_is : (x : Key) (xs : List Key) → list_any (the.eq-value.it x) xs ≡ list_any (same_literal (literal_of x)) (map literal_of xs)
any_is x [] = refl
any_is x (y ∷ ys) = ap (λ b. b || list_any (the.eq-value.it x) ys) (derived_is x y) ∙ ap (λ b. same_literal (literal_of x) (literal_of y) || b) (any_is x ys)

-- the number of a literal is its place among the keys
pub number_is : (x : Key) (xs : List Key) → position_or_len (the.eq-value.it x) xs ≡ number_in (map literal_of xs) (literal_of x)
number_is x [] = refl
number_is x (y ∷ ys) =
    ap (λ b. cond (not b) (1 + position_or_len (the.eq-value.it x) ys) 0) (derived_is x y)
    ∙ ap (λ n. cond (not (same_literal (literal_of x) (literal_of y))) (1 + n) 0) (number_is x ys)

map_last : {A B : Type 0} (f : A → B) (xs : List A) (x : A) → map f (xs ++ x ∷ []) ≡ map f xs ++ f x ∷ []
map_last f [] x = refl
map_last f (y ∷ ys) x = ap (λ zs. f y ∷ zs) (map_last f ys x)

-- what a set holds after a literal is put into it
pub held_insert : (xs : List Key) (x : Key) → map literal_of (insert_key the.eq-value.it xs x) ≡ with_literal (literal_of x) (map literal_of xs)
held_insert xs x =
    (elim (list_any (the.eq-value.it x) xs) as (λ b. map literal_of (cond b xs (xs ++ x ∷ [])) ≡ cond b (map literal_of xs) (map literal_of xs ++ literal_of x ∷ [])) [
      | true ↦ refl
      | false ↦ map_last literal_of xs x
    ])
    ∙ ap (λ b. cond b (map literal_of xs) (map literal_of xs ++ literal_of x ∷ [])) (any_is x xs)

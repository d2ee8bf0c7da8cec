-- The number of a literal stays the same as constants come.
use Rattle.std.proofs.Common.{◌≡◌, ℕ, suc, ◌+◌, Bool, true, false, not, ◌||◌, cond, List, [], ◌∷◌, ◌++◌, refl, sym, ◌∙◌, ap, subst, arith}
use Rattle.std.specs.Prelude.{slice_get, Some}
use Rattle.std.specs.Cmp.{signed_Decides, booleans_Decides}
use Rattle.std.specs.List.{list_any, position_or_len}
use Rattle.std.proofs.lemmas.List.{append_assoc}
use Rattle.std.proofs.lemmas.Slice.Eq.{bytes_eq-Decides}
use Rattle.program.specs.declared.literal.Literal.{Literal}
use Rattle.program.specs.declared.literal.Literal.TheVariants as l
use Rattle.code_writer.specs.Constants.{same_literal, number_in, with_literal}

same_self : (x : Literal) → same_literal x x ≡ true
same_self l.Null = refl
same_self (l.Bool b) = (booleans_Decides b b).1 refl
same_self (l.Int n) = (signed_Decides n n).1 refl
same_self (l.Str us) = (bytes_eq-Decides us us).1 refl

is_same : (x y : Literal) → same_literal x y ≡ true → y ≡ x
is_same l.Null l.Null e = refl
is_same l.Null (l.Bool b) e = absurd (cc)
is_same l.Null (l.Int n) e = absurd (cc)
is_same l.Null (l.Str us) e = absurd (cc)
is_same (l.Bool a) l.Null e = absurd (cc)
is_same (l.Bool a) (l.Bool b) e = ap l.Bool (sym ((booleans_Decides a b).0 e))
is_same (l.Bool a) (l.Int n) e = absurd (cc)
is_same (l.Bool a) (l.Str us) e = absurd (cc)
is_same (l.Int m) l.Null e = absurd (cc)
is_same (l.Int m) (l.Bool b) e = absurd (cc)
is_same (l.Int m) (l.Int n) e = ap l.Int (sym ((signed_Decides m n).0 e))
is_same (l.Int m) (l.Str us) e = absurd (cc)
is_same (l.Str us) l.Null e = absurd (cc)
is_same (l.Str us) (l.Bool b) e = absurd (cc)
is_same (l.Str us) (l.Int n) e = absurd (cc)
is_same (l.Str us) (l.Str vs) e = ap l.Str (sym ((bytes_eq-Decides us vs).0 e))

-- In constants that begin with these and a literal, the literal has the number that it was given.
pub record Keeps (x : Literal) (xs all : List Literal) : Type 0 where
  pub number : number_in xs x ≡ number_in all x
  pub there : slice_get all (number_in all x) ≡ Some x
  pub rest : List Literal
  pub begins : all ≡ xs ++ rest

with_next : (x y : Literal) (ys : List Literal) (b : Bool) → same_literal x y ≡ b → b ≡ false → with_literal x (y ∷ ys) ≡ y ∷ with_literal x ys
with_next x y ys b e h =
    ap (λ c. cond (c || list_any (same_literal x) ys) (y ∷ ys) (y ∷ (ys ++ x ∷ []))) (e ∙ h)
    ∙ (elim (list_any (same_literal x) ys) as (λ c. cond c (y ∷ ys) (y ∷ (ys ++ x ∷ [])) ≡ y ∷ cond c ys (ys ++ x ∷ [])) [
      | true ↦ refl
      | false ↦ refl
    ])

with_this : (x y : Literal) (ys : List Literal) → same_literal x y ≡ true → with_literal x (y ∷ ys) ≡ y ∷ ys
with_this x y ys e = ap (λ c. cond (c || list_any (same_literal x) ys) (y ∷ ys) (y ∷ (ys ++ x ∷ []))) e

number_this : (x y : Literal) (ys : List Literal) → same_literal x y ≡ true → number_in (y ∷ ys) x ≡ 0
number_this x y ys e = ap (λ b. cond (not b) (1 + number_in ys x) 0) e

number_next : (x y : Literal) (ys : List Literal) → same_literal x y ≡ false → number_in (y ∷ ys) x ≡ suc (number_in ys x)
number_next x y ys e = ap (λ b. cond (not b) (1 + number_in ys x) 0) e ∙ omega arith

this_keeps : (x y : Literal) (ys more : List Literal) → same_literal x y ≡ true → Keeps x (y ∷ ys) (with_literal x (y ∷ ys) ++ more)
this_keeps x y ys more e =
    subst (λ zs. Keeps x (y ∷ ys) (zs ++ more)) (sym (with_this x y ys e)) (record {
      number = number_this x y ys e ∙ sym (number_this x y (ys ++ more) e);
      there = ap (slice_get (y ∷ (ys ++ more))) (number_this x y (ys ++ more) e) ∙ ap Some (is_same x y e);
      rest = more;
      begins = refl;
    })

next_keeps : (x y : Literal) (ys more : List Literal) → same_literal x y ≡ false → Keeps x ys (with_literal x ys ++ more) → Keeps x (y ∷ ys) (with_literal x (y ∷ ys) ++ more)
next_keeps x y ys more e k =
    subst (λ zs. Keeps x (y ∷ ys) (zs ++ more)) (sym (with_next x y ys false e refl)) (record {
      number = number_next x y ys e ∙ ap suc k.number ∙ sym (number_next x y (with_literal x ys ++ more) e);
      there = ap (slice_get (y ∷ (with_literal x ys ++ more))) (number_next x y (with_literal x ys ++ more) e) ∙ k.there;
      rest = k.rest;
      begins = ap (λ zs. y ∷ zs) k.begins;
    })

either_keeps : (x y : Literal) (ys more : List Literal) (b : Bool) → same_literal x y ≡ b → Keeps x ys (with_literal x ys ++ more) → Keeps x (y ∷ ys) (with_literal x (y ∷ ys) ++ more)
either_keeps x y ys more true e k = this_keeps x y ys more e
either_keeps x y ys more false e k = next_keeps x y ys more e k

pub keeps : (x : Literal) (xs more : List Literal) → Keeps x xs (with_literal x xs ++ more)
keeps x [] more = record {
  number = sym (number_this x x more (same_self x));
  there = ap (slice_get (x ∷ more)) (number_this x x more (same_self x));
  rest = x ∷ more;
  begins = refl;
}
keeps x (y ∷ ys) more = either_keeps x y ys more (same_literal x y) refl (keeps x ys more)

-- Equal texts.
use Rattle.std.proofs.Common.{◌≡◌, ◌↔◌, ℕ, Bool, true, false, ◌&&◌, List, [], ◌∷◌, refl, sym, ◌∙◌, nat_eq}
use Rattle.std.specs.Bool.{IsTrue}
use Rattle.std.proofs.lemmas.Bool.{eq-eqb, eqb-true}
use Rattle.dart_syntax.specs.Derivation.{same_text}

pub same_itself : (xs : List ℕ) → same_text xs xs ≡ true
same_itself [] = refl
same_itself (x ∷ xs) = rw (eq-eqb x x refl, same_itself xs)

pub same_is : (xs ys : List ℕ) → same_text xs ys ≡ true → xs ≡ ys
same_is [] [] h = refl
same_is [] (y ∷ ys) h = cc
same_is (x ∷ xs) [] h = cc
same_is (x ∷ xs) (y ∷ ys) h = go (nat_eq x y) refl h (same_is xs ys)
  where
    go : (b : Bool) → nat_eq x y ≡ b → (b && same_text xs ys) ≡ true → (same_text xs ys ≡ true → xs ≡ ys) → x ∷ xs ≡ y ∷ ys
    go true e h more = let f : x ≡ y = eqb-true x y e in let g : xs ≡ ys = more h in cc
    go false e h more = cc

pub text_is : (b : Bool) (xs ys : List ℕ) → IsTrue b ↔ (xs ≡ ys) → b ≡ same_text xs ys
text_is true xs ys h = rw (h.0 refl) (sym (same_itself ys))
text_is false xs ys h = go (same_text xs ys) refl
  where
    go : (c : Bool) → same_text xs ys ≡ c → false ≡ same_text xs ys
    go true e = h.1 (same_is xs ys e) ∙ sym e
    go false e = sym e

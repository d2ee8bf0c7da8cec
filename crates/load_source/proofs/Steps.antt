-- One more of the numbers below n, and a text of three parts.
use Rattle.std.proofs.Common.{◌≡◌, ◌∙◌, sym, ap, ℕ, ◌+◌, List, ◌++◌, refl, add-one}
use Rattle.std.proofs.lemmas.List.{append_assoc}
use Rattle.load_source.specs.Generated.{next, numbered, each, class_text, class_line}

pub each_next : (f : ℕ → List ℕ) (n : ℕ) → each f (n + 1) ≡ each f n ++ f n
each_next f n = rw add-one refl

numbered_next : (number k : ℕ) → numbered number (k + 1) ≡ next (numbered number k)
numbered_next number k = rw add-one refl

-- what was written before a class, and what is written with it
pub class_next : (number k x : ℕ) (start before after : List ℕ) → before ≡ start ++ each (class_line number) k → x ≡ numbered number k → after ≡ before ++ class_text k x → after ≡ start ++ each (class_line number) (k + 1)
class_next number k x start before after written same e =
    e
    ∙ ap (λ l. l ++ class_text k x) written
    ∙ append_assoc start (each (class_line number) k) (class_text k x)
    ∙ ap (λ y. start ++ (each (class_line number) k ++ class_text k y)) same
    ∙ ap (λ l. start ++ l) (sym (each_next (class_line number) k))

pub number_next : (number k x y : ℕ) → x ≡ numbered number k → y ≡ next x → y ≡ numbered number (k + 1)
number_next number k x y same e = e ∙ ap next same ∙ sym (numbered_next number k)

-- a head, a middle and a tail, written one after the other
pub three_parts : (start head middle tail a b c : List ℕ) → a ≡ start ++ head → b ≡ a ++ middle → c ≡ b ++ tail → c ≡ start ++ (head ++ (middle ++ tail))
three_parts start head middle tail a b c p q r =
    r
    ∙ ap (λ l. l ++ tail) q
    ∙ ap (λ l. (l ++ middle) ++ tail) p
    ∙ append_assoc (start ++ head) middle tail
    ∙ append_assoc start head (middle ++ tail)

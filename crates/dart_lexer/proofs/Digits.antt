-- Hexadecimal digits: the function, a few digits behind others.
use Rattle.std.proofs.Common.{◌≡◌, ℕ, zero, suc, ◌+◌, ◌*◌, [], ◌∷◌, Some, None, refl, ap, sym}
use Rattle.dart_syntax.specs.declared.byte_kind.ByteKind.TheVariants as byte
use Rattle.dart_syntax.specs.Bytes.{Text, is_in}
use Rattle.dart_syntax.specs.Numbers.{hex_value}
use Rattle.dart_lexer.specs.Model.{Found, digits_from}
use Rattle.dart_lexer.proofs.Facts.{split}

some_pair : {a b : ℕ} {x y : Text} → ◌≡◌ {A = Found} (Some (a, x)) (Some (b, y)) → (a ≡ b) × (x ≡ y)
some_pair {a} {b} {x} {y} e = let p : ◌≡◌ {A = ℕ × Text} (a, x) (b, y) = cc in (ap (λ q. q.0) p, ap (λ q. q.1) p)

none_of : {a : ℕ} {x : Text} → ◌≡◌ {A = Found} None (Some (a, x)) → ⊥
none_of e = cc

abbrev plus : ℕ → ℕ → ℕ
plus zero n = n
plus (suc m) n = suc (plus m n)

then_digits : (m n v w : ℕ) (bs mid : Text) → digits_from m v bs ≡ Some (w, mid) → digits_from (plus m n) v bs ≡ digits_from n w mid
then_digits zero n v w bs mid e = let p = some_pair e in rw (p.0, p.1)
then_digits (suc m) n v w [] mid e = absurd (none_of e)
then_digits (suc m) n v w (a ∷ bs) mid e = split (is_in byte.Hex a)
    (λ h. rw h (then_digits m n (16 * v + hex_value a) w bs mid (rw h at e)))
    (λ h. absurd (none_of (rw h at e)))

none_then : (m n v : ℕ) (bs : Text) → digits_from m v bs ≡ None → digits_from (plus m n) v bs ≡ None
none_then zero n v bs e = absurd (none_of (sym e))
none_then (suc m) n v [] e = refl
none_then (suc m) n v (a ∷ bs) e = split (is_in byte.Hex a)
    (λ h. rw h (none_then m n (16 * v + hex_value a) bs (rw h at e)))
    (λ h. rw h)

pub second_digit : (v w : ℕ) (bs mid : Text) → digits_from 1 v bs ≡ Some (w, mid) → digits_from 2 v bs ≡ digits_from 1 w mid
second_digit v w bs mid e = then_digits 1 1 v w bs mid e

pub no_digit : (v : ℕ) (bs : Text) → digits_from 1 v bs ≡ None → digits_from 2 v bs ≡ None
no_digit v bs e = none_then 1 1 v bs e

pub later_digits : (v w : ℕ) (bs mid : Text) → digits_from 2 v bs ≡ Some (w, mid) → digits_from 4 v bs ≡ digits_from 2 w mid
later_digits v w bs mid e = then_digits 2 2 v w bs mid e

pub no_digits : (v : ℕ) (bs : Text) → digits_from 2 v bs ≡ None → digits_from 4 v bs ≡ None
no_digits v bs e = none_then 2 2 v bs e

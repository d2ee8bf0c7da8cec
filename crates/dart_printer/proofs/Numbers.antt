-- The texts of integers.
use Rattle.std.proofs.Common.{◌≡◌, ℕ, zero, suc, ℤ, pos, negsuc, ◌+◌, ◌-◌, ◌*◌, ◌^◌, ◌<◌, Bool, true, false, ◌&&◌, ◌==◌, [], ◌∷◌, ◌++◌, Option, Some, refl, ◌∙◌, subst, arith, codes}
use Rattle.std.specs.Str.{IsAscii}
use Rattle.std.specs.Char.{digit_value}
use Rattle.std.specs.Str.Parse.{AllDigits, IsNumeral, digits_value_after}
use Rattle.std.specs.Fmt.{digits, decimal}
use Rattle.std.proofs.lemmas.Bool.{lt-ltb}
use Rattle.std.proofs.lemmas.Str.{IsAscii-append}
use Rattle.std.proofs.lemmas.Bool.Decides.{nat_tests}
use Rattle.std.proofs.lemmas.Fmt.{digits_is_IsNumeral, decimal_is_IsNumeral}
use Rattle.dart_syntax.specs.declared.token.TokenKind.{TokenKind}
use Rattle.dart_syntax.specs.declared.token.TokenKind.TheVariants as tk
use Rattle.dart_syntax.specs.declared.byte_kind.ByteKind.TheVariants as byte
use Rattle.dart_syntax.specs.Bytes.{Text, is_in, first, Run}
use Rattle.dart_syntax.specs.Bytes as by
use Rattle.dart_syntax.specs.Numbers.{hex_value, value_from, value, decimal_kind, hex_kind}
use Rattle.dart_syntax.specs.Tokens.{inside, is_blank, is_hex, starts_x, is_x}
use Rattle.dart_syntax.specs.Tokens as to
use Rattle.dart_syntax.specs.Text.{word, int_text}
use Rattle.dart_printer.specs.ReadsBack.{IsPossible}
use Rattle.dart_printer.proofs.Lists.{one}
use Rattle.dart_printer.proofs.Cuts.{cut_one, Closed, blank_is}
use Rattle.dart_printer.proofs.Marks.{closed_word, ascii_is}

-- ---- digits

some_is : {x y : ℕ} → ◌≡◌ {A = Option ℕ} (Some x) (Some y) → x ≡ y
some_is e = cc

decimal_digit : (c : ℕ) → digit_value c < 10 → (is_in byte.Digit c ≡ true) × (hex_value c ≡ digit_value c) × (is_x c ≡ false) × (c < 128)
decimal_digit c h = (grind (arith, nat_tests), grind (arith, nat_tests), grind (arith, nat_tests), grind (arith, nat_tests))

hex_digit : (c : ℕ) → digit_value c < 16 → (is_in byte.Hex c ≡ true) × (hex_value c ≡ digit_value c) × (c < 128)
hex_digit c h = (grind (arith, nat_tests), grind (arith, nat_tests), grind (arith, nat_tests))

digit_run : (o : Option ℕ) (b : ℕ) → is_blank o b ≡ true → (ds rest : Text) → AllDigits 10 ds → Run (is_in byte.Digit) (ds ++ b ∷ rest) ds (b ∷ rest)
digit_run o b blank [] rest h = by.Run.stop (λ a e. let same : b ≡ a = some_is e in subst (λ c. is_in byte.Digit c ≡ false) same (blank_is (λ c. is_in byte.Digit c ≡ false) o b blank refl refl refl refl))
digit_run o b blank (d ∷ ds) rest h = by.Run.step (decimal_digit d h.0).0 (digit_run o b blank ds rest h.1)

hex_run : (o : Option ℕ) (b : ℕ) → is_blank o b ≡ true → (ds rest : Text) → AllDigits 16 ds → Run (is_in byte.Hex) (ds ++ b ∷ rest) ds (b ∷ rest)
hex_run o b blank [] rest h = by.Run.stop (λ a e. let same : b ≡ a = some_is e in subst (λ c. is_in byte.Hex c ≡ false) same (blank_is (λ c. is_in byte.Hex c ≡ false) o b blank refl refl refl refl))
hex_run o b blank (d ∷ ds) rest h = by.Run.step (hex_digit d h.0).0 (hex_run o b blank ds rest h.1)

decimal_value : (v : ℕ) (ds : Text) → AllDigits 10 ds → value_from 10 v ds ≡ digits_value_after 10 v ds
decimal_value v [] h = refl
decimal_value v (d ∷ ds) h = let e : 10 * v + hex_value d ≡ v * 10 + digit_value d = omega (arith, (decimal_digit d h.0).1) in rw e (decimal_value (v * 10 + digit_value d) ds h.1)

hexadecimal_value : (v : ℕ) (ds : Text) → AllDigits 16 ds → value_from 16 v ds ≡ digits_value_after 16 v ds
hexadecimal_value v [] h = refl
hexadecimal_value v (d ∷ ds) h = let e : 16 * v + hex_value d ≡ v * 16 + digit_value d = omega (arith, (hex_digit d h.0).1) in rw e (hexadecimal_value (v * 16 + digit_value d) ds h.1)

decimal_ascii : (ds : Text) → AllDigits 10 ds → IsAscii ds
decimal_ascii [] h i = omega arith
decimal_ascii (d ∷ ds) h zero = (decimal_digit d h.0).3
decimal_ascii (d ∷ ds) h (suc i) = decimal_ascii ds h.1 i

hex_ascii : (ds : Text) → AllDigits 16 ds → IsAscii ds
hex_ascii [] h i = omega arith
hex_ascii (d ∷ ds) h zero = (hex_digit d h.0).2
hex_ascii (d ∷ ds) h (suc i) = hex_ascii ds h.1 i

-- ---- decimals

no_x : (o : Option ℕ) (b : ℕ) → is_blank o b ≡ true → (a : ℕ) (ds rest : Text) → AllDigits 10 ds → is_hex a (ds ++ b ∷ rest) ≡ false
no_x o b blank a [] rest h = rw (blank_is (λ c. is_x c ≡ false) o b blank refl refl refl refl) (and_false (a == 48))
  where
    and_false : (p : Bool) → (p && false) ≡ false
    and_false true = refl
    and_false false = refl
no_x o b blank a (d ∷ ds) rest h = rw (decimal_digit d h.0).2 (and_false (a == 48))
  where
    and_false : (p : Bool) → (p && false) ≡ false
    and_false true = refl
    and_false false = refl

decimal_word : (ds : Text) (k : TokenKind) → IsNumeral 10 ds → decimal_kind (value 10 ds) ≡ Some k → Closed (word ds) (one k)
decimal_word [] k h e = absurd (omega (arith, h.0))
decimal_word (d ∷ ds) k h e = closed_word (d ∷ ds) k (decimal_ascii (d ∷ ds) h.1) (λ n o b rest blank.
    cut_one k _ (to.Takes.decimal (decimal_digit d h.1.0).0 (no_x (inside o) b blank d ds rest h.1.1) (digit_run (inside o) b blank ds rest h.1.1) e))

small_kind : (n : ℕ) → n < 2 ^ 63 → decimal_kind n ≡ Some (tk.Int (pos n))
unfolding decimal_kind
small_kind n h = rw (lt-ltb n (2 ^ 63) h)

pos_word : (n : ℕ) → n < 2 ^ 63 → Closed (word (decimal n)) (one (tk.Int (pos n)))
pos_word n h = let x = decimal_is_IsNumeral n (omega arith) in
    let same : value 10 (decimal n) ≡ n = decimal_value 0 (decimal n) x.0.1 ∙ x.1 in
    decimal_word (decimal n) (tk.Int (pos n)) x.0 (rw same (small_kind n h))

pub least_word : Closed (word (codes "9223372036854775808")) (one tk.MinInt)
unfolding decimal_kind
least_word = decimal_word (codes "9223372036854775808") tk.MinInt (omega arith, (omega arith, (omega arith, (omega arith, (omega arith, (omega arith, (omega arith, (omega arith, (omega arith, (omega arith, (omega arith, (omega arith, (omega arith, (omega arith, (omega arith, (omega arith, (omega arith, (omega arith, (omega arith, (omega arith, tt)))))))))))))))))))) refl

-- ---- hexadecimals

wide_kind : (n : ℕ) → n < 2 ^ 63 → hex_kind (18446744073709551615 - n) ≡ Some (tk.Int (negsuc n))
unfolding hex_kind
wide_kind n h = grind (arith, nat_tests)

negsuc_word : (n : ℕ) → n < 2 ^ 63 → Closed (word (codes "0x" ++ digits 16 true (18446744073709551615 - n))) (one (tk.Int (negsuc n)))
negsuc_word n h = let ds = digits 16 true (18446744073709551615 - n) in
    let x = digits_is_IsNumeral 16 true (omega arith) (omega arith) (18446744073709551615 - n) (omega arith) in
    let same : value 16 ds ≡ 18446744073709551615 - n = hexadecimal_value 0 ds x.0.1 ∙ x.1 in
    closed_word (48 ∷ 120 ∷ ds) (tk.Int (negsuc n)) (IsAscii-append (codes "0x") ds (ascii_is (codes "0x") refl) (hex_ascii ds x.0.1)) (λ m o b rest blank.
    cut_one (tk.Int (negsuc n)) _ (to.Takes.hexadecimal refl (hex_run (inside o) b blank ds rest x.0.1) x.0.0 (rw same (wide_kind n h))))

pub int_word : (n : ℤ) → IsPossible (tk.Int n) → Closed (word (int_text n)) (one (tk.Int n))
int_word (pos n) h = pos_word n h
int_word (negsuc n) h = negsuc_word n h

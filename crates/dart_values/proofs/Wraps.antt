-- Quotients and negations in 64 bits.
use Rattle.std.proofs.Common.{◌≡◌, ℕ, zero, suc, ◌-◌, ◌%◌, ◌^◌, ◌<◌, ◌≤◌, false, ℤ, pos, negsuc, neg_ℤ, refl, ap, arith, w64, to_z, of_z, Ok, Result}
use Rattle.std.specs.Int.{int_wrap, int_wrapping_div, int_wrapping_neg}
use Rattle.std.specs.Int.Signed.{mag, quot_z}
use Rattle.std.proofs.lemmas.Int.{to_z-of_z, wrapping_neg_is}
use Rattle.std.proofs.lemmas.Bool.Decides.{nat_tests}
use mir.Val.{SFits}
use Rattle.dart_values.specs.declared.fault.Trap.{Trap}
use Rattle.dart_values.specs.Numbers.{eq_int, wrap, quotient}

-- what fits 64 bits with its sign aside is wrapped by its bits
pub wrap_by_bits : (z : ℤ) → mag z < 2 ^ 64 → to_z w64 (of_z w64 z) ≡ int_wrap w64 z
unfolding int_wrap
wrap_by_bits (pos n) h = let e : n ≡ n % 18446744073709551616 = omega arith in ap (to_z w64) e
wrap_by_bits (negsuc n) h = let e : 18446744073709551616 - suc n ≡ 18446744073709551615 - n % 18446744073709551616 = omega arith in ap (to_z w64) e

mag_neg : (n : ℕ) → mag (neg_ℤ (pos n)) ≤ n
mag_neg zero = omega arith
mag_neg (suc n) = omega arith

pub mag_quotient : (x y : ℤ) → mag (quot_z x y) ≤ suc (mag x)
mag_quotient (pos a) (pos b) = omega arith
mag_quotient (pos a) (negsuc b) = omega (arith, mag_neg (Prim.Native.Nat.◌/◌ a (suc b)))
mag_quotient (negsuc a) (pos b) = omega (arith, mag_neg (Prim.Native.Nat.◌/◌ (suc a) b))
mag_quotient (negsuc a) (negsuc b) = omega arith

pub not_zero : (y : ℤ) → (of_z w64 y ≡ 0 → ⊥) → eq_int y (pos 0) ≡ false
not_zero (pos zero) h = absurd (h refl)
not_zero (pos (suc n)) h = grind (arith, nat_tests)
not_zero (negsuc n) h = refl

pub quotient_is : (x y z : ℤ) → (of_z w64 y ≡ 0 → ⊥) → SFits w64 x → SFits w64 y → SFits w64 z → z ≡ int_wrapping_div w64 (to_z w64 (of_z w64 x)) (to_z w64 (of_z w64 y))
    → ◌≡◌ {A = Result ℤ Trap} (Ok (to_z w64 (of_z w64 z))) (quotient x y)
quotient_is x y z h fx fy fz e =
    rw (to_z-of_z w64 z fz, not_zero y h, e, to_z-of_z w64 x fx, to_z-of_z w64 y fy)
    (ap Ok (wrap_by_bits (quot_z x y) (omega (arith, mag_quotient x y, fx.sfits))))

pub negated : (x z : ℤ) → SFits w64 x → SFits w64 z → z ≡ int_wrapping_neg w64 (to_z w64 (of_z w64 x)) → to_z w64 (of_z w64 z) ≡ wrap (neg_ℤ x)
negated x z fx fz e = rw (to_z-of_z w64 z fz, e, to_z-of_z w64 x fx) (wrapping_neg_is w64 x fx)

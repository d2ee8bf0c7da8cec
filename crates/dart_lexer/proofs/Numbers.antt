use Rattle.std.proofs.Common.{ℕ, zero, suc, ◌+◌, ◌*◌, ◌^◌, ◌<◌, ◌≤◌, [], ◌∷◌, length, drop, get_or, arith}
use Rattle.std.proofs.Math.Nat.{mul-le-mul_right}
use Rattle.dart_syntax.specs.Bytes.{Text}
use Rattle.dart_syntax.specs.Numbers.{hex_value, value_from}

pub value_grows : (base v : ℕ) (ds : Text) → 1 ≤ base → v ≤ value_from base v ds
value_grows base v [] h = omega arith
value_grows base v (b ∷ bs) h =
    let more : base * v + hex_value b ≤ value_from base (base * v + hex_value b) bs = value_grows base (base * v + hex_value b) bs h in
    let at_least : 1 * v ≤ base * v = mul-le-mul_right v h in
    omega arith

-- what is too wide stays so
pub stays_wide : (base v i : ℕ) (ds : Text) → 1 ≤ base → i < length ds → 2 ^ 64 ≤ base * v + hex_value (get_or ds i 0) → 2 ^ 64 ≤ value_from base v (drop i ds)
stays_wide base v i [] h in_range wide = absurd (omega arith)
stays_wide base v zero (b ∷ bs) h in_range wide = let g = value_grows base (base * v + hex_value b) bs h in omega (arith, wide)
stays_wide base v (suc i) (b ∷ bs) h in_range wide = stays_wide base v i bs h (omega arith) wide

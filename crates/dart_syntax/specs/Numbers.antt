-- Integers.
use Rattle.std.specs.Prelude.{◌≡◌, ℕ, pos, negsuc, ◌+◌, ◌-◌, ◌*◌, ◌^◌, ◌≤◌, ◌==◌, nat_lt, nat_le, if◌then◌else◌, [], ◌∷◌, Option, Some, None}
use Rattle.dart_syntax.specs.declared.token.TokenKind.{TokenKind}
use Rattle.dart_syntax.specs.declared.token.TokenKind.TheVariants as tk
use Rattle.dart_syntax.specs.Bytes.{Text}

-- of a digit
abbrev pub hex_value : ℕ → ℕ
hex_value b = if nat_le b 57 then b - 48 else (if nat_le b 70 then b - 55 else b - 87)

-- the value of digits behind others of the value v
abbrev pub value_from : ℕ → ℕ → Text → ℕ
value_from base v [] = v
value_from base v (b ∷ bs) = value_from base (base * v + hex_value b) bs

-- what digits are worth in base 10 or 16, the highest digit first
abbrev pub value : ℕ → Text → ℕ
value base ds = value_from base 0 ds

-- an integer below 2 ^ 63; that value itself stands only behind a minus
unfoldable pub decimal_kind : ℕ → Option TokenKind
decimal_kind v = if nat_lt v (2 ^ 63) then Some (tk.Int (pos v)) else (if v == 2 ^ 63 then Some tk.MinInt else None)

-- an integer below 2 ^ 64, as 64-bit two's complement
unfoldable pub hex_kind : ℕ → Option TokenKind
hex_kind v = if nat_lt v (2 ^ 63) then Some (tk.Int (pos v)) else (if nat_lt v (2 ^ 64) then Some (tk.Int (negsuc (2 ^ 64 - 1 - v))) else None)

-- The value below 2 ^ 64, or None.
abbrev pub IsValue : ℕ → Option ℕ → Type 0
IsValue n None = 2 ^ 64 ≤ n
IsValue n (Some v) = v ≡ n

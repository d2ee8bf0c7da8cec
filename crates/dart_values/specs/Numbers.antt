-- What the members of bool and int give. Arithmetic is that of 64 bits, wrapped.
use Rattle.std.specs.Prelude.{ℕ, ◌^◌, ◌/◌, ℤ, pos, negsuc, neg_ℤ, ◌+ℤ◌, ◌-ℤ◌, ◌*ℤ◌, Bool, false, not, ◌&&◌, ◌||◌, if◌then◌else◌, nat_lt, int_lt, int_le, int_div, Result, Ok, Err}
use Rattle.std.specs.Int.{w64, int_wrap, int_rem_euclid, int_bit_and, int_bit_or, int_bit_xor, int_bit_not, int_shl, int_shr, cast_signed, cast_unsigned}
use Rattle.dart_values.specs.declared.fault.Trap.{Trap}
use Rattle.dart_values.specs.declared.fault.Trap.TheVariants as trap
use Rattle.dart_values.specs.declared.member.BoolOperator.{BoolOperator}
use Rattle.dart_values.specs.declared.member.BoolOperator.TheVariants as b
use Rattle.dart_values.specs.declared.member.IntOperator.{IntOperator}
use Rattle.dart_values.specs.declared.member.IntOperator.TheVariants as i
use Rattle.dart_values.specs.declared.member.IntMember.{IntMember}
use Rattle.dart_values.specs.declared.member.IntMember.TheVariants as n
use Rattle.dart_values.specs.Values.{Value, bool, num, and_then}

-- bool, with a bool
abbrev pub bool_with : BoolOperator → Bool → Bool → Bool
bool_with b.And x y = x && y
bool_with b.Or x y = x || y
bool_with b.Xor x y = if x then not y else y

-- two integers are equal
abbrev pub eq_int : ℤ → ℤ → Bool
eq_int x y = int_le x y && int_le y x

-- an integer as 64 bits with a sign
abbrev pub wrap : ℤ → ℤ
wrap = int_wrap w64

-- towards zero
abbrev pub quotient : ℤ → ℤ → Result ℤ Trap
quotient x y = if eq_int y (pos 0) then Err trap.DivideByZero else Ok (wrap (int_div x y))

-- from 0 to |y| - 1
abbrev pub remainder : ℤ → ℤ → Result ℤ Trap
remainder x y = if eq_int y (pos 0) then Err trap.DivideByZero else Ok (int_rem_euclid x y)

-- the count of a shift; a negative one is a trap
abbrev pub count_of : ℤ → Result ℕ Trap
count_of (pos n) = Ok n
count_of (negsuc n) = Err trap.NegativeShift

-- zeros come in, and from 64 on nothing is left
abbrev pub shift_left : ℤ → ℕ → ℤ
shift_left x n = if nat_lt n 64 then int_shl w64 x n else pos 0

-- the sign comes in
abbrev pub shift_right : ℤ → ℕ → ℤ
shift_right x n = if nat_lt n 64 then int_shr x n else (if int_lt x (pos 0) then negsuc 0 else pos 0)

-- zeros come in
abbrev pub shift_unsigned : ℤ → ℕ → ℤ
shift_unsigned x n = if nat_lt n 64 then cast_signed w64 (cast_unsigned w64 x / 2 ^ n) else pos 0

-- the value of an integer that was found, or the trap
abbrev pub number : Result ℤ Trap → Result Value Trap
number (Ok z) = Ok (num z)
number (Err t) = Err t

-- a shift by a count, which is not negative
abbrev pub shifted : ℤ → (ℕ → ℤ) → Result ℤ Trap
shifted y shift = and_then (count_of y) (λ n. Ok (shift n))

-- int, with an int
abbrev pub int_with : IntOperator → ℤ → ℤ → Result Value Trap
int_with i.Add x y = Ok (num (wrap (x +ℤ y)))
int_with i.Subtract x y = Ok (num (wrap (x -ℤ y)))
int_with i.Multiply x y = Ok (num (wrap (x *ℤ y)))
int_with i.Divide x y = number (quotient x y)
int_with i.Remainder x y = number (remainder x y)
int_with i.And x y = Ok (num (int_bit_and w64 x y))
int_with i.Or x y = Ok (num (int_bit_or w64 x y))
int_with i.Xor x y = Ok (num (int_bit_xor w64 x y))
int_with i.ShiftLeft x y = number (shifted y (shift_left x))
int_with i.ShiftRight x y = number (shifted y (shift_right x))
int_with i.ShiftUnsigned x y = number (shifted y (shift_unsigned x))
int_with i.Less x y = Ok (bool (int_lt x y))
int_with i.LessEqual x y = Ok (bool (int_le x y))
int_with i.Greater x y = Ok (bool (int_lt y x))
int_with i.GreaterEqual x y = Ok (bool (int_le y x))

-- a value of another class is not equal
abbrev pub is_int : ℤ → Value → Bool
is_int x (num y) = eq_int x y
is_int x _ = false

-- int alone, or with any value
abbrev pub int_member : IntMember → ℤ → Value → Value
int_member n.Equals x v = bool (is_int x v)
int_member n.Negate x v = num (wrap (neg_ℤ x))
int_member n.Complement x v = num (int_bit_not w64 x)
int_member n.IsEven x v = bool (eq_int (int_rem_euclid x (pos 2)) (pos 0))
int_member n.IsOdd x v = bool (eq_int (int_rem_euclid x (pos 2)) (pos 1))

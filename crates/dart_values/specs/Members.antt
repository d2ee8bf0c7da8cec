-- The 49 built-in members, in the order of their numbers.
use Rattle.std.specs.Prelude.{ℕ, List, [], ◌∷◌, Bool, true, false, slice_get, option_map, unwrap_or}
use Rattle.dart_values.specs.declared.member.Member.{Member}
use Rattle.dart_values.specs.declared.member.Member.TheVariants.{Object, NullToString, BoolWith, BoolToString, IntWith, Int, IntToString, String, List as ListOf, ListToString, Invocation}
use Rattle.dart_values.specs.declared.member.ObjectMember.TheVariants as object
use Rattle.dart_values.specs.declared.member.BoolOperator.TheVariants as bool
use Rattle.dart_values.specs.declared.member.IntOperator.TheVariants as int
use Rattle.dart_values.specs.declared.member.IntMember.TheVariants as number
use Rattle.dart_values.specs.declared.member.StringMember.{StringMember}
use Rattle.dart_values.specs.declared.member.StringMember.TheVariants as string
use Rattle.dart_values.specs.declared.member.ListMember.{ListMember}
use Rattle.dart_values.specs.declared.member.ListMember.TheVariants as list
use Rattle.dart_values.specs.declared.member.InvocationMember.TheVariants as invocation

-- what each member is, by its number from 0 to 48
abbrev pub members : List Member
members =
    Object object.Equals ∷ Object object.ToString ∷ Object object.NoSuchMethod
    ∷ NullToString
    ∷ BoolWith bool.And ∷ BoolWith bool.Or ∷ BoolWith bool.Xor ∷ BoolToString
    ∷ IntWith int.Add ∷ IntWith int.Subtract ∷ IntWith int.Multiply ∷ IntWith int.Divide ∷ IntWith int.Remainder
    ∷ IntWith int.And ∷ IntWith int.Or ∷ IntWith int.Xor ∷ IntWith int.ShiftLeft ∷ IntWith int.ShiftRight ∷ IntWith int.ShiftUnsigned
    ∷ IntWith int.Less ∷ IntWith int.LessEqual ∷ IntWith int.Greater ∷ IntWith int.GreaterEqual
    ∷ Int number.Equals ∷ Int number.Negate ∷ Int number.Complement ∷ IntToString ∷ Int number.IsEven ∷ Int number.IsOdd
    ∷ String string.Concat ∷ String string.Equals ∷ String string.UnitAt ∷ String string.Length ∷ String string.IsEmpty
    ∷ String string.ToString ∷ String string.CodeUnitAt ∷ String string.Substring
    ∷ ListOf list.ElementAt ∷ ListOf list.SetElement ∷ ListOf list.Length ∷ ListOf list.IsEmpty ∷ ListOf list.Add ∷ ListOf list.RemoveLast ∷ ListToString
    ∷ Invocation invocation.MemberName ∷ Invocation invocation.PositionalArguments
    ∷ Invocation invocation.IsMethod ∷ Invocation invocation.IsGetter ∷ Invocation invocation.IsSetter
    ∷ []

-- How many arguments each takes.

-- of a member of String
abbrev pub string_arity : StringMember → ℕ
string_arity string.Concat = 1
string_arity string.Equals = 1
string_arity string.UnitAt = 1
string_arity string.Length = 0
string_arity string.IsEmpty = 0
string_arity string.ToString = 0
string_arity string.CodeUnitAt = 1
string_arity string.Substring = 2

-- of List
abbrev pub list_arity : ListMember → ℕ
list_arity list.ElementAt = 1
list_arity list.SetElement = 2
list_arity list.Length = 0
list_arity list.IsEmpty = 0
list_arity list.Add = 1
list_arity list.RemoveLast = 0

-- of a member of any class
abbrev pub arity : Member → ℕ
arity (Object object.Equals) = 1
arity (Object object.ToString) = 0
arity (Object object.NoSuchMethod) = 1
arity NullToString = 0
arity (BoolWith op) = 1
arity BoolToString = 0
arity (IntWith op) = 1
arity (Int number.Equals) = 1
arity (Int _) = 0
arity IntToString = 0
arity (String m) = string_arity m
arity (ListOf m) = list_arity m
arity ListToString = 0
arity (Invocation m) = 0

-- the members of bool and int but `toString`
abbrev pub takes_no_memory : Member → Bool
takes_no_memory (BoolWith op) = true
takes_no_memory (IntWith op) = true
takes_no_memory (Int m) = true
takes_no_memory _ = false

-- built-in member number n gives its value without any memory
abbrev pub is_free : ℕ → Bool
is_free n = unwrap_or (option_map takes_no_memory (slice_get members n)) false

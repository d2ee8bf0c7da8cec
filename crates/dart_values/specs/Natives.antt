-- What each built-in member gives, by class. An argument of another kind is a TypeFault, and it is tested before range, zero and sign.
-- `self` is the receiver, and `v` and `w` are the arguments.
use Rattle.std.specs.Prelude.{ℕ, ◌-◌, ℤ, pos, negsuc, Bool, true, false, ◌&&◌, not, if◌then◌else◌, nat_eq, nat_lt, nat_le, List, [], ◌∷◌, ◌++◌, length, take, drop, slice_get, slice_set, slice_index, slice_index_or, Option, None, Some, Result, Ok, Err, codes}
use Rattle.std.specs.Fmt.{signed_decimal}
use Rattle.std.specs.Str.{bytes_eq}
use Rattle.program.specs.declared.numbered.SelectorKind.{SelectorKind}
use Rattle.program.specs.declared.numbered.SelectorKind.TheVariants.{Call, Get, Set}
use Rattle.program.specs.Lookup.{same_kind}
use Rattle.dart_values.specs.declared.fault.Trap.{Trap}
use Rattle.dart_values.specs.declared.fault.Trap.TheVariants as trap
use Rattle.dart_values.specs.declared.member.Member.{Member}
use Rattle.dart_values.specs.declared.member.Member.TheVariants as of
use Rattle.dart_values.specs.declared.member.ObjectMember.{ObjectMember}
use Rattle.dart_values.specs.declared.member.ObjectMember.TheVariants as o
use Rattle.dart_values.specs.declared.member.StringMember.{StringMember}
use Rattle.dart_values.specs.declared.member.StringMember.TheVariants as s
use Rattle.dart_values.specs.declared.member.ListMember.{ListMember}
use Rattle.dart_values.specs.declared.member.ListMember.TheVariants as l
use Rattle.dart_values.specs.declared.member.InvocationMember.{InvocationMember}
use Rattle.dart_values.specs.declared.member.InvocationMember.TheVariants as i
use Rattle.dart_values.specs.Values.{Text, Value, null, bool, num, text, at, Thing, list, invocation, Heap, class_of, Given, gives, traps, kept, and_then, given_from, need_bool, need_int, need_text}
use Rattle.dart_values.specs.Numbers.{eq_int, bool_with, int_with, int_member}
use Rattle.dart_values.specs.Members.{members, arity}

-- Object

-- identity; by value for null, bools and integers, and for strings, which have no address
abbrev pub same_value : Value → Value → Bool
same_value null null = true
same_value (bool x) (bool y) = if x then y else not y
same_value (num x) (num y) = eq_int x y
same_value (text x) (text y) = bytes_eq x y
same_value (at x) (at y) = nat_eq x y
same_value _ _ = false

-- the `toString` of an object whose class has none of its own
abbrev pub instance_text : Text → Text
instance_text name = codes "Instance of '" ++ name ++ codes "'"

-- what stands at the address that a value is
abbrev pub thing_at : Heap → Value → Option Thing
thing_at heap (at a) = slice_get heap a
thing_at heap _ = None

-- what Object's `noSuchMethod` ends in: it names the member that was called, and takes nothing but an Invocation
abbrev pub missing : Option Thing → Trap
missing (Some (invocation name arguments kind)) = trap.NoSuchMethod name
missing _ = trap.TypeFault

-- `names` gives the name of a class
abbrev pub object_member : (ℕ → Text) → ObjectMember → Heap → Value → Value → Given
object_member names o.Equals heap self v = gives heap (bool (same_value self v))
object_member names o.ToString heap self v = gives heap (text (instance_text (names (class_of heap self))))
object_member names o.NoSuchMethod heap self v = traps (missing (thing_at heap v))

-- bool

-- a bool as it is written
abbrev pub bool_text : Bool → Text
bool_text true = codes "true"
bool_text false = codes "false"

-- String

-- an integer as an index below n, or a RangeFault
abbrev pub place_in : ℕ → ℤ → Result ℕ Trap
place_in n (pos i) = if nat_lt i n then Ok i else Err trap.RangeFault
place_in n (negsuc i) = Err trap.RangeFault

-- an index: an int from 0 to n - 1
abbrev pub index_in : ℕ → Value → Result ℕ Trap
index_in n v = and_then (need_int v) (place_in n)

-- the value is a string of these units
abbrev pub is_text : Text → Value → Bool
is_text units (text u) = bytes_eq units u
is_text units _ = false

-- 0 ≤ a ≤ b ≤ length
abbrev pub cut : Text → ℤ → ℤ → Result Text Trap
cut units (pos a) (pos b) = if nat_le a b && nat_le b (length units) then Ok (take (b - a) (drop a units)) else Err trap.RangeFault
cut units _ _ = Err trap.RangeFault

-- the value of a string that was found, or the trap
abbrev pub of_text : Result Text Trap → Result Value Trap
of_text (Ok units) = Ok (text units)
of_text (Err t) = Err t

-- what a member of String gives, whose units these are
abbrev pub string_member : StringMember → Text → Value → Value → Result Value Trap
string_member s.Concat units v w = and_then (need_text v) (λ u. Ok (text (units ++ u)))
string_member s.Equals units v w = Ok (bool (is_text units v))
string_member s.UnitAt units v w = and_then (index_in (length units) v) (λ k. Ok (text (slice_index units k ∷ [])))
string_member s.Length units v w = Ok (num (pos (length units)))
string_member s.IsEmpty units v w = Ok (bool (nat_eq (length units) 0))
string_member s.ToString units v w = Ok (text units)
string_member s.CodeUnitAt units v w = and_then (index_in (length units) v) (λ k. Ok (num (pos (slice_index units k))))
string_member s.Substring units v w = and_then (need_int v) (λ a. and_then (need_int w) (λ b. of_text (cut units a b)))

-- List

-- the elements of a list, or a TypeFault
abbrev pub list_items : Option Thing → Result (List Value) Trap
list_items (Some (list items)) = Ok items
list_items _ = Err trap.TypeFault

-- the elements of the list that a value is, or a TypeFault
abbrev pub need_list : Heap → Value → Result (List Value) Trap
need_list heap v = list_items (thing_at heap v)

-- the address of an object, a list or an Invocation
abbrev pub address : Value → ℕ
address (at a) = a
address _ = 0

-- the list has these items now
abbrev pub with_items : Heap → Value → List Value → Heap
with_items heap self items = slice_set heap (address self) (list items)

-- element k, from 0
abbrev pub item : List Value → ℕ → Value
item items k = slice_index_or items k null

-- what `removeLast` gives: the list without its last element, and that element
abbrev pub without_last : Heap → Value → List Value → Given
without_last heap self items =
    if nat_eq (length items) 0 then traps trap.RangeFault
    else gives (with_items heap self (take (length items - 1) items)) (item items (length items - 1))

-- what a member of List gives, where `self` has these elements
abbrev pub list_member : ListMember → Heap → Value → List Value → Value → Value → Given
list_member l.ElementAt heap self items v w = given_from (index_in (length items) v) (λ k. gives heap (item items k))
list_member l.SetElement heap self items v w = given_from (index_in (length items) v) (λ k. gives (with_items heap self (slice_set items k w)) null)
list_member l.Length heap self items v w = gives heap (num (pos (length items)))
list_member l.IsEmpty heap self items v w = gives heap (bool (nat_eq (length items) 0))
list_member l.Add heap self items v w = gives (with_items heap self (items ++ v ∷ [])) null
list_member l.RemoveLast heap self items v w = without_last heap self items

-- Invocation

-- what a member of Invocation gives, from what the Invocation holds
abbrev pub invocation_member : InvocationMember → Text → Value → SelectorKind → Value
invocation_member i.MemberName name arguments kind = text name
invocation_member i.PositionalArguments name arguments kind = arguments
invocation_member i.IsMethod name arguments kind = bool (same_kind kind Call)
invocation_member i.IsGetter name arguments kind = bool (same_kind kind Get)
invocation_member i.IsSetter name arguments kind = bool (same_kind kind Set)

-- the same, where `self` has to be an Invocation
abbrev pub of_invocation : InvocationMember → Option Thing → Result Value Trap
of_invocation m (Some (invocation name arguments kind)) = Ok (invocation_member m name arguments kind)
of_invocation m _ = Err trap.TypeFault

-- All members. What a list's text is takes calls, and is not said here.

-- what a member gives, by its class; `names` gives the name of a class
abbrev pub member_gives : (ℕ → Text) → Member → Heap → Value → Value → Value → Given
member_gives names (of.Object m) heap self v w = object_member names m heap self v
member_gives names of.NullToString heap self v w = gives heap (text (codes "null"))
member_gives names (of.BoolWith op) heap self v w = kept heap (and_then (need_bool self) (λ x. and_then (need_bool v) (λ y. Ok (bool (bool_with op x y)))))
member_gives names of.BoolToString heap self v w = kept heap (and_then (need_bool self) (λ x. Ok (text (bool_text x))))
member_gives names (of.IntWith op) heap self v w = kept heap (and_then (need_int self) (λ x. and_then (need_int v) (int_with op x)))
member_gives names (of.Int m) heap self v w = kept heap (and_then (need_int self) (λ x. Ok (int_member m x v)))
member_gives names of.IntToString heap self v w = kept heap (and_then (need_int self) (λ x. Ok (text (signed_decimal x))))
member_gives names (of.String m) heap self v w = kept heap (and_then (need_text self) (λ units. string_member m units v w))
member_gives names (of.List m) heap self v w = given_from (need_list heap self) (λ items. list_member m heap self items v w)
member_gives names of.ListToString heap self v w = traps trap.TypeFault
member_gives names (of.Invocation m) heap self v w = kept heap (of_invocation m (thing_at heap self))

-- Each takes its number of arguments. Another number is a TypeFault, but no call of a program has it.
abbrev pub native_by : (ℕ → Text) → Option Member → Heap → Value → List Value → Given
native_by names (Some m) heap self args =
    if nat_eq (length args) (arity m) then member_gives names m heap self (slice_index_or args 0 null) (slice_index_or args 1 null) else traps trap.TypeFault
native_by names None heap self args = traps trap.TypeFault

-- built-in member number n
abbrev pub native : (ℕ → Text) → ℕ → Heap → Value → List Value → Given
native names n heap self args = native_by names (slice_get members n) heap self args

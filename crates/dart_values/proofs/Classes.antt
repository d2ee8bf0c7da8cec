-- A built-in member leaves every thing its class.
use Rattle.std.proofs.Common.{◌≡◌, ℕ, Bool, true, false, List, [], ◌∷◌, ◌++◌, length, slice_get, slice_set, Option, Some, None, Result, Ok, Err, refl, sym, ap, subst, nat_eq}
use Rattle.std.specs.Prelude.{if◌then◌else◌}
use Rattle.std.specs.Fmt.{signed_decimal}
use Rattle.std.proofs.lemmas.Option.{get_or_from_slice_get}
use Rattle.std.proofs.Math.Seq.{map-set_same}
use Rattle.dart_values.specs.declared.fault.Fault.{Fault}
use Rattle.dart_values.specs.declared.fault.Trap.{Trap}
use Rattle.dart_values.specs.declared.fault.Trap.TheVariants as trap
use Rattle.dart_values.specs.declared.value.Value as v
use Rattle.dart_values.specs.declared.member.Member.{Member}
use Rattle.dart_values.specs.declared.member.Member.TheVariants as of
use Rattle.dart_values.specs.declared.member.ObjectMember.TheVariants as o
use Rattle.dart_values.specs.declared.member.ListMember.{ListMember}
use Rattle.dart_values.specs.declared.member.ListMember.TheVariants as l
use Rattle.dart_values.specs.Values.{Text, Value, null, bool, num, text, at, Thing, object, list, invocation, Heap, thing_class, classes, Given, gives, traps, kept, given_from, and_then, need_bool, need_int, need_text}
use Rattle.dart_values.specs.Numbers.{bool_with, int_with, int_member}
use Rattle.dart_values.specs.Natives.{thing_at, bool_text, string_member, list_items, with_items, item, index_in, list_member, of_invocation, member_gives}
use Rattle.dart_values.specs.Store.{Store, heap_of}
use Rattle.dart_values.specs.Doing.{Does}

-- what is given has things of the same classes
abbrev pub KeepsClasses : Heap → Given → Type 0
KeepsClasses heap (gives new v) = classes new ≡ classes heap
KeepsClasses heap (traps t) = Unit {0}

module _ (heap : Heap) where
  kept_keeps : (r : Result Value Trap) → KeepsClasses heap (kept heap r)
  kept_keeps (Ok v) = refl
  kept_keeps (Err t) = tt

  from_keeps : {A : Type 0} (r : Result A Trap) (f : A → Given) → ((a : A) → KeepsClasses heap (f a)) → KeepsClasses heap (given_from r f)
  from_keeps (Ok a) f h = h a
  from_keeps (Err t) f h = tt

  if_keeps : (b : Bool) (x y : Given) → KeepsClasses heap x → KeepsClasses heap y → KeepsClasses heap (if b then x else y)
  if_keeps true x y h g = h
  if_keeps false x y h g = g

  list_kept : (a : ℕ) (items new : List Value) → slice_get heap a ≡ Some (list items) → classes (slice_set heap a (list new)) ≡ classes heap
  list_kept a items new e =
      map-set_same thing_class heap a (list new) (list items) (ap thing_class (sym (get_or_from_slice_get heap a (list items) (list items) e)))

  list_keeps : (m : ListMember) (a : ℕ) (items : List Value) (v w : Value) → slice_get heap a ≡ Some (list items) → KeepsClasses heap (list_member m heap (at a) items v w)
  list_keeps l.ElementAt a items v w e = from_keeps (index_in (length items) v) (λ k. gives heap (item items k)) (λ k. refl)
  list_keeps l.SetElement a items v w e =
      from_keeps (index_in (length items) v) (λ k. gives (with_items heap (at a) (slice_set items k w)) null) (λ k. list_kept a items (slice_set items k w) e)
  list_keeps l.Length a items v w e = refl
  list_keeps l.IsEmpty a items v w e = refl
  list_keeps l.Add a items v w e = list_kept a items (items ++ v ∷ []) e
  list_keeps l.RemoveLast a items v w e =
      if_keeps (nat_eq (length items) 0) (traps trap.RangeFault) _ tt (list_kept a items _ e)

  of_list : (m : ListMember) (a : ℕ) (v w : Value) (t : Option Thing) → slice_get heap a ≡ t → KeepsClasses heap (given_from (list_items t) (λ items. list_member m heap (at a) items v w))
  of_list m a v w None e = tt
  of_list m a v w (Some (object class fields)) e = tt
  of_list m a v w (Some (list items)) e = list_keeps m a items v w e
  of_list m a v w (Some (invocation name arguments kind)) e = tt

  any_list : (m : ListMember) (self v w : Value) → KeepsClasses heap (given_from (list_items (thing_at heap self)) (λ items. list_member m heap self items v w))
  any_list m null v w = tt
  any_list m (bool _) v w = tt
  any_list m (num _) v w = tt
  any_list m (text _) v w = tt
  any_list m (at a) v w = of_list m a v w (slice_get heap a) refl

  pub member_keeps : (names : ℕ → Text) (m : Member) (self v w : Value) → KeepsClasses heap (member_gives names m heap self v w)
  member_keeps names (of.Object o.Equals) self v w = refl
  member_keeps names (of.Object o.ToString) self v w = refl
  member_keeps names (of.Object o.NoSuchMethod) self v w = tt
  member_keeps names of.NullToString self v w = refl
  member_keeps names (of.BoolWith op) self v w = kept_keeps (and_then (need_bool self) (λ x. and_then (need_bool v) (λ y. Ok (bool (bool_with op x y)))))
  member_keeps names of.BoolToString self v w = kept_keeps (and_then (need_bool self) (λ x. Ok (text (bool_text x))))
  member_keeps names (of.IntWith op) self v w = kept_keeps (and_then (need_int self) (λ x. and_then (need_int v) (int_with op x)))
  member_keeps names (of.Int m) self v w = kept_keeps (and_then (need_int self) (λ x. Ok (int_member m x v)))
  member_keeps names of.IntToString self v w = kept_keeps (and_then (need_int self) (λ x. Ok (text (signed_decimal x))))
  member_keeps names (of.String m) self v w = kept_keeps (and_then (need_text self) (λ units. string_member m units v w))
  member_keeps names (of.List m) self v w = any_list m self v w
  member_keeps names of.ListToString self v w = tt
  member_keeps names (of.Invocation m) self v w = kept_keeps (of_invocation m (thing_at heap self))

pub does_keeps : (old new : Store) (given : Given) (r : Result v.Value Fault) → Does old new given r → KeepsClasses (heap_of old) given → classes (heap_of new) ≡ classes (heap_of old)
does_keeps old new given (Ok v) d h = subst (KeepsClasses (heap_of old)) d.answers h
does_keeps old new given (Err f) d h = ap (λ s. classes (heap_of s)) d.err

-- A member with its number of arguments gives what its class says.
use Rattle.std.proofs.Common.{◌≡◌, ℕ, true, List, length, get_or, Some, slice_get, refl, ◌∙◌, eq-eqb, nat_eq}
use Rattle.std.proofs.lemmas.List.{length-map}
use Rattle.std.proofs.Math.ListN.{get_or-map}
use Rattle.dart_values.specs.declared.member.Member.{Member}
use Rattle.dart_values.specs.declared.value.Value.{Value}
use Rattle.dart_values.specs.declared.value.Value.TheVariants.{Null}
use Rattle.dart_values.specs.Values.{Text}
use Rattle.dart_values.specs.Members.{members, arity}
use Rattle.dart_values.specs.Natives.{native, member_gives}
use Rattle.dart_values.specs.Store.{Store, value_in, value_of, values_of, heap_of}

pub native_is : (names : ℕ → Text) (id : ℕ) (s : Store) (self : Value) (args : List Value) (m : Member) → slice_get members id ≡ Some m → length args ≡ arity m
    → native names id (heap_of s) (value_of s self) (values_of s args) ≡ member_gives names m (heap_of s) (value_of s self) (value_of s (get_or args 0 Null)) (value_of s (get_or args 1 Null))
native_is names id s self args m e l =
    let n : nat_eq (length (values_of s args)) (arity m) ≡ true = eq-eqb (length (values_of s args)) (arity m) (length-map args (value_in s.texts) ∙ l) in
    rw (e, n, get_or-map (value_in s.texts) args 0 Null, get_or-map (value_in s.texts) args 1 Null) refl

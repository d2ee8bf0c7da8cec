-- What stands at an address.
use Rattle.std.proofs.Common.{◌≡◌, ℕ, ◌<◌, ◌≤◌, List, length, get_or, Some, slice_get, refl, sym, ◌∙◌, ap, subst}
use Rattle.std.specs.Prelude.{option_map}
use Rattle.std.proofs.lemmas.List.{length-map, get_or_past}
use Rattle.std.proofs.lemmas.Option.{slice_get-map, slice_get_read}
use Rattle.dart_values.specs.declared.value.Value.{Value}
use Rattle.dart_values.specs.declared.heap.Thing.{Thing}
use Rattle.dart_values.specs.Values.{null, at}
use Rattle.dart_values.specs.Reads.{object_fields, field_of}
use Rattle.dart_values.specs.Store.{Store, values_in, thing_in, heap_of, IsThing, IsWhole}

module _ (s : Store) (a : ℕ) (t : Thing) (within : a < length s.things) (is : t ≡ get_or s.things a t) where
  pub thing_is : IsWhole s → IsThing s t
  thing_is h = subst (λ u. IsThing s u) (sym is) (h a t within)

  pub thing_read : slice_get (heap_of s) a ≡ Some (thing_in s.texts t)
  thing_read = slice_get-map (thing_in s.texts) s.things a ∙ ap (option_map (thing_in s.texts)) (slice_get_read s.things (length s.things) a t refl within is)

  -- an object has no field past its last
  pub field_past : (k : ℕ) (fields : List Value) → values_in s.texts fields ≡ object_fields (Some (thing_in s.texts t)) → length fields ≤ k → null ≡ field_of (heap_of s) (at a) k
  field_past k fields e h =
      rw (thing_read, ← e) (sym (get_or_past (values_in s.texts fields) k null (rw length-map h)))

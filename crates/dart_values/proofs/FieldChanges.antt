-- An object that is changed at its address.
use Rattle.std.proofs.Common.{◌≡◌, ℕ, ◌<◌, ◌≤◌, List, length, map, get_or, Some, slice_set, refl, sym, ◌∙◌, ap, arith}
use Rattle.std.specs.Prelude.{All}
use Rattle.std.proofs.lemmas.List.{length-map, map-set, length-set, set_past}
use Rattle.std.proofs.lemmas.List.Elements.{All-set, All-weaker}
use Rattle.program.specs.declared.ids.ClassId.{ClassId}
use Rattle.dart_values.specs.declared.value.Value.{Value}
use Rattle.dart_values.specs.declared.heap.Thing.{Thing}
use Rattle.dart_values.specs.declared.heap.Thing.TheVariants.{Object, List as ListOf, Invocation}
use Rattle.dart_values.specs.Values as m
use Rattle.dart_values.specs.Values.{at, object, Heap}
use Rattle.dart_values.specs.Reads.{put_field, with_field}
use Rattle.dart_values.specs.Store.{Store, value_in, values_in, value_of, thing_in, heap_of, IsOf, IsThing, IsWhole, Keeps}
use Rattle.dart_values.proofs.Growth.{keeps_same, all_of_kept, of_kept}
use Rattle.dart_values.proofs.Addresses.{thing_is, thing_read}
use Rattle.dart_values.proofs.ListChanges.{same}

module _ (s : Store) (a : ℕ) (t : Thing) (within : a < length s.things) (is : t ≡ get_or s.things a t) where
  no_object : ((class : ClassId) (fields : List Value) → t ≡ Object class fields → ⊥) → (k : ℕ) (w : m.Value) (heap : Heap) (u : Thing) → u ≡ t → put_field (Some (thing_in s.texts u)) heap a k w ≡ heap
  no_object h k w heap (Object class fields) e = absurd (h class fields (sym e))
  no_object h k w heap (ListOf items) e = refl
  no_object h k w heap (Invocation name arguments kind) e = refl

  -- nothing is done
  pub untouched : ((class : ClassId) (fields : List Value) → t ≡ Object class fields → ⊥) → (k : ℕ) (w : m.Value)
      → heap_of (record { things = slice_set s.things a t; texts = s.texts }) ≡ with_field (heap_of s) (at a) k w
  untouched h k w =
      ap (map (thing_in s.texts)) (same s a t within is) ∙ sym (ap (λ o. put_field o (heap_of s) a k w) (thing_read s a t within is) ∙ no_object h k w (heap_of s) t refl)

  pub untouched_keeps : Keeps s (record { things = slice_set s.things a t; texts = s.texts })
  untouched_keeps = record { texts = (keeps_same s).texts; things = omega (arith, length-set s.things a t) }

module _ (s : Store) (whole : IsWhole s) (a : ℕ) (class : ClassId) (fields : List Value) (within : a < length s.things) (is : Object class fields ≡ get_or s.things a (Object class fields)) where
  abbrev pub with_fields : List Value → Store
  with_fields new = record { things = slice_set s.things a (Object class new); texts = s.texts }

  pub with_fields_keeps : (new : List Value) → Keeps s (with_fields new)
  with_fields_keeps new = record { texts = (keeps_same s).texts; things = omega (arith, length-set s.things a (Object class new)) }

  pub with_fields_whole : (new : List Value) → All (IsOf s) new → IsWhole (with_fields new)
  with_fields_whole new h =
      let k = with_fields_keeps new in
      All-set (IsThing (with_fields new)) s.things a (Object class new)
      ((thing_is s a (Object class fields) within is whole).0, All-weaker (IsOf s) (IsOf (with_fields new)) (of_kept s (with_fields new) k) new h)
      (all_of_kept s (with_fields new) k s.things whole)

  pub fields_are : All (IsOf s) fields
  fields_are = (thing_is s a (Object class fields) within is whole).1

  with_fields_heap : (new : List Value) (k : ℕ) (w : m.Value) → values_in s.texts new ≡ slice_set (values_in s.texts fields) k w
      → heap_of (with_fields new) ≡ with_field (heap_of s) (at a) k w
  with_fields_heap new k w e =
      map-set (thing_in s.texts) s.things a (Object class new) ∙ ap (λ xs. slice_set (heap_of s) a (object class.0 xs)) e
      ∙ sym (ap (λ o. put_field o (heap_of s) a k w) (thing_read s a (Object class fields) within is))

  pub field_set : (k : ℕ) (w : Value) → heap_of (with_fields (slice_set fields k w)) ≡ with_field (heap_of s) (at a) k (value_of s w)
  field_set k w = with_fields_heap (slice_set fields k w) k (value_of s w) (map-set (value_in s.texts) fields k w)

  pub field_past : (k : ℕ) (w : m.Value) → length fields ≤ k → heap_of (with_fields fields) ≡ with_field (heap_of s) (at a) k w
  field_past k w h = with_fields_heap fields k w (sym (set_past (values_in s.texts fields) k w (rw length-map h)))

-- The heap: each object has the fields of its class, and each address keeps its class.
use Rattle.std.proofs.Common.{◌≡◌, ℕ, ◌-◌, List, [], ◌∷◌, ◌++◌, length, map, take, refl, sym, ap, ◌∙◌, subst}
use Rattle.std.specs.Prelude.{Bool, true, false, if◌then◌else◌, nat_eq, slice_get, slice_set, slice_index_or, unwrap_or, Option, Some, None, Result, Ok, Err}
use Rattle.std.proofs.lemmas.List.{length-set, length-map, map-append}
use Rattle.std.proofs.lemmas.List.Elements.{All-nil, All-push, All-set}
use Rattle.std.proofs.lemmas.Option.{slice_get_within, unwrap_or-slice_get}
use Rattle.program.specs.Parts.{Parts}
use Rattle.dart_values.specs.declared.fault.Trap.{Trap}
use Rattle.dart_values.specs.declared.member.Member.{Member}
use Rattle.dart_values.specs.declared.member.Member.TheVariants as of
use Rattle.dart_values.specs.declared.member.ObjectMember.{ObjectMember}
use Rattle.dart_values.specs.declared.member.ObjectMember.TheVariants as o
use Rattle.dart_values.specs.declared.member.ListMember.{ListMember}
use Rattle.dart_values.specs.declared.member.ListMember.TheVariants as l
use Rattle.dart_values.specs.Members.{members}
use Rattle.dart_values.specs.Natives.{native_by, member_gives, object_member, list_member, with_items, index_in}
use Rattle.dart_values.specs.Reads.{with_field, put_field}
use Rattle.dart_values.specs.Values as v
use Rattle.dart_values.specs.Values.{Text, Value, null, Heap, Thing, object, list, invocation, classes, thing_class, Given, gives, traps, kept, given_from}
use Rattle.dart_meaning.specs.Laws.{IsFront}
use Rattle.dart_meaning.specs.Entry.{start}
use Rattle.dart_meaning.specs.Literals.{literal}
use Rattle.dart_meaning.specs.Numbered.{the_function}
use Rattle.dart_meaning.specs.Program.{running}
use Rattle.dart_meaning.proofs.Closed.{front_refl, front_more, classes-with_field}
use Rattle.dart_meaning.proofs.Counted.{LeavesClasses, native_leaves}
use Rattle.dart_meaning.proofs.Steady.{front_trans}
use Rattle.meaning_laws.specs.Laws.{IsThing, IsHeap, ObjectsHaveTheirFields, AddressesKeepTheirClass, EntryPointsRun}
use Rattle.meaning_laws.proofs.Closed.{IsNew}
use Rattle.meaning_laws.proofs.Stores.{Steps, entry_keeps}
use Rattle.meaning_laws.proofs.Turns.{globals_stay}

module _ (p : Parts) where
  -- what stands at an address
  pub is_thing : (heap : Heap) (a : ℕ) (thing : Thing) → slice_get heap a ≡ Some thing → IsHeap p heap → IsThing p thing
  is_thing heap a thing e h =
      subst (IsThing p) (sym (unwrap_or-slice_get heap a thing) ∙ ap (λ (o : Option Thing). unwrap_or o thing) e) (h a thing (slice_get_within heap a thing e))

  new_thing : (thing : Thing) → IsNew p thing → IsThing p thing
  new_thing (object class held) h = (ap length h.0, h.1, h.2)
  new_thing (list items) h = tt
  new_thing (invocation name args kind) h = tt

  -- ---- a field is written

  put_keeps : (heap : Heap) (a k : ℕ) (w : Value) (o : Option Thing) → slice_get heap a ≡ o → IsHeap p heap → IsHeap p (put_field o heap a k w)
  put_keeps heap a k w (Some (object class held)) e h =
      let t = is_thing heap a (object class held) e h in
      All-set (IsThing p) heap a (object class (slice_set held k w)) (length-set held k w ∙ t.0, t.1, t.2) h
  put_keeps heap a k w (Some (list items)) e h = h
  put_keeps heap a k w (Some (invocation name args kind)) e h = h
  put_keeps heap a k w None e h = h

  field_keeps : (heap : Heap) (u : Value) (k : ℕ) (w : Value) → IsHeap p heap → IsHeap p (with_field heap u k w)
  field_keeps heap (v.at a) k w h = put_keeps heap a k w (slice_get heap a) refl h
  field_keeps heap v.null k w h = h
  field_keeps heap (v.bool b) k w h = h
  field_keeps heap (v.num z) k w h = h
  field_keeps heap (v.text s) k w h = h

  -- ---- built-in members change lists alone

  abbrev Keeps : Heap → Given → Type 0
  Keeps heap (gives new w) = IsHeap p heap → IsHeap p new
  Keeps heap (traps t) = Unit {0}

  kept_keeps : (heap : Heap) (r : Result Value Trap) → Keeps heap (kept heap r)
  kept_keeps heap (Ok w) = λ h. h
  kept_keeps heap (Err t) = tt

  object_keeps : (names : ℕ → Text) (m : ObjectMember) (heap : Heap) (self w : Value) → Keeps heap (object_member names m heap self w)
  object_keeps names o.Equals heap self w = λ h. h
  object_keeps names o.ToString heap self w = λ h. h
  object_keeps names o.NoSuchMethod heap self w = tt

  found_keeps : {A : Type 0} (heap : Heap) (r : Result A Trap) (f : A → Given) → ((a : A) → Keeps heap (f a)) → Keeps heap (given_from r f)
  found_keeps heap (Ok a) f h = h a
  found_keeps heap (Err t) f h = tt

  else_keeps : (heap : Heap) (b : Bool) (g : Given) (t : Trap) → Keeps heap g → Keeps heap (if b then traps t else g)
  else_keeps heap true g t h = tt
  else_keeps heap false g t h = h

  if_keeps : (heap : Heap) (b : Bool) (g : Given) (t : Trap) → Keeps heap g → Keeps heap (if b then g else traps t)
  if_keeps heap true g t h = h
  if_keeps heap false g t h = tt

  items_keep : (heap : Heap) (self : Value) (items : List Value) → IsHeap p heap → IsHeap p (with_items heap self items)
  items_keep heap (v.at a) items h = All-set (IsThing p) heap a (list items) tt h
  items_keep heap v.null items h = All-set (IsThing p) heap _ (list items) tt h
  items_keep heap (v.bool b) items h = All-set (IsThing p) heap _ (list items) tt h
  items_keep heap (v.num z) items h = All-set (IsThing p) heap _ (list items) tt h
  items_keep heap (v.text s) items h = All-set (IsThing p) heap _ (list items) tt h

  list_keeps : (m : ListMember) (heap : Heap) (self : Value) (items : List Value) (w u : Value) → Keeps heap (list_member m heap self items w u)
  list_keeps l.ElementAt heap self items w u = found_keeps heap (index_in (length items) w) _ (λ k h. h)
  list_keeps l.SetElement heap self items w u = found_keeps heap (index_in (length items) w) _ (λ k. items_keep heap self (slice_set items k u))
  list_keeps l.Length heap self items w u = λ h. h
  list_keeps l.IsEmpty heap self items w u = λ h. h
  list_keeps l.Add heap self items w u = items_keep heap self (items ++ w ∷ [])
  list_keeps l.RemoveLast heap self items w u = else_keeps heap (nat_eq (length items) 0) _ _ (items_keep heap self (take (length items - 1) items))

  member_keeps : (names : ℕ → Text) (m : Member) (heap : Heap) (self w u : Value) → Keeps heap (member_gives names m heap self w u)
  member_keeps names (of.Object m) heap self w u = object_keeps names m heap self w
  member_keeps names of.NullToString heap self w u = λ h. h
  member_keeps names (of.BoolWith op) heap self w u = kept_keeps heap _
  member_keeps names of.BoolToString heap self w u = kept_keeps heap _
  member_keeps names (of.IntWith op) heap self w u = kept_keeps heap _
  member_keeps names (of.Int m) heap self w u = kept_keeps heap _
  member_keeps names of.IntToString heap self w u = kept_keeps heap _
  member_keeps names (of.String m) heap self w u = kept_keeps heap _
  member_keeps names (of.List m) heap self w u = found_keeps heap _ _ (λ items. list_keeps m heap self items w u)
  member_keeps names of.ListToString heap self w u = tt
  member_keeps names (of.Invocation m) heap self w u = kept_keeps heap _

  by_keeps : (names : ℕ → Text) (m : Option Member) (heap : Heap) (self : Value) (args : List Value) → Keeps heap (native_by names m heap self args)
  by_keeps names (Some m) heap self args = if_keeps heap _ _ _ (member_keeps names m heap self (slice_index_or args 0 null) (slice_index_or args 1 null))
  by_keeps names None heap self args = tt

  pub things : Steps p (λ s t. IsHeap p s.heap → IsHeap p t.heap)
  things = record {
    same = λ s h. h;
    on = λ a b c f g h. g (f h);
    globals = λ s k w h. h;
    fields = λ s u k w h. field_keeps s.heap u k w h;
    makes = λ s thing new h. All-push (IsThing p) s.heap thing h (new_thing thing new);
    natives = λ s names n u args heap w e. subst (Keeps s.heap) e (by_keeps names (slice_get members n) s.heap u args);
    lines = λ s line h. h;
    asks = λ s site u h. h;
    tests = λ s class named h. h;
    turns = λ s n e h. h;
  }

  -- ---- classes

  same_front : {A : Type 0} (xs ys : List A) → ys ≡ xs → IsFront xs ys
  same_front xs ys e = subst (IsFront xs) (sym e) (front_refl xs)

  pub kinds : Steps p (λ s t. IsFront (classes s.heap) (classes t.heap))
  kinds = record {
    same = λ s. front_refl (classes s.heap);
    on = λ a b c. front_trans (classes a.heap) (classes b.heap) (classes c.heap);
    globals = λ s k w. front_refl (classes s.heap);
    fields = λ s u k w. same_front (classes s.heap) _ (classes-with_field s.heap u k w);
    makes = λ s thing new. subst (IsFront (classes s.heap)) (sym (map-append thing_class s.heap (thing ∷ []))) (front_more (classes s.heap) (thing_class thing ∷ []));
    natives = λ s names n u args heap w e. same_front (classes s.heap) (classes heap) (subst (LeavesClasses s.heap) e (native_leaves names n s.heap u args));
    lines = λ s line. front_refl (classes s.heap);
    asks = λ s site u. front_refl (classes s.heap);
    tests = λ s class named. front_refl (classes s.heap);
    turns = λ s n e. front_refl (classes s.heap);
  }

pub objects_have_their_fields : ObjectsHaveTheirFields
objects_have_their_fields p sound depth x r = entry_keeps (things p) sound depth x r

pub addresses_keep_their_class : AddressesKeepTheirClass
addresses_keep_their_class p sound depth x r = entry_keeps (kinds p) sound depth x r

pub entry_points_run : EntryPointsRun
entry_points_run p sound depth f turns = record {
  heap = objects_have_their_fields p sound depth (running (the_function f) null []) (start (map literal p.globals) turns) (All-nil (IsThing p));
  globals = globals_stay p sound depth (running (the_function f) null []) (start (map literal p.globals) turns) ∙ length-map p.globals literal;
}

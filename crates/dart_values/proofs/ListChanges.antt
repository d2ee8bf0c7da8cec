-- A list that is changed at its address.
use Rattle.std.proofs.Common.{◌≡◌, ℕ, suc, ◌-◌, ◌<◌, false, List, [], ◌∷◌, ◌++◌, length, get_or, Some, slice_set, Result, Ok, Err, refl, sym, ◌∙◌, ap, subst, arith, length-append, nat_eq}
use Rattle.std.specs.Prelude.{All, IsErrAnd}
use Rattle.std.proofs.lemmas.List.{length-map, map-append, map-set, length-set, set-get_or}
use Rattle.std.proofs.lemmas.List.Elements.{All-set, All-weaker, All-pop}
use Rattle.std.proofs.lemmas.Bool.Decides.{nat_tests}
use Rattle.std.proofs.Math.Seq.{take-append_seam, get_or-append_seam}
use Rattle.dart_values.specs.declared.fault.Fault.{Fault}
use Rattle.dart_values.specs.declared.fault.Fault.TheVariants as fault
use Rattle.dart_values.specs.declared.fault.Trap.{Trap}
use Rattle.dart_values.specs.declared.fault.Trap.TheVariants as trap
use Rattle.dart_values.specs.declared.value.Value.{Value}
use Rattle.dart_values.specs.declared.value.Value.TheVariants.{Null}
use Rattle.dart_values.specs.declared.heap.Thing.{Thing}
use Rattle.dart_values.specs.declared.heap.Thing.TheVariants.{Object, List as ListOf, Invocation}
use Rattle.dart_values.specs.Values as m
use Rattle.dart_values.specs.Values.{null, at, list, Given, gives, traps, given_from}
use Rattle.dart_values.specs.Natives.{list_items, need_list, with_items, without_last, index_in}
use Rattle.dart_values.specs.Store.{Store, value_in, values_in, value_of, thing_in, heap_of, IsOf, IsThing, IsWhole, Keeps}
use Rattle.dart_values.specs.Doing.{Does}
use Rattle.dart_values.proofs.Growth.{keeps_same, all_of_kept, of_kept}
use Rattle.dart_values.proofs.Addresses.{thing_is, thing_read}

module _ (s : Store) (a : ℕ) (t : Thing) (within : a < length s.things) (is : t ≡ get_or s.things a t) where
  pub same : slice_set s.things a t ≡ s.things
  same = subst (λ u. slice_set s.things a u ≡ s.things) (sym is) (set-get_or s.things a t)

  no_list : ((items : List Value) → t ≡ ListOf items → ⊥) → (u : Thing) → u ≡ t → list_items (Some (thing_in s.texts u)) ≡ Err trap.TypeFault
  no_list h (Object class fields) e = refl
  no_list h (ListOf items) e = absurd (h items (sym e))
  no_list h (Invocation name arguments kind) e = refl

  pub not_found : ((items : List Value) → t ≡ ListOf items → ⊥) → need_list (heap_of s) (at a) ≡ Err trap.TypeFault
  not_found h = ap list_items (thing_read s a t within is) ∙ no_list h t refl

  -- nothing is done
  pub refused : (f : List m.Value → Given) → ((items : List Value) → t ≡ ListOf items → ⊥)
      → Does s (record { things = slice_set s.things a t; texts = s.texts }) (given_from (need_list (heap_of s) (at a)) f) (Err (fault.Trap trap.TypeFault))
  refused f h = record {
    answers = rw (not_found h) refl;
    of_heap = tt;
    keeps = rw same (keeps_same s);
    err = rw same refl;
  }

-- the error that `?` makes of a trap
pub trapped : (r : Result Value Fault) (t : Trap) → IsErrAnd r (λ f. f ≡ fault.Trap t) → r ≡ Err (fault.Trap t)
trapped (Ok v) t h = elim h [ ]
trapped (Err f) t h = ap Err h

one_more : (n : ℕ) → nat_eq (suc n) 0 ≡ false
one_more n = grind (arith, nat_tests)

without_last_is : (heap : m.Heap) (self : m.Value) (xs : List m.Value) (x : m.Value) → without_last heap self (xs ++ x ∷ []) ≡ gives (with_items heap self xs) x
without_last_is heap self xs x =
    let n : length (xs ++ x ∷ []) ≡ suc (length xs) = omega (arith, length-append xs (x ∷ [])) in
    let m : suc (length xs) - 1 ≡ length xs = omega arith in
    rw (n, one_more (length xs), m, take-append_seam xs (x ∷ []), get_or-append_seam xs x [] null) refl

module _ (s : Store) (whole : IsWhole s) (a : ℕ) (items : List Value) (within : a < length s.things) (is : ListOf items ≡ get_or s.things a (ListOf items)) where
  abbrev pub changed : List Value → Store
  changed new = record { things = slice_set s.things a (ListOf new); texts = s.texts }

  pub changed_keeps : (new : List Value) → Keeps s (changed new)
  changed_keeps new = record { texts = (keeps_same s).texts; things = omega (arith, length-set s.things a (ListOf new)) }

  pub changed_whole : (new : List Value) → All (IsOf s) new → IsWhole (changed new)
  changed_whole new h =
      let k = changed_keeps new in
      All-set (IsThing (changed new)) s.things a (ListOf new)
      (All-weaker (IsOf s) (IsOf (changed new)) (of_kept s (changed new) k) new h)
      (all_of_kept s (changed new) k s.things whole)

  pub changed_heap : (new : List Value) → heap_of (changed new) ≡ with_items (heap_of s) (at a) (values_in s.texts new)
  changed_heap new = map-set (thing_in s.texts) s.things a (ListOf new)

  pub found : need_list (heap_of s) (at a) ≡ Ok (values_in s.texts items)
  found = ap list_items (thing_read s a (ListOf items) within is)

  pub items_of : All (IsOf s) items
  items_of = thing_is s a (ListOf items) within is whole

  pub added : (v : Value) → Does s (changed (items ++ v ∷ [])) (given_from (need_list (heap_of s) (at a)) (λ xs. gives (with_items (heap_of s) (at a) (xs ++ value_of s v ∷ [])) null)) (Ok Null)
  added v = record {
    answers = rw (found, changed_heap (items ++ v ∷ []), map-append (value_in s.texts) items (v ∷ [])) refl;
    of_heap = tt;
    keeps = changed_keeps (items ++ v ∷ []);
    err = tt;
  }

  pub set_done : (k : ℕ) (v w : Value) → index_in (length items) (value_of s v) ≡ Ok k
      → Does s (changed (slice_set items k w)) (given_from (need_list (heap_of s) (at a)) (λ xs. given_from (index_in (length xs) (value_of s v)) (λ j. gives (with_items (heap_of s) (at a) (slice_set xs j (value_of s w))) null))) (Ok Null)
  set_done k v w e = record {
    answers = rw (found, length-map items (value_in s.texts), e, changed_heap (slice_set items k w), map-set (value_in s.texts) items k w) refl;
    of_heap = tt;
    keeps = changed_keeps (slice_set items k w);
    err = tt;
  }

  pub set_refused : (t : Trap) (v w : Value) → index_in (length items) (value_of s v) ≡ Err t
      → Does s (changed items) (given_from (need_list (heap_of s) (at a)) (λ xs. given_from (index_in (length xs) (value_of s v)) (λ j. gives (with_items (heap_of s) (at a) (slice_set xs j (value_of s w))) null))) (Err (fault.Trap t))
  set_refused t v w e = record {
    answers = rw (found, length-map items (value_in s.texts), e) refl;
    of_heap = tt;
    keeps = changed_keeps items;
    err = ap (λ ts. record { things = ts; texts = s.texts }) (same s a (ListOf items) within is);
  }

  pub rest_of : (rest : List Value) (last : Value) → items ≡ rest ++ last ∷ [] → All (IsOf s) rest × IsOf s last
  rest_of rest last e = All-pop (IsOf s) items rest (Some last) e items_of

  pub removed : (rest : List Value) (last : Value) → items ≡ rest ++ last ∷ []
      → Does s (changed rest) (given_from (need_list (heap_of s) (at a)) (λ xs. without_last (heap_of s) (at a) xs)) (Ok last)
  removed rest last e = record {
    answers =
        ap (λ r. given_from r (λ xs. without_last (heap_of s) (at a) xs)) (found ∙ ap (λ xs. Ok (values_in s.texts xs)) e ∙ ap Ok (map-append (value_in s.texts) rest (last ∷ [])))
        ∙ without_last_is (heap_of s) (at a) (values_in s.texts rest) (value_of s last)
        ∙ ap (λ h. gives h (value_of s last)) (sym (changed_heap rest));
    of_heap = of_kept s (changed rest) (changed_keeps rest) last (rest_of rest last e).1;
    keeps = changed_keeps rest;
    err = tt;
  }

  pub none_removed : (new : List Value) → items ≡ [] → new ≡ []
      → Does s (changed new) (given_from (need_list (heap_of s) (at a)) (λ xs. without_last (heap_of s) (at a) xs)) (Err (fault.Trap trap.RangeFault))
  none_removed new e g = record {
    answers = ap (λ r. given_from r (λ xs. without_last (heap_of s) (at a) xs)) (found ∙ ap (λ xs. Ok (values_in s.texts xs)) e);
    of_heap = tt;
    keeps = changed_keeps new;
    err = ap (λ ts. record { things = ts; texts = s.texts }) (ap (λ xs. slice_set s.things a (ListOf xs)) (g ∙ sym e) ∙ same s a (ListOf items) within is);
  }

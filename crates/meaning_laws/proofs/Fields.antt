-- An object has each field that its class declares, or one above it.
use Rattle.std.proofs.Common.{◌≡◌, ℕ, zero, suc, ◌<◌, ◌≤◌, List, [], ◌∷◌, ◌++◌, length, refl, ap, ◌∙◌, subst, arith, reverse, length-append}
use Rattle.std.specs.Prelude.{IsTrue, slice_get, flat_map, Option, Some, None}
use Rattle.std.proofs.lemmas.List.{reverse-append, length-map}
use Rattle.std.proofs.lemmas.Grind.{flat_map-append}
use Rattle.program.specs.declared.numbered.Class.{Class}
use Rattle.program.specs.declared.numbered.Field.{Field}
use Rattle.program.specs.BuiltIn.{is_open}
use Rattle.program.specs.Hierarchy.{chain, chain_of}
use Rattle.program.specs.Parts.{Parts, parents}
use Rattle.program.specs.Whole as whole
use Rattle.program.specs.Whole.{IsSound, Declares, fields_of}
use Rattle.program.proofs.Intervals.{Above, here, further, how, chain_step, before, above_le}
use Rattle.dart_values.specs.Natives.{thing_at}
use Rattle.dart_values.specs.Reads.{object_fields}
use Rattle.dart_values.specs.Values as v
use Rattle.dart_values.specs.Values.{Value, Heap, Thing, object, list, invocation, class_of, class_of_thing}
use Rattle.dart_meaning.specs.Literals.{literal}
use Rattle.dart_meaning.specs.Numbered.{own_values, fields}
use Rattle.meaning_laws.specs.Laws.{IsThing, IsHeap}
use Rattle.meaning_laws.specs.ThisLaws.{DeclaredFieldsAreThere, ListsAreThere}
use Rattle.meaning_laws.proofs.Heaps.{is_thing}

module _ (p : Parts) where
  own_length : (c : ℕ) (o : Option Class) → slice_get p.classes c ≡ o → length (own_values p c) ≡ whole.own_fields o
  own_length c (Some k) e = rw e (length-map k.fields (λ (f : Field). literal f.value))
  own_length c None e = rw e refl

  -- the meaning and the soundness of a program count the same fields
  length_fields : (cs : List ℕ) → length (flat_map (own_values p) (reverse cs)) ≡ fields_of p.classes cs
  length_fields [] = refl
  length_fields (c ∷ cs) =
      ap (λ xs. length (flat_map (own_values p) xs)) (reverse-append (c ∷ []) cs)
      ∙ ap length (flat_map-append (own_values p) (reverse cs) (c ∷ []))
      ∙ length-append (flat_map (own_values p) (reverse cs)) (own_values p c ++ [])
      ∙ omega (arith, length_fields cs, own_length c (slice_get p.classes c) refl, length-append (own_values p c) [])

  module _ (sound : IsSound p) where
    abbrev up : List (Option ℕ)
    up = parents p.classes

    fewer_above : (bound c owner : ℕ) → c < bound → Above up owner c → fields_of p.classes (chain up owner) ≤ fields_of p.classes (chain up c)
    fewer_above zero c owner lt h = absurd (omega (arith, lt))
    fewer_above (suc bound) c owner lt h = elim (how up sound.order owner c h) [
      | here e ↦ subst (λ k. fields_of p.classes (chain up owner) ≤ fields_of p.classes (chain up k)) e (omega arith)
      | further q e f ↦
          let low : q < c = before up sound.order c q e in
          let rest : fields_of p.classes (chain up owner) ≤ fields_of p.classes (chain up q) = fewer_above bound q owner (omega (arith, low, lt)) f in
          let step : chain up c ≡ c ∷ chain up q = chain_step up sound.order c ∙ ap (λ o. c ∷ chain_of up o) e in
          omega (arith, rest, ap (fields_of p.classes) step)
    ]

    -- a field that a class declares is a field of each class below it
    pub field_within : (owner class field : ℕ) → Declares p owner field → Above up owner class → field < length (fields p class)
    field_within owner class field d h =
        omega (arith, d.1, fewer_above (suc class) class owner (omega arith) h, length_fields (chain up class), ap (fields_of p.classes) (chain_step up sound.order owner))

    of_thing : (owner field : ℕ) → 7 ≤ owner → Declares p owner field → (o : Option Thing) → ((thing : Thing) → o ≡ Some thing → IsThing p thing) → Above up owner (class_of_thing o)
        → field < length (object_fields o)
    of_thing owner field big d (Some (object c held)) is h = let t = is (object c held) refl in omega (arith, t.0, field_within owner c field d h)
    of_thing owner field big d (Some (list items)) is h = absurd (omega (arith, big, above_le up sound.order owner 5 h))
    of_thing owner field big d (Some (invocation name args kind)) is h = absurd (omega (arith, big, above_le up sound.order owner 6 h))
    of_thing owner field big d None is h = absurd (omega (arith, big, above_le up sound.order owner 0 h))

    fields_there : (heap : Heap) (w : Value) (owner field : ℕ) → IsHeap p heap → 7 ≤ owner → Above up owner (class_of heap w) → Declares p owner field → field < length (object_fields (thing_at heap w))
    fields_there heap (v.at a) owner field good big h d = of_thing owner field big d (slice_get heap a) (λ thing e. is_thing p heap a thing e good) h
    fields_there heap v.null owner field good big h d = absurd (omega (arith, big, above_le up sound.order owner 1 h))
    fields_there heap (v.bool b) owner field good big h d = absurd (omega (arith, big, above_le up sound.order owner 2 h))
    fields_there heap (v.num z) owner field good big h d = absurd (omega (arith, big, above_le up sound.order owner 3 h))
    fields_there heap (v.text s) owner field good big h d = absurd (omega (arith, big, above_le up sound.order owner 4 h))

  not_open : (c : ℕ) → c ≡ 5 → IsTrue (is_open c) → ⊥
  not_open c e h = let no : IsTrue (is_open 5) = subst (λ k. IsTrue (is_open k)) e h in absurd (cc)

  list_of : (o : Option Thing) → ((thing : Thing) → o ≡ Some thing → IsThing p thing) → class_of_thing o ≡ 5 → (items : List Value) × (o ≡ Some (list items))
  list_of (Some (list items)) is e = (items, refl)
  list_of (Some (object c held)) is e = absurd (not_open c e (is (object c held) refl).1)
  list_of (Some (invocation name args kind)) is e = absurd (omega (arith, e))
  list_of None is e = absurd (omega (arith, e))

pub declared_fields_are_there : DeclaredFieldsAreThere
declared_fields_are_there p sound heap w owner field good h d = fields_there p sound heap w owner field good h.0 h.1 d

pub lists_are_there : ListsAreThere
lists_are_there p heap (v.at a) good e = list_of p (slice_get heap a) (λ thing x. is_thing p heap a thing x good) e
lists_are_there p heap v.null good e = absurd (omega (arith, e))
lists_are_there p heap (v.bool b) good e = absurd (omega (arith, e))
lists_are_there p heap (v.num z) good e = absurd (omega (arith, e))
lists_are_there p heap (v.text s) good e = absurd (omega (arith, e))

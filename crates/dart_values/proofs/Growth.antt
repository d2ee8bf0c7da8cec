-- A heap that grows keeps what its values mean.
use Rattle.std.proofs.Common.{◌≡◌, ℕ, zero, suc, ◌<◌, List, [], ◌∷◌, ◌++◌, length, map, refl, sym, ◌∙◌, ap, arith, length-append, append_assoc, append-nil}
use Rattle.std.specs.Prelude.{All}
use Rattle.program.specs.declared.numbered.SelectorKind.{SelectorKind}
use Rattle.std.proofs.lemmas.List.{map-append, length-map}
use Rattle.std.proofs.lemmas.List.Elements.{All-weaker, All-head, All-tail, All-append, All-cons, All-nil}
use Rattle.dart_values.specs.declared.value.Value.{Value}
use Rattle.dart_values.specs.declared.value.Value.TheVariants.{Null, Bool, Int, Str, Ref}
use Rattle.dart_values.specs.declared.heap.Thing.{Thing}
use Rattle.dart_values.specs.declared.heap.Thing.TheVariants.{Object, List as ListOf, Invocation}
use Rattle.dart_values.specs.Values.{Text, text, object, list, invocation, at}
use Rattle.dart_values.specs.Store.{Store, text_at, value_in, values_in, values_of, thing_in, heap_of, IsOf, IsThing, IsWhole, Keeps}

text_kept : (texts more : List Text) (i : ℕ) → i < length texts → text_at (texts ++ more) i ≡ text_at texts i
text_kept [] more i h = absurd (omega arith)
text_kept (t ∷ texts) more zero h = refl
text_kept (t ∷ texts) more (suc i) h = text_kept texts more i (omega arith)

pub text_new : (texts : List Text) (t : Text) → text_at (texts ++ t ∷ []) (length texts) ≡ t
text_new [] t = refl
text_new (u ∷ texts) t = text_new texts t

module _ (s : Store) (more : List Text) where
  value_kept : (v : Value) → IsOf s v → value_in (s.texts ++ more) v ≡ value_in s.texts v
  value_kept Null h = refl
  value_kept (Bool b) h = refl
  value_kept (Int z) h = refl
  value_kept (Str i) h = ap text (text_kept s.texts more i h)
  value_kept (Ref a) h = refl

  values_kept : (vs : List Value) → All (IsOf s) vs → values_in (s.texts ++ more) vs ≡ values_in s.texts vs
  values_kept [] h = refl
  values_kept (v ∷ vs) h = rw (value_kept v (All-head (IsOf s) v vs h), values_kept vs (All-tail (IsOf s) v vs h))

  thing_kept : (t : Thing) → IsThing s t → thing_in (s.texts ++ more) t ≡ thing_in s.texts t
  thing_kept (Object class fields) h = ap (object class.0) (values_kept fields h.1)
  thing_kept (ListOf items) h = ap list (values_kept items h)
  thing_kept (Invocation name arguments kind) h = ap (λ n. invocation n (at arguments) kind) (text_kept s.texts more name h.0)

  things_kept : (ts : List Thing) → All (IsThing s) ts → map (thing_in (s.texts ++ more)) ts ≡ map (thing_in s.texts) ts
  things_kept [] h = refl
  things_kept (t ∷ ts) h = rw (thing_kept t (All-head (IsThing s) t ts h), things_kept ts (All-tail (IsThing s) t ts h))

-- a value of a heap is one of the grown heap, and means the same
pub of_kept : (old new : Store) → Keeps old new → (v : Value) → IsOf old v → IsOf new v
of_kept old new k Null h = tt
of_kept old new k (Bool b) h = tt
of_kept old new k (Int z) h = tt
of_kept old new k (Str i) h = omega (arith, length-append old.texts k.texts.0, ap length k.texts.1)
of_kept old new k (Ref a) h = omega (arith, k.things)

pub thing_of_kept : (old new : Store) → Keeps old new → (t : Thing) → IsThing old t → IsThing new t
thing_of_kept old new k (Object class fields) h = (h.0, All-weaker (IsOf old) (IsOf new) (of_kept old new k) fields h.1)
thing_of_kept old new k (ListOf items) h = All-weaker (IsOf old) (IsOf new) (of_kept old new k) items h
thing_of_kept old new k (Invocation name arguments kind) h = (of_kept old new k (Str name) h.0, of_kept old new k (Ref arguments) h.1)

pub all_of_kept : (old new : Store) → Keeps old new → (ts : List Thing) → All (IsThing old) ts → All (IsThing new) ts
all_of_kept old new k ts h = All-weaker (IsThing old) (IsThing new) (thing_of_kept old new k) ts h

pub value_of_kept : (old new : Store) → Keeps old new → (v : Value) → IsOf old v → value_in new.texts v ≡ value_in old.texts v
value_of_kept old new k v h = rw k.texts.1 (value_kept old k.texts.0 v h)

-- Text t more.

abbrev pub with_text : Store → Text → Store
with_text s t = record { things = s.things; texts = s.texts ++ t ∷ [] }

pub with_text_keeps : (s : Store) (t : Text) → Keeps s (with_text s t)
with_text_keeps s t = record { texts = (t ∷ [], refl); things = omega arith }

pub with_text_whole : (s : Store) (t : Text) → IsWhole s → IsWhole (with_text s t)
with_text_whole s t h = all_of_kept s (with_text s t) (with_text_keeps s t) s.things h

pub with_text_heap : (s : Store) (t : Text) → IsWhole s → heap_of (with_text s t) ≡ heap_of s
with_text_heap s t h = things_kept s (t ∷ []) s.things h

-- A thing more.

abbrev pub with_thing : Store → Thing → Store
with_thing s t = record { things = s.things ++ t ∷ []; texts = s.texts }

pub with_thing_keeps : (s : Store) (t : Thing) → Keeps s (with_thing s t)
with_thing_keeps s t = record { texts = ([], sym (append-nil s.texts)); things = omega (arith, length-append s.things (t ∷ [])) }

pub with_thing_whole : (s : Store) (t : Thing) → IsWhole s → IsThing s t → IsWhole (with_thing s t)
with_thing_whole s t h g =
    let k = with_thing_keeps s t in
    All-append (IsThing (with_thing s t)) s.things (t ∷ []) (all_of_kept s (with_thing s t) k s.things h)
    (All-cons (IsThing (with_thing s t)) t [] (thing_of_kept s (with_thing s t) k t g) (All-nil (IsThing (with_thing s t))))

pub with_thing_heap : (s : Store) (t : Thing) → heap_of (with_thing s t) ≡ heap_of s ++ thing_in s.texts t ∷ []
with_thing_heap s t = map-append (thing_in s.texts) s.things (t ∷ [])

pub keeps_same : (s : Store) → Keeps s s
keeps_same s = record { texts = ([], sym (append-nil s.texts)); things = omega arith }

-- A list of arguments more, and the Invocation that has it.

abbrev pub with_invocation : Store → Text → List Value → SelectorKind → Store
with_invocation s name arguments kind =
    with_thing (with_thing (with_text s name) (ListOf arguments)) (Invocation (length s.texts) (length s.things) kind)

pub with_invocation_heap : (s : Store) (name : Text) (arguments : List Value) (kind : SelectorKind) → IsWhole s → All (IsOf s) arguments
    → heap_of (with_invocation s name arguments kind) ≡ heap_of s ++ (list (values_of s arguments) ∷ invocation name (at (length (heap_of s))) kind ∷ [])
with_invocation_heap s name arguments kind h g =
    rw (
      with_thing_heap (with_thing (with_text s name) (ListOf arguments)) (Invocation (length s.texts) (length s.things) kind),
      with_thing_heap (with_text s name) (ListOf arguments),
      with_text_heap s name h,
      values_kept s (name ∷ []) arguments g,
      text_new s.texts name,
      length-map s.things (thing_in s.texts),
    )
    (append_assoc (heap_of s) (list (values_of s arguments) ∷ []) (invocation name (at (length s.things)) kind ∷ []))

pub keeps_then : (a b c : Store) → Keeps a b → Keeps b c → Keeps a c
keeps_then a b c k g = record {
  texts = (k.texts.0 ++ g.texts.0, g.texts.1 ∙ ap (λ ts. ts ++ g.texts.0) k.texts.1 ∙ append_assoc a.texts k.texts.0 g.texts.0);
  things = omega (arith, k.things, g.things);
}

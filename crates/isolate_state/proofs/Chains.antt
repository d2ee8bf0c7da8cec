-- The classes above a class, and new objects.
use Rattle.std.proofs.Common.{◌≡◌, ℕ, zero, suc, ◌+◌, ◌-◌, ◌<◌, Bool, true, ◌&&◌, List, [], ◌∷◌, ◌++◌, length, map, slice_get, slice_index_or, refl, sym, ◌∙◌, ap, subst, arith, append_assoc}
use Rattle.std.specs.Prelude.{All, IsTrue, Option, Some, None, option_map, unwrap_or, flat_map, reverse}
use Rattle.program.specs.declared.numbered.Field.{Field}
use Rattle.dart_meaning.specs.Literals.{literal}
use Rattle.program.specs.declared.ids.ClassId.{ClassId}
use Rattle.program.specs.declared.numbered.Class.{Class}
use Rattle.program.specs.Hierarchy.{Parents, IsPreorder, parent_in, chain, chain_of}
use Rattle.program.specs.Parts.{Parts, parents, is_concrete}
use Rattle.program.specs.BuiltIn.{is_open}
use Rattle.std.proofs.lemmas.List.{reverse-append}
use Rattle.program.proofs.Intervals.{chain_step}
use Rattle.dart_values.specs.declared.value.Value.{Value}
use Rattle.dart_values.specs.Values as shown
use Rattle.dart_values.specs.Values.{at, object, classes}
use Rattle.dart_values.specs.Store.{Store, IsOf, Keeps, value_of, values_of, heap_of}
use Rattle.dart_values.proofs.Growth.{keeps_then}
use Rattle.dart_meaning.specs.Numbered.{fields, own_values}
use Rattle.dart_meaning.specs.Run.{new}
use Rattle.code_unit.specs.declared.instr.Instr.TheVariants.{New}
use Rattle.code_pool.specs.Machine.{State, Step, act, by, on, push, when, wrong_class}
use Rattle.isolate_state.specs.declared.isolate.Isolate.{Isolate}
use Rattle.isolate_state.specs.State.{seen, goes, Made}
use Rattle.isolate_state.proofs.Steps.{shown_push, when_holds}
use Rattle.isolate_state.proofs.Grown.{with_heap, classes_grow, went_made}

abbrev pub number : ClassId → ℕ
number k = k.0

pub parent_at : (cs : List Class) (k : ℕ) (d : Class) → k < length cs → option_map number (slice_index_or cs k d).parent ≡ parent_in (parents cs) k
parent_at [] k d h = absurd (omega (arith, h))
parent_at (c ∷ cs) zero d h = refl
parent_at (c ∷ cs) (suc k) d h = parent_at cs k d (omega arith)

-- one class more of the chain
pub chain_more : (up : Parents) → IsPreorder up → (found after : List ClassId) (k : ClassId) (now above : Option ℕ) (whole : List ℕ) → now ≡ Some k.0 → above ≡ parent_in up k.0
    → after ≡ found ++ k ∷ [] → map number found ++ chain_of up now ≡ whole → map number after ++ chain_of up above ≡ whole
chain_more up h found after k now above whole is parent pushed e =
    let here : chain_of up now ≡ k.0 ∷ chain_of up above = ap (chain_of up) is ∙ chain_step up h k.0 ∙ ap (λ o. k.0 ∷ chain_of up o) (sym parent) in
    ap (λ xs. xs ++ chain_of up above) (shown_push number after found k pushed)
    ∙ append_assoc (map number found) (k.0 ∷ []) (chain_of up above)
    ∙ ap (λ xs. map number found ++ xs) (sym here) ∙ e

pub chain_less : (up : Parents) → IsPreorder up → (k : ClassId) (now above : Option ℕ) → now ≡ Some k.0 → above ≡ parent_in up k.0 → length (chain_of up above) < length (chain_of up now)
chain_less up h k now above is parent =
    let here : chain_of up now ≡ k.0 ∷ chain_of up above = ap (chain_of up) is ∙ chain_step up h k.0 ∙ ap (λ o. k.0 ∷ chain_of up o) (sym parent) in
    let count = ap length here in
    omega (arith, count)

own_at : (cs : List Class) (k : ℕ) (item : Class) → k < length cs
    → unwrap_or (option_map (λ (c : Class). map (λ (f : Field). literal f.value) c.fields) (slice_get cs k)) [] ≡ map (λ (f : Field). literal f.value) (slice_index_or cs k item).fields
own_at [] k item h = absurd (omega (arith, h))
own_at (c ∷ cs) zero item h = refl
own_at (c ∷ cs) (suc k) item h = own_at cs k item (omega arith)

-- the fields of one class more
pub one_class : (p : Parts) (rest above : List ClassId) (k : ClassId) (item : Class) (declared : List Field) (vs ws whole : List shown.Value) → k.0 < length p.classes
    → declared ≡ (slice_index_or p.classes k.0 item).fields → above ≡ rest ++ k ∷ [] → vs ++ flat_map (own_values p) (reverse (map number above)) ≡ whole
    → ws ≡ vs ++ map (λ (f : Field). literal f.value) declared → ws ++ flat_map (own_values p) (reverse (map number rest)) ≡ whole
one_class p rest above k item declared vs ws whole there is pushed e added =
    let turned : reverse (map number above) ≡ k.0 ∷ reverse (map number rest) = ap reverse (shown_push number above rest k pushed) ∙ reverse-append (map number rest) (k.0 ∷ []) in
    let own : own_values p k.0 ≡ map (λ (f : Field). literal f.value) declared = own_at p.classes k.0 item there ∙ ap (map (λ (f : Field). literal f.value)) (sym is) in
    ap (λ xs. xs ++ flat_map (own_values p) (reverse (map number rest))) (added ∙ ap (λ xs. vs ++ xs) (sym own))
    ∙ append_assoc vs (own_values p k.0) (flat_map (own_values p) (reverse (map number rest)))
    ∙ ap (λ ks. vs ++ flat_map (own_values p) ks) (sym turned) ∙ e

pub makes : (p : Parts) (c : ClassId) (old after : Isolate) (mid : Store) (items : List Value) (w : Value) → IsTrue (is_open c.0) → IsTrue (is_concrete p.classes c.0)
    → values_of mid items ≡ fields p c.0 → heap_of mid ≡ heap_of old.heap → Keeps old.heap mid
    → value_of after.heap w ≡ at (length (heap_of mid)) → heap_of after.heap ≡ heap_of mid ++ object c.0 (values_of mid items) ∷ [] → IsOf after.heap w → Keeps mid after.heap
    → after.values.items ≡ old.values.items ++ w ∷ [] → Made p c old (with_heap old after)
makes p c old after mid items w extended concrete values same keeps value heap of_heap keeps_too pushed pool unit f turns held =
    let made : shown.Thing = object c.0 (fields p c.0) in
    let grown : heap_of after.heap ≡ heap_of old.heap ++ made ∷ [] = heap ∙ ap (λ hs. hs ++ object c.0 (values_of mid items) ∷ []) same ∙ ap (λ vs. heap_of old.heap ++ object c.0 vs ∷ []) values in
    let address : value_of after.heap w ≡ at (length (heap_of old.heap)) = value ∙ ap (λ hs. at (length hs)) same in
    went_made p pool (λ answers s. act p pool answers unit (New c) s) old after f turns old.values.items w held (keeps_then old.heap mid after.heap keeps keeps_too)
    (classes_grow p old.heap after.heap made grown held.concrete concrete) held.values of_heap pushed
    (λ answers asked tests h.
    let s : State = seen old f turns asked tests in
    let go : Step = by (new made) s (λ v s. push s s.values v) in
    let holds = when_holds wrong_class (is_open c.0 && is_concrete p.classes c.0) go h in
    ap (λ b. when wrong_class b go) holds
    ∙ ap (λ hs. on (record s { store = record s.store { heap = hs } }) (values_of old.heap old.values.items ++ at (length (heap_of old.heap)) ∷ [])) (sym grown)
    ∙ ap (λ u. on (record s { store = record s.store { heap = heap_of after.heap } }) (values_of old.heap old.values.items ++ u ∷ [])) (sym address))

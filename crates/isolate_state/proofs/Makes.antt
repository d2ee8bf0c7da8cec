-- What the instructions that make values do.
use Rattle.std.proofs.Common.{◌≡◌, ℕ, zero, suc, ◌+◌, ◌-◌, ◌<◌, ◌≤◌, true, List, [], ◌∷◌, ◌++◌, length, map, take, drop, refl, sym, ◌∙◌, ap, subst, arith}
use Rattle.std.specs.Prelude.{All, IsTrue, Option, Some, None, option_map}
use Rattle.std.proofs.lemmas.List.Elements.{All-take}
use Rattle.dart_values.specs.declared.value.Value.{Value}
use Rattle.dart_values.specs.Values as shown
use Rattle.dart_values.specs.Values.{Text, text, at, list, classes}
use Rattle.program.specs.Parts.{is_concrete}
use Rattle.dart_values.specs.Reads.{joined}
use Rattle.dart_values.specs.Store.{IsOf, Keeps, value_of, values_of, heap_of}
use Rattle.dart_meaning.specs.Run.{new}
use Rattle.code_unit.specs.declared.instr.Instr.TheVariants.{MakeList, Concat}
use Rattle.code_pool.specs.Machine.{State, Step, act, by, on, push, top, some, wrong_kind, texts}
use Rattle.isolate_state.specs.declared.frame.Frame.{Frame}
use Rattle.isolate_state.specs.declared.isolate.Isolate.{Isolate}
use Rattle.isolate_state.specs.State.{seen, goes, DoesNext}
use Rattle.isolate_state.proofs.Steps.{some_is}
use Rattle.isolate_state.proofs.Grown.{with_heap, classes_grow, went_made, top_split}

pub lists : (n k : ℕ) (old after : Isolate) (v : Value) → k ≡ length old.values.items - n → n ≤ length old.values.items → Keeps old.heap after.heap
    → value_of after.heap v ≡ at (length (heap_of old.heap)) → heap_of after.heap ≡ heap_of old.heap ++ list (values_of old.heap (drop k old.values.items)) ∷ []
    → IsOf after.heap v → after.values.items ≡ take k old.values.items ++ v ∷ [] → DoesNext (MakeList n) old (with_heap old after)
lists n k old after v ek some keeps value heap of_heap e f turns p pool unit held =
    let all : List Value = old.values.items in
    let made : shown.Thing = list (values_of old.heap (drop k all)) in
    went_made p pool (λ answers s. act p pool answers unit (MakeList n) s) old after f turns (take k all) v held keeps (classes_grow p old.heap after.heap made heap held.concrete (held.built_in 5 (omega arith)))
    (All-take (IsOf old.heap) k all held.values) of_heap e
    (λ answers asked tests h.
    let s : State = seen old f turns asked tests in
    let go : List shown.Value → List shown.Value → Step = λ below vs. by (new (list vs)) s (λ v s. push s below v) in
    top_split n unit old f turns asked tests go some h
    ∙ ap (λ (k : ℕ). go (values_of old.heap (take k all)) (values_of old.heap (drop k all))) (sym ek)
    ∙ ap (λ hs. on (record s { store = record s.store { heap = hs } }) (values_of old.heap (take k all) ++ at (length (heap_of old.heap)) ∷ [])) (sym heap)
    ∙ ap (λ w. on (record s { store = record s.store { heap = heap_of after.heap } }) (values_of old.heap (take k all) ++ w ∷ [])) (sym value))

joined_of : (a : Text) (vs : List shown.Value) (o : Option Text) (t : Text) → ((u : Text) → o ≡ Some u → joined vs ≡ u) → option_map (λ rest. a ++ rest) o ≡ Some t → a ++ joined vs ≡ t
joined_of a vs None t h e = absurd cc
joined_of a vs (Some u) t h e = let same : a ++ u ≡ t = cc in ap (λ rest. a ++ rest) (h u refl) ∙ same

texts_joined : (vs : List shown.Value) (t : Text) → texts vs ≡ Some t → joined vs ≡ t
texts_joined [] t e = cc
texts_joined (shown.text a ∷ vs) t e = joined_of a vs (texts vs) t (texts_joined vs) e
texts_joined (shown.null ∷ vs) t e = absurd cc
texts_joined (shown.bool b ∷ vs) t e = absurd cc
texts_joined (shown.num z ∷ vs) t e = absurd cc
texts_joined (shown.at k ∷ vs) t e = absurd cc

pub joins : (n k : ℕ) (old after : Isolate) (v : Value) → k ≡ length old.values.items - n → n ≤ length old.values.items → Keeps old.heap after.heap
    → value_of after.heap v ≡ text (joined (values_of old.heap (drop k old.values.items))) → heap_of after.heap ≡ heap_of old.heap
    → IsOf after.heap v → after.values.items ≡ take k old.values.items ++ v ∷ [] → DoesNext (Concat n) old (with_heap old after)
joins n k old after v ek enough keeps value heap of_heap e f turns p pool unit held =
    let all : List Value = old.values.items in
    went_made p pool (λ answers s. act p pool answers unit (Concat n) s) old after f turns (take k all) v held keeps
    (subst (λ hs. All (λ c. IsTrue (is_concrete p.classes c)) (classes hs)) (sym heap) held.concrete) (All-take (IsOf old.heap) k all held.values) of_heap e
    (λ answers asked tests h.
    let s : State = seen old f turns asked tests in
    let go : List shown.Value → List shown.Value → Step = λ below vs. some wrong_kind (texts vs) (λ t. push s below (text t)) in
    let first = top_split n unit old f turns asked tests go enough h ∙ ap (λ (k : ℕ). go (values_of old.heap (take k all)) (values_of old.heap (drop k all))) (sym ek) in
    let there = some_is wrong_kind (texts (values_of old.heap (drop k all))) (λ t. push s (values_of old.heap (take k all)) (text t)) (ap goes (sym first) ∙ h) in
    first
    ∙ ap (λ o. some wrong_kind o (λ t. push s (values_of old.heap (take k all)) (text t))) there.1
    ∙ ap (λ w. on s (values_of old.heap (take k all) ++ w ∷ [])) (ap text (sym (texts_joined (values_of old.heap (drop k all)) there.0 there.1)) ∙ sym value)
    ∙ ap (λ hs. on (record s { store = record s.store { heap = hs } }) (values_of old.heap (take k all) ++ value_of after.heap v ∷ [])) (sym heap))

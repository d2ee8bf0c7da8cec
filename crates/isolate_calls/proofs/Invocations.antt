-- An Invocation in the place of arguments.
use Rattle.std.proofs.Common.{◌≡◌, ℕ, suc, ◌+◌, ◌-◌, ◌<◌, ◌≤◌, List, [], ◌∷◌, ◌++◌, length, take, drop, slice_index_or, refl, sym, ◌∙◌, ap, subst, arith, append_assoc, length-append, drop-cons}
use Rattle.std.specs.Prelude.{All, IsTrue}
use Rattle.std.proofs.lemmas.List.{map-append}
use Rattle.std.proofs.lemmas.List.Elements.{All-push, All-take}
use Rattle.std.proofs.Math.Seq.{take-suc}
use Rattle.program.specs.Parts.{Parts, is_concrete}
use Rattle.program.specs.declared.numbered.Selector.{Selector}
use Rattle.dart_values.specs.declared.value.Value.{Value}
use Rattle.dart_values.specs.Values as shown
use Rattle.dart_values.specs.Values.{at, list, invocation, thing_class, classes}
use Rattle.dart_values.specs.Store.{IsOf, Keeps, value_of, values_of, heap_of}
use Rattle.dart_values.proofs.Growth.{value_of_kept}
use Rattle.dart_meaning.specs.Calls.{told_name}
use Rattle.code_pool.specs.Pool.{Pool}
use Rattle.isolate_state.specs.declared.isolate.Isolate.{Isolate}
use Rattle.isolate_state.specs.State.{IsHeld}
use Rattle.isolate_state.proofs.Steps.{shown_push}
use Rattle.isolate_state.proofs.Grown.{with_heap, held_heap, shown_kept, all_kept, Concrete}
use Rattle.isolate_state.proofs.Receives.{seam}
use Rattle.isolate_calls.specs.Sending.{Invoked}

-- what the code did is that
pub invokes : (sel : Selector) (n behind : ℕ) (old after : Isolate) (args : List Value) (v : Value) → behind ≡ length old.values.items - n + 1 → 0 < n → n ≤ length old.values.items
    → All (IsOf old.heap) old.values.items → args ≡ drop behind old.values.items
    → value_of after.heap v ≡ at (length (heap_of old.heap) + 1)
    → heap_of after.heap ≡ heap_of old.heap ++ (list (values_of old.heap args) ∷ invocation (told_name sel.kind sel.name) (at (length (heap_of old.heap))) sel.kind ∷ [])
    → IsOf after.heap v → Keeps old.heap after.heap → after.values.items ≡ take behind old.values.items ++ v ∷ [] → Invoked sel n old (with_heap old after)
invokes sel n behind old after args v is some enough of_old args_are value heap of_heap keeps e =
    let all : List Value = old.values.items in
    let k : ℕ = length all - n in
    let low : List Value = take k all in
    let x : Value = slice_index_or all k v in
    let behind_is : behind ≡ suc k = omega (arith, is) in
    let back : drop k all ≡ x ∷ drop (suc k) all = drop-cons all k v (omega (arith, some, enough)) in
    let front : take (suc k) all ≡ low ++ x ∷ [] = take-suc all k v (omega (arith, some, enough)) in
    let values : after.values.items ≡ low ++ x ∷ v ∷ [] =
    e ∙ ap (λ (j : ℕ). take j all ++ v ∷ []) behind_is ∙ ap (λ xs. xs ++ v ∷ []) front ∙ append_assoc low (x ∷ []) (v ∷ []) in
    let parts = seam after.values.items low (x ∷ v ∷ []) 2 values refl in
    let x_of : IsOf old.heap x = of_old k v (omega (arith, some, enough)) in
    let size : length after.values.items ≡ length low + 2 = ap length values ∙ length-append low (x ∷ v ∷ []) in
    record {
      receiver = value_of old.heap x;
      args = values_of old.heap args;
      were = ap (values_of old.heap) back ∙ ap (λ (j : ℕ). value_of old.heap x ∷ values_of old.heap (drop j all)) (sym behind_is) ∙ ap (λ xs. value_of old.heap x ∷ values_of old.heap xs) (sym args_are);
      lower = ap (values_of after.heap) parts.0 ∙ shown_kept old.heap after.heap keeps low (All-take (IsOf old.heap) k all of_old);
      now = ap (values_of after.heap) parts.1 ∙ ap (λ w. w ∷ value_of after.heap v ∷ []) (value_of_kept old.heap after.heap keeps x x_of) ∙ ap (λ w. value_of old.heap x ∷ w ∷ []) value;
      heap = heap;
      size = omega (arith, size);
      all = subst (All (IsOf after.heap)) (sym e) (All-push (IsOf after.heap) (take behind all) v (all_kept old.heap after.heap keeps (take behind all) (All-take (IsOf old.heap) behind all of_old)) of_heap);
      keeps = keeps;
      rest = refl;
    }

-- what is held stays held over it
pub held_invoked : (p : Parts) (pool : Pool) (sel : Selector) (n : ℕ) (old mid : Isolate) → Invoked sel n old mid → IsHeld p pool old → IsHeld p pool (with_heap old mid)
held_invoked p pool sel n old mid i held = held_heap p pool old mid held i.keeps grown i.all where
  P : ℕ → Type 0
  P c = IsTrue (is_concrete p.classes c)

  grown : Concrete p mid.heap
  grown =
      let a : shown.Thing = list i.args in
      let b : shown.Thing = invocation (told_name sel.kind sel.name) (at (length (heap_of old.heap))) sel.kind in
      let two : heap_of mid.heap ≡ (heap_of old.heap ++ a ∷ []) ++ b ∷ [] = i.heap ∙ sym (append_assoc (heap_of old.heap) (a ∷ []) (b ∷ [])) in
      let first : classes (heap_of old.heap ++ a ∷ []) ≡ classes (heap_of old.heap) ++ thing_class a ∷ [] = map-append thing_class (heap_of old.heap) (a ∷ []) in
      let second : classes (heap_of mid.heap) ≡ classes (heap_of old.heap ++ a ∷ []) ++ thing_class b ∷ [] = shown_push thing_class (heap_of mid.heap) (heap_of old.heap ++ a ∷ []) b two in
      let lower : All P (classes (heap_of old.heap ++ a ∷ [])) = subst (All P) (sym first) (All-push P (classes (heap_of old.heap)) (thing_class a) held.concrete (held.built_in 5 (omega arith))) in
      subst (All P) (sym second) (All-push P (classes (heap_of old.heap ++ a ∷ [])) (thing_class b) lower (held.built_in 6 (omega arith)))

-- Slots behind arguments, and values of literals.
use Rattle.std.proofs.Common.{◌≡◌, ℕ, zero, suc, ◌+◌, ◌-◌, ◌<◌, ◌≤◌, List, [], ◌∷◌, ◌++◌, length, map, take, drop, replicate, slice_index_or, refl, sym, ◌∙◌, ap, subst, arith, append_assoc, length-drop}
use Rattle.std.specs.Prelude.{All}
use Rattle.std.proofs.lemmas.List.{length-map, map-append, append-nil}
use Rattle.std.proofs.lemmas.List.Elements.{All-append, All-push, All-cons, All-nil}
use Rattle.std.proofs.Math.Seq.{drop-length, take-length}
use Rattle.program.specs.declared.literal.Literal.{Literal}
use Rattle.dart_values.specs.declared.value.Value.{Value}
use Rattle.dart_values.specs.declared.value.Value.TheVariants as v
use Rattle.dart_values.specs.Values as shown
use Rattle.dart_values.specs.Store.{Store, IsOf, Keeps, value_of, values_of, heap_of}
use Rattle.dart_values.proofs.Growth.{keeps_same, keeps_then}
use Rattle.dart_meaning.specs.Literals.{literal}
use Rattle.code_unit.specs.declared.unit.Unit.{Unit}
use Rattle.isolate_state.specs.declared.isolate.Isolate.{Isolate}
use Rattle.isolate_state.specs.State.{Filled}
use Rattle.isolate_state.proofs.Steps.{shown_push}
use Rattle.isolate_state.proofs.Grown.{all_kept, shown_kept}

shown_nulls : (heap : Store) (k : ℕ) → values_of heap (replicate k v.Null) ≡ replicate k shown.null
shown_nulls heap zero = refl
shown_nulls heap (suc k) = ap (λ xs. shown.null ∷ xs) (shown_nulls heap k)

all_nulls : (heap : Store) (k : ℕ) → All (IsOf heap) (replicate k v.Null)
all_nulls heap zero = All-nil (IsOf heap)
all_nulls heap (suc k) = All-cons (IsOf heap) v.Null (replicate k v.Null) tt (all_nulls heap k)

drop_map : {A B : Type 0} (f : A → B) (n : ℕ) (xs : List A) → drop n (map f xs) ≡ map f (drop n xs)
drop_map f zero xs = refl
drop_map f (suc n) [] = refl
drop_map f (suc n) (x ∷ xs) = drop_map f n xs

pub filled_plain : (unit : Unit) (n k : ℕ) (old new : Isolate) → n ≡ unit.params → All (IsOf old.heap) old.values.items → new.values.items ≡ old.values.items ++ replicate k v.Null
    → new ≡ record old { values = new.values } → Filled unit n k old new
filled_plain unit n k old new is all e rest =
    let heap : new.heap ≡ old.heap = ap (λ (i : Isolate). i.heap) rest in
    let count : n + length unit.defaults - unit.params ≡ length (map literal unit.defaults) = omega (arith, is, length-map unit.defaults literal) in
    let none : drop (n + length unit.defaults - unit.params) (map literal unit.defaults) ≡ [] = ap (λ (j : ℕ). drop j (map literal unit.defaults)) count ∙ drop-length (map literal unit.defaults) in
    let whole : values_of old.heap new.values.items ≡ values_of old.heap old.values.items ++ (drop (n + length unit.defaults - unit.params) (map literal unit.defaults) ++ replicate k shown.null) =
    ap (values_of old.heap) e ∙ map-append (value_of old.heap) old.values.items (replicate k v.Null) ∙ ap (λ xs. values_of old.heap old.values.items ++ xs) (shown_nulls old.heap k)
    ∙ ap (λ ds. values_of old.heap old.values.items ++ (ds ++ replicate k shown.null)) (sym none) in
    let here : All (IsOf old.heap) new.values.items = subst (All (IsOf old.heap)) (sym e) (All-append (IsOf old.heap) old.values.items (replicate k v.Null) all (all_nulls old.heap k)) in
    record {
      values = ap (λ (h : Store). values_of h new.values.items) heap ∙ whole;
      all = subst (λ (h : Store). All (IsOf h) new.values.items) (sym heap) here;
      same = ap heap_of heap;
      keeps = subst (Keeps old.heap) (sym heap) (keeps_same old.heap);
      rest = rest ∙ ap (λ (h : Store). record old { heap = h; values = new.values }) (sym heap);
    }

pub filled_more : (unit : Unit) (n k : ℕ) (old mid new : Isolate) → Filled unit n 0 old mid → new.values.items ≡ mid.values.items ++ replicate k v.Null
    → new ≡ record mid { values = new.values } → Filled unit n k old new
filled_more unit n k old mid new filled e rest =
    let heap : new.heap ≡ mid.heap = ap (λ (i : Isolate). i.heap) rest in
    let ds : List shown.Value = drop (n + length unit.defaults - unit.params) (map literal unit.defaults) in
    let whole : values_of mid.heap new.values.items ≡ values_of old.heap old.values.items ++ (ds ++ replicate k shown.null) =
    ap (values_of mid.heap) e ∙ map-append (value_of mid.heap) mid.values.items (replicate k v.Null) ∙ ap (λ xs. values_of mid.heap mid.values.items ++ xs) (shown_nulls mid.heap k)
    ∙ ap (λ xs. xs ++ replicate k shown.null) (filled.values ∙ ap (λ xs. values_of old.heap old.values.items ++ xs) (append-nil ds))
    ∙ append_assoc (values_of old.heap old.values.items) ds (replicate k shown.null) in
    let here : All (IsOf mid.heap) new.values.items = subst (All (IsOf mid.heap)) (sym e) (All-append (IsOf mid.heap) mid.values.items (replicate k v.Null) filled.all (all_nulls mid.heap k)) in
    record {
      values = ap (λ (h : Store). values_of h new.values.items) heap ∙ whole;
      all = subst (λ (h : Store). All (IsOf h) new.values.items) (sym heap) here;
      same = ap heap_of heap ∙ filled.same;
      keeps = subst (Keeps old.heap) (sym heap) filled.keeps;
      rest = rest ∙ ap (λ (i : Isolate). record i { values = new.values }) filled.rest ∙ ap (λ (h : Store). record old { heap = h; values = new.values }) (sym heap);
    }

pub defaulted : (unit : Unit) (n k : ℕ) (old new : Isolate) (missing : List Literal) → n ≤ unit.params → unit.params ≤ n + length unit.defaults → k ≡ length unit.defaults - (unit.params - n)
    → missing ≡ take (length unit.defaults - k) (drop k unit.defaults) → values_of new.heap new.values.items ≡ values_of old.heap old.values.items ++ map literal missing
    → All (IsOf new.heap) new.values.items → heap_of new.heap ≡ heap_of old.heap → Keeps old.heap new.heap → new ≡ record old { heap = new.heap; values = new.values } → Filled unit n 0 old new
defaulted unit n k old new missing few enough is e values all same keeps rest =
    let at : k ≡ n + length unit.defaults - unit.params = omega (arith, is, few, enough) in
    let whole : missing ≡ drop k unit.defaults = e ∙ ap (λ (j : ℕ). take j (drop k unit.defaults)) (sym (length-drop k unit.defaults)) ∙ take-length (drop k unit.defaults) in
    let shown_missing : map literal missing ≡ drop (n + length unit.defaults - unit.params) (map literal unit.defaults) =
    ap (map literal) whole ∙ sym (drop_map literal k unit.defaults) ∙ ap (λ (j : ℕ). drop j (map literal unit.defaults)) at in
    record {
      values = values ∙ ap (λ xs. values_of old.heap old.values.items ++ xs) (shown_missing ∙ sym (append-nil (drop (n + length unit.defaults - unit.params) (map literal unit.defaults))));
      all = all;
      same = same;
      keeps = keeps;
      rest = rest;
    }

-- one value more, of what stands for it
pub one_more : {A : Type 0} (g : A → shown.Value) (start old new : Store) (first values after : List Value) (items : List A) (k : ℕ) (item : A) (w : Value)
    → values_of old values ≡ values_of start first ++ map g (take k items) → All (IsOf old) values → Keeps old new → take (k + 1) items ≡ take k items ++ item ∷ []
    → value_of new w ≡ g item → after ≡ values ++ w ∷ [] → values_of new after ≡ values_of start first ++ map g (take (k + 1) items)
one_more g start old new first values after items k item w e all keeps more is pushed =
    shown_push (value_of new) after values w pushed
    ∙ ap (λ xs. xs ++ value_of new w ∷ []) (shown_kept old new keeps values all ∙ e)
    ∙ append_assoc (values_of start first) (map g (take k items)) (value_of new w ∷ [])
    ∙ ap (λ u. values_of start first ++ (map g (take k items) ++ u ∷ [])) is
    ∙ ap (λ xs. values_of start first ++ xs) (sym (shown_push g (take (k + 1) items) (take k items) item more))

take_suc : {A : Type 0} (xs : List A) (k : ℕ) (x : A) → k < length xs → x ≡ slice_index_or xs k x → take (suc k) xs ≡ take k xs ++ x ∷ []
take_suc [] k x h is = absurd (omega (arith, h))
take_suc (y ∷ xs) zero x h is = ap (λ z. z ∷ []) (sym is)
take_suc (y ∷ xs) (suc k) x h is = ap (λ zs. y ∷ zs) (take_suc xs k x (omega arith) is)

pub take_more : {A : Type 0} (xs : List A) (k : ℕ) (x : A) → k < length xs → x ≡ slice_index_or xs k x → take (k + 1) xs ≡ take k xs ++ x ∷ []
take_more xs k x h is = let e : k + 1 ≡ suc k = omega arith in ap (λ (j : ℕ). take j xs) e ∙ take_suc xs k x h is

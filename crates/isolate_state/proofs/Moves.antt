-- What the instructions on slots, variables and operands do.
use Rattle.std.proofs.Common.{◌≡◌, ℕ, zero, suc, ◌+◌, ◌-◌, ◌<◌, true, ◌&&◌, nat_lt, List, [], ◌∷◌, ◌++◌, length, map, take, drop, slice_get, slice_set, slice_index_or, refl, sym, ◌∙◌, ap, subst, arith, append_assoc, take-append-drop, drop-cons}
use Rattle.std.proofs.lemmas.Bool.Decides.{nat_tests}
use Rattle.std.proofs.Math.Seq.{drop-length}
use Rattle.std.specs.Prelude.{All, Some}
use Rattle.std.proofs.lemmas.List.{map-set}
use Rattle.std.proofs.lemmas.List.Elements.{All-push, All-pop, All-set}
use Rattle.program.specs.Parts.{Parts}
use Rattle.program.specs.declared.numbered.Target.{Target}
use Rattle.dart_values.specs.declared.value.Value.{Value}
use Rattle.dart_values.specs.Values as shown
use Rattle.dart_values.specs.Store.{IsOf, value_of, values_of, heap_of}
use Rattle.program.specs.declared.literal.Literal.{Literal}
use Rattle.dart_meaning.specs.Literals.{literal}
use Rattle.code_unit.specs.declared.instr.Instr.{Instr}
use Rattle.code_unit.specs.declared.instr.Instr.TheVariants.{Const, Local, SetLocal, Global, SetGlobal, Pop, Dup, Dup2}
use Rattle.code_unit.specs.declared.unit.Unit.{Unit}
use Rattle.code_pool.specs.Pool.{Pool}
use Rattle.code_pool.specs.Machine.{State, Step, act, on, push, when, some, no_slot, no_number, top_one, top_two}
use Rattle.isolate_state.specs.declared.frame.Frame.{Frame}
use Rattle.isolate_state.specs.declared.frame.Flow.TheVariants as flow
use Rattle.isolate_state.specs.declared.isolate.Isolate.{Isolate}
use Rattle.isolate_state.specs.State.{seen, next, goes, IsHeld, Did, DoesAll}
use Rattle.isolate_state.proofs.Steps.{map_push, shown_push, when_holds, top_one_is, top_two_is}
use Rattle.isolate_state.proofs.Held.{map_get, shown_at, with_values, held_values, did_on, did_push}

-- a constant is what its literal stands for
pushes_literal : (all : List Literal) (k : ℕ) (v : shown.Value) (s : State) → slice_get (map literal all) k ≡ Some v
    → some no_number (slice_get all k) (λ c. push s s.values (literal c)) ≡ push s s.values v
pushes_literal [] k v s e = absurd cc
pushes_literal (l ∷ all) zero v s e = let same : literal l ≡ v = cc in ap (push s s.values) same
pushes_literal (l ∷ all) (suc k) v s e = pushes_literal all k v s e

pub constants : (k : ℕ) (old after : Isolate) (f : Frame) (v : Value) → k < length old.constants.items → v ≡ slice_index_or old.constants.items k v
    → after.values.items ≡ old.values.items ++ v ∷ [] → DoesAll (Const k) old f flow.Here (with_values old after) (next f)
constants k old after f v there is e turns p pool unit held =
    let same : slice_get (map literal pool.constants) k ≡ Some (value_of old.heap v) =
    ap (λ (xs : List shown.Value). slice_get xs k) (sym held.literals) ∙ shown_at (value_of old.heap) old.constants.items k v there is in
    did_push p pool unit (Const k) old after f turns v held (subst (IsOf old.heap) (sym is) (held.constants k v there)) e
    (λ answers asked tests h. pushes_literal pool.constants k (value_of old.heap v) (seen old f turns asked tests) same)

-- a test of the machine that holds
lt_true : (n k : ℕ) → n < k → nat_lt n k ≡ true
lt_true n k h = grind (arith, nat_tests)

pub locals : (i : ℕ) (old after : Isolate) (f : Frame) (v : Value) → f.base + i < length old.values.items → v ≡ slice_index_or old.values.items (f.base + i) v
    → after.values.items ≡ old.values.items ++ v ∷ [] → DoesAll (Local i) old f flow.Here (with_values old after) (next f)
locals i old after f v there is e turns p pool unit held =
    did_push p pool unit (Local i) old after f turns v held (subst (IsOf old.heap) (sym is) (held.values (f.base + i) v there)) e
    (λ answers asked tests h. rw (when_holds no_slot (nat_lt i unit.locals) _ h) (rw (shown_at (value_of old.heap) old.values.items (f.base + i) v there is) refl))

pub globals : (g : ℕ) (old after : Isolate) (f : Frame) (v : Value) → g < length old.globals.items → v ≡ slice_index_or old.globals.items g v
    → after.values.items ≡ old.values.items ++ v ∷ [] → DoesAll (Global g) old f flow.Here (with_values old after) (next f)
globals g old after f v there is e turns p pool unit held =
    did_push p pool unit (Global g) old after f turns v held (subst (IsOf old.heap) (sym is) (held.globals g v there)) e
    (λ answers asked tests h. rw (shown_at (value_of old.heap) old.globals.items g v there is) refl)

-- what stands below and on top of what was taken
pub below_is : (P : Value → Type 0) (all below : List Value) (v : Value) → all ≡ below ++ v ∷ [] → All P all → All P below × P v
below_is P all below v e h = All-pop P all below (Some v) e h

pub pops : (old after : Isolate) (f : Frame) (v : Value) → old.values.items ≡ after.values.items ++ v ∷ []
    → DoesAll Pop old f flow.Here (with_values old after) (next f)
pops old after f v e turns p pool unit held =
    did_on p pool unit Pop old after f turns held (below_is (IsOf old.heap) old.values.items after.values.items v e held.values).0
    (λ answers asked tests h. top_one_is unit (seen old f turns asked tests) (values_of old.heap after.values.items) (value_of old.heap v) (λ below v. on (seen old f turns asked tests) below)
    (shown_push (value_of old.heap) old.values.items after.values.items v e) h)

pub sets_local : (i : ℕ) (old mid after : Isolate) (f : Frame) (v : Value) → f.base + i + 1 < length old.values.items → old.values.items ≡ mid.values.items ++ v ∷ []
    → after.values.items ≡ slice_set mid.values.items (f.base + i) v → DoesAll (SetLocal i) old f flow.Here (with_values old after) (next f)
sets_local i old mid after f v there e set turns p pool unit held =
    let parts = below_is (IsOf old.heap) old.values.items mid.values.items v e held.values in
    did_on p pool unit (SetLocal i) old after f turns held (subst (All (IsOf old.heap)) (sym set) (All-set (IsOf old.heap) mid.values.items (f.base + i) v parts.1 parts.0))
    (λ answers asked tests h.
    let s : State = seen old f turns asked tests in
    let below : List shown.Value = values_of old.heap mid.values.items in
    let first = top_one_is unit s below (value_of old.heap v) (λ below v. when no_slot (nat_lt i unit.locals && nat_lt (f.base + i) (length below)) (on s (slice_set below (f.base + i) v)))
    (shown_push (value_of old.heap) old.values.items mid.values.items v e) h in
    let holds = when_holds no_slot (nat_lt i unit.locals && nat_lt (f.base + i) (length below)) (on s (slice_set below (f.base + i) (value_of old.heap v))) (ap goes (sym first) ∙ h) in
    first ∙ rw holds (ap (on s) (sym (ap (map (value_of old.heap)) set ∙ map-set (value_of old.heap) mid.values.items (f.base + i) v))))

pub sets_global : (g : ℕ) (old mid : Isolate) (new : Isolate) (f : Frame) (v : Value) → g < length old.globals.items → old.values.items ≡ mid.values.items ++ v ∷ []
    → new.globals.items ≡ slice_set old.globals.items g v → DoesAll (SetGlobal g) old f flow.Here (record old { values = mid.values; globals = new.globals }) (next f)
sets_global g old mid new f v there e set turns p pool unit held =
    let parts = below_is (IsOf old.heap) old.values.items mid.values.items v e held.values in
    record {
      led = λ answers asked tests h.
          let s : State = seen old f turns asked tests in
          let below : List shown.Value = values_of old.heap mid.values.items in
          let go : List shown.Value → shown.Value → Step = λ below v. when no_number (nat_lt g (length s.store.globals))
          (on (record s { store = record s.store { globals = slice_set s.store.globals g v } }) below) in
          let first : act p pool answers unit (SetGlobal g) s ≡ go below (value_of old.heap v) = top_one_is unit s below (value_of old.heap v) go
          (shown_push (value_of old.heap) old.values.items mid.values.items v e) h in
          let holds = when_holds no_number (nat_lt g (length s.store.globals)) _ (ap goes (sym first) ∙ h) in
          first ∙ rw holds (ap (λ (gs : List shown.Value). on (record s { store = record s.store { globals = gs } }) below) (sym (ap (map (value_of old.heap)) set ∙ map-set (value_of old.heap) old.globals.items g v)));
      held = record { values = parts.0; globals = subst (All (IsOf old.heap)) (sym set) (All-set (IsOf old.heap) old.globals.items g v parts.1 held.globals); constants = held.constants; literals = held.literals; concrete = held.concrete; built_in = held.built_in };
      stays = refl;
      calls = refl;
    }

-- a list ends in its last item
pub last_split : (xs : List Value) (v : Value) → 0 < length xs → v ≡ slice_index_or xs (length xs - 1) v → xs ≡ take (length xs - 1) xs ++ v ∷ []
last_split xs v h is =
    let back : drop (length xs - 1) xs ≡ slice_index_or xs (length xs - 1) v ∷ drop (suc (length xs - 1)) xs = drop-cons xs (length xs - 1) v (omega arith) in
    let end : suc (length xs - 1) ≡ length xs = omega arith in
    let none : drop (suc (length xs - 1)) xs ≡ [] = rw end (drop-length xs) in
    sym (take-append-drop (length xs - 1) xs) ∙ ap (λ vs. take (length xs - 1) xs ++ vs) (back ∙ ap (λ vs. slice_index_or xs (length xs - 1) v ∷ vs) none ∙ ap (λ (w : Value). w ∷ []) (sym is))

-- and in the one before it
pub two_split : (xs : List Value) (v w : Value) → 1 < length xs → v ≡ slice_index_or xs (length xs - 2) v → w ≡ slice_index_or xs (length xs - 1) w
    → xs ≡ (take (length xs - 2) xs ++ v ∷ []) ++ w ∷ []
two_split xs v w h first second =
    let back : drop (length xs - 2) xs ≡ slice_index_or xs (length xs - 2) v ∷ drop (suc (length xs - 2)) xs = drop-cons xs (length xs - 2) v (omega arith) in
    let on : suc (length xs - 2) ≡ length xs - 1 = omega arith in
    let rest : drop (length xs - 1) xs ≡ slice_index_or xs (length xs - 1) w ∷ drop (suc (length xs - 1)) xs = drop-cons xs (length xs - 1) w (omega arith) in
    let end : suc (length xs - 1) ≡ length xs = omega arith in
    let none : drop (suc (length xs - 1)) xs ≡ [] = rw end (drop-length xs) in
    let tail : drop (length xs - 1) xs ≡ w ∷ [] = rest ∙ ap (λ vs. slice_index_or xs (length xs - 1) w ∷ vs) none ∙ ap (λ (w : Value). w ∷ []) (sym second) in
    sym (take-append-drop (length xs - 2) xs)
    ∙ ap (λ vs. take (length xs - 2) xs ++ vs) (back ∙ ap (λ (n : ℕ). slice_index_or xs (length xs - 2) v ∷ drop n xs) on ∙ ap (λ vs. slice_index_or xs (length xs - 2) v ∷ vs) tail ∙ ap (λ (u : Value). u ∷ w ∷ []) (sym first))
    ∙ sym (append_assoc (take (length xs - 2) xs) (v ∷ []) (w ∷ []))

pub dups : (old after : Isolate) (f : Frame) (v : Value) → 0 < length old.values.items → v ≡ slice_index_or old.values.items (length old.values.items - 1) v
    → after.values.items ≡ old.values.items ++ v ∷ [] → DoesAll Dup old f flow.Here (with_values old after) (next f)
dups old after f v some is e turns p pool unit held =
    let below : List Value = take (length old.values.items - 1) old.values.items in
    did_push p pool unit Dup old after f turns v held (subst (IsOf old.heap) (sym is) (held.values (length old.values.items - 1) v (omega (arith, some)))) e
    (λ answers asked tests h. top_one_is unit (seen old f turns asked tests) (values_of old.heap below) (value_of old.heap v)
    (λ below v. on (seen old f turns asked tests) (values_of old.heap old.values.items ++ v ∷ []))
    (shown_push (value_of old.heap) old.values.items below v (last_split old.values.items v some is)) h)

pub dups_two : (old mid after : Isolate) (f : Frame) (v w : Value) → 1 < length old.values.items → v ≡ slice_index_or old.values.items (length old.values.items - 2) v
    → w ≡ slice_index_or old.values.items (length old.values.items - 1) w → mid.values.items ≡ old.values.items ++ v ∷ [] → after.values.items ≡ mid.values.items ++ w ∷ []
    → DoesAll Dup2 old f flow.Here (with_values old after) (next f)
dups_two old mid after f v w some is_v is_w e_v e_w turns p pool unit held =
    let heap = old.heap in
    let below : List Value = take (length old.values.items - 2) old.values.items in
    let of_v : IsOf heap v = subst (IsOf heap) (sym is_v) (held.values (length old.values.items - 2) v (omega (arith, some))) in
    let of_w : IsOf heap w = subst (IsOf heap) (sym is_w) (held.values (length old.values.items - 1) w (omega (arith, some))) in
    let split = two_split old.values.items v w some is_v is_w in
    let shown_split = shown_push (value_of heap) old.values.items (below ++ v ∷ []) w split ∙ ap (λ vs. vs ++ value_of heap w ∷ []) (map_push (value_of heap) below v) in
    let shown_after = shown_push (value_of heap) after.values.items mid.values.items w e_w ∙ ap (λ vs. vs ++ value_of heap w ∷ []) (shown_push (value_of heap) mid.values.items old.values.items v e_v)
    ∙ append_assoc (values_of heap old.values.items) (value_of heap v ∷ []) (value_of heap w ∷ []) in
    did_on p pool unit Dup2 old after f turns held
    (subst (All (IsOf heap)) (sym e_w) (All-push (IsOf heap) mid.values.items w (subst (All (IsOf heap)) (sym e_v) (All-push (IsOf heap) old.values.items v held.values of_v)) of_w))
    (λ answers asked tests h. top_two_is unit (seen old f turns asked tests) (values_of heap below) (value_of heap v) (value_of heap w)
    (λ below v w. on (seen old f turns asked tests) (values_of heap old.values.items ++ v ∷ w ∷ [])) shown_split h ∙ ap (on (seen old f turns asked tests)) (sym shown_after))

-- the same, where the length is known by another name
pub dups_at : (n : ℕ) (old after : Isolate) (f : Frame) (v : Value) → n ≡ length old.values.items → 0 < length old.values.items → v ≡ slice_index_or old.values.items (n - 1) v
    → after.values.items ≡ old.values.items ++ v ∷ [] → DoesAll Dup old f flow.Here (with_values old after) (next f)
dups_at n old after f v size some is e = dups old after f v some (subst (λ (k : ℕ). v ≡ slice_index_or old.values.items (k - 1) v) size is) e

pub dups_two_at : (n : ℕ) (old mid after : Isolate) (f : Frame) (v w : Value) → n ≡ length old.values.items → 1 < length old.values.items → v ≡ slice_index_or old.values.items (n - 2) v
    → w ≡ slice_index_or old.values.items (n - 1) w → mid.values.items ≡ old.values.items ++ v ∷ [] → after.values.items ≡ mid.values.items ++ w ∷ []
    → DoesAll Dup2 old f flow.Here (with_values old after) (next f)
dups_two_at n old mid after f v w size some is_v is_w e_v e_w = dups_two old mid after f v w some
    (subst (λ (k : ℕ). v ≡ slice_index_or old.values.items (k - 2) v) size is_v) (subst (λ (k : ℕ). w ≡ slice_index_or old.values.items (k - 1) w) size is_w) e_v e_w
